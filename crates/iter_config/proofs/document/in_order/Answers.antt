use Rattle.std.proofs.Common.{◌≡◌, ℕ, false, List, sym, ◌∙◌}
use Rattle.std.proofs.lemmas.List.Elements.{All-from_recursion}
use Rattle.iter_config.specs.Rules.{is_full_under_versions, leaves_scans, number_by, out_of_order, shares_column}
use Rattle.iter_config.specs.declared.iter_spec.IterSpec.{IterSpec}
use Rattle.iter_config.proofs.Repeats.{IsDistinct-from_first_clash, distinct-from_first_beyond_scans, prefixes-from_first_gap, scans-from_first_beyond_scans, scans-from_first_unscanned}
use Rattle.iter_config.proofs.document.in_order.Goals as goal

pub returns-clause-rules : goal.returns-clause-rules
returns-clause-rules c =
    let number : List IterSpec → IterSpec → ℕ = λ before s. number_by c.args.priorities.now s in
    record {
      few = c.requires.few;
      limits = c.requires.limits;
      names = c.requires.names;
      priorities = c.requires.priorities;
      order = c.requires.order;
      scans = scans-from_first_unscanned c.args.priorities.now _ (rw c.deref.ensures.value at (sym c.first_unscanned.ensures ∙ c.in_default.is));
      prefixes = prefixes-from_first_gap c.args.priorities.now _ (rw c.deref-2.ensures.value at (sym c.first_gap.ensures ∙ c.in_default-first_gap.is));
      in_scans =
          All-from_recursion (λ s. leaves_scans s ≡ false) _ (scans-from_first_beyond_scans c.args.priorities.now false _ (rw c.deref-3.ensures.value at (sym c.first_beyond_scans.ensures ∙ c.in_default-first_beyond_scans.is)));
      uncombined =
          distinct-from_first_beyond_scans c.args.priorities.now false _ (rw c.deref-3.ensures.value at (sym c.first_beyond_scans.ensures ∙ c.in_default-first_beyond_scans.is));
      base_order =
          IsDistinct-from_first_clash number out_of_order _ (rw c.deref-4.ensures.value at (sym c.first_breaking.ensures ∙ c.in_default-first_breaking.is));
      apart =
          IsDistinct-from_first_clash number shares_column _ (rw c.deref-5.ensures.value at (sym c.first_breaking-2.ensures ∙ c.in_default-first_breaking-2.is));
      not_newest =
          IsDistinct-from_first_clash number is_full_under_versions _
          (rw c.deref-6.ensures.value at (sym c.first_breaking-3.ensures ∙ c.in_default-first_breaking-3.is));
    }
