use Rattle.std.proofs.Common.{◌∙◌, List, ℕ, nat_cmp, get_or, length, map, take, subst, sym, ap, arith}
use Rattle.std.proofs.lemmas.Result.{MatchResult-at_err, MatchResult-at_ok}
use Rattle.std.specs.List.Sorted.{IsBinarySearchResult}
use Rattle.cell_key.specs.FileNumbers.{AreAscending}
use Rattle.cell_key.proofs.Gathered.{ascends_gathered}
use Rattle.cell_key.proofs.Numbering.{searched_with}
use Rattle.compactor.proofs.Plans.{one_more}
use Rattle.compactor.proofs.planner.numbers.Goals as goal
use Rattle.compactor.proofs.planner.numbers.Goals.{in-Err, in_default}

pub loop-file-preserved : goal.loop-file-preserved
loop-file-preserved c =
    let set = c.args.set.now in
    let i = c.loop-file.file-index in
    let ids = c.loop-file.ids.items in
    let id = (get_or set i (record { id = 0; count = 0 })).id in
    let up : AreAscending ids = subst AreAscending (sym c.loop-file.invariant.numbers) (ascends_gathered (map (λ f. f.id) (take i set))) in
    let at = subst (λ (l : List ℕ). IsBinarySearchResult (λ y. nat_cmp y id) l c.binary_search.result) c.as_slice.ensures.value c.binary_search.ensures.position in
    let found = searched_with ids id c.binary_search.result up at in
    let next = one_more set i (record { id = 0; count = 0 }) ids c.loop-file-test.true c.loop-file.invariant.numbers in
    elim c.match-binary_search.branch [
      | in-Err w ↦ record {
        numbers = ap (λ l. l.items) w.ids-is ∙ w.insert.ensures.items ∙ MatchResult-at_err _ _ _ w.in-Err.is found ∙ next;
        few = omega (arith, ap (λ l. length l.items) w.ids-is, w.insert.ensures.len, c.loop-file.invariant.few);
      }
      | in_default w ↦ record {
        numbers = ap (λ l. l.items) w.ids-is ∙ MatchResult-at_ok _ _ _ w.in_default.is found ∙ next;
        few = omega (arith, ap (λ l. length l.items) w.ids-is, c.loop-file.invariant.few);
      }
    ]
