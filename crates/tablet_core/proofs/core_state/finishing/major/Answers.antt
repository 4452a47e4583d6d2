use Rattle.std.proofs.Common.{◌≡◌, map, IfOk, sym, subst, ◌∙◌}
use Rattle.std.specs.Arc.{arc_value}
use Rattle.tablet_model.specs.Rules.{AreStorable}
use Rattle.iter_config.specs.RulesOf.{rules_of}
use Rattle.compactor.specs.PartCells.{part_cells, union_of}
use Rattle.compactor.specs.Jobs.{job_of}
use Rattle.tablet_view.proofs.Inputs.{files_storable}
use Rattle.tablet_core.specs.Jobs.{major_of}
use Rattle.tablet_core.proofs.Finishes.{parts_sum}
use Rattle.tablet_core.proofs.core_state.finishing.major.Goals as goal

pub new-requires-clause-storable : goal.new-requires-clause-storable
new-requires-clause-storable c =
    subst (λ d. AreStorable (rules_of d) (union_of c.in_ok-parts.parts.items)) (sym (c.in_ok-config.ensures ∙ c.config.ensures.config))
    (subst (AreStorable (rules_of c.args.view.now.config)) (sym (parts_sum c.args.running.now.files c.args.view.now.files (map part_cells c.in_ok-parts.parts.items) c.in_ok-parts.ensures)) (files_storable c.args.view.now c.args.running.now.files c.config.ensures.stands))

pub returns : goal.returns
unfolding major_of
returns c =
    let same : record { config = arc_value c.in_ok-config.config; usage = c.usage_of.result; input = union_of c.in_ok-parts.parts.items } ≡ major_of c.args.view.now (job_of c.args.running.now) = (λ i. record {
      config = (c.in_ok-config.ensures ∙ c.config.ensures.config) i;
      usage = c.usage_of.ensures i;
      input = parts_sum c.args.running.now.files c.args.view.now.files (map part_cells c.in_ok-parts.parts.items) c.in_ok-parts.ensures i;
    }) in
    subst (λ m. IfOk c.new.result (λ job. job ≡ m)) same c.new.ensures
