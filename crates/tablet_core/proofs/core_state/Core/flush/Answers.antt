use Rattle.std.proofs.Common.{Some, ◌≡◌, true, false, is_some, None, sym, ap, ◌∙◌}
use Rattle.tablet_model.specs.Steps as model
use Rattle.tablet_core.specs.Jobs.{flush_of}
use Rattle.tablet_steps.specs.ModelSteps.{model_refusal_of}
use Rattle.tablet_core.proofs.Flushes.{flush_frozen, job_flushes}
use Rattle.tablet_core.proofs.Finishes.{none_found}
use Rattle.tablet_core.proofs.Moves.{unmade}
use Rattle.tablet_core.proofs.core_state.Core.flush.Goals as goal

pub returns-in-Some : goal.returns-in-Some
returns-in-Some c = unmade model.flush c.args.self.now (Some (model_refusal_of c.in-Some.refusal)) c.in-Some.ensures

pub install_flush-requires-clause-made : goal.install_flush-requires-clause-made
install_flush-requires-clause-made c = job_flushes c.args.self.now.view c.in-Ok-Some.done c.args.self.now.view.frozen (sym c.in-Ok-Some.field-0-is ∙ c.in-Ok-Some.ensures)

pub returns-in-Ok-None : goal.returns-in-Ok-None
returns-in-Ok-None c =
    let none : c.args.self.now.view.frozen ≡ None = none_found (flush_of c.args.self.now.view) c.args.self.now.view.frozen (sym c.in-Ok-None.field-0-is ∙ c.in-Ok-None.ensures) in
    let some : is_some c.args.self.now.view.frozen ≡ true = flush_frozen c.args.self.now c.in_default.ensures in
    let wrong : false ≡ true = ap is_some (sym none) ∙ some in
    absurd (cc)

pub returns-in-Err : goal.returns-in-Err
returns-in-Err c = unmade model.flush c.args.self.now None (sym c.in_default.ensures)
