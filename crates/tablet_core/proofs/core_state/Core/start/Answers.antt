use Rattle.std.proofs.Common.{◌≡◌, ◌++◌, ◌∷◌, [], cond, is_ok, sym, subst, ◌∙◌}
use Rattle.tablet_model.specs.Store.{RunningJob}
use Rattle.tablet_core.specs.State.{IsStandingCore}
use Rattle.tablet_core.proofs.Starts.{start_keeps}
use Rattle.tablet_core.proofs.core_state.Core.start.Goals as goal

pub invariant_of-self : goal.invariant_of-self
invariant_of-self c =
    let t : RunningJob = record { job = c.args.job; full = c.args.full; ids = c.args.files.now } in
    let jobs : c.start.new.self ≡ cond (is_ok c.start.result) (c.args.self.now.jobs ++ t ∷ []) c.args.self.now.jobs = c.start.ensures ∙ (λ i. cond (is_ok c.start.result) ((c.self.view_is i).jobs ++ record { job = c.args.job; full = c.args.full; ids = c.in_ok-files.ensures i } ∷ []) (c.self.view_is i).jobs) in
    subst IsStandingCore (λ i. record { view = (sym c.self.view_is i).view; next = (sym c.self.view_is i).next; jobs = c.start.new.self })
    (start_keeps c.args.self.now t (is_ok c.start.result) c.start.new.self c.requires.free c.requires.full c.view.ensures.stands c.view.ensures.jobs jobs)
