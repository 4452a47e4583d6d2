use Rattle.std.proofs.Common.{◌≡◌, Some, IfSome, sym, ap, subst, ◌∙◌}
use Rattle.std.specs.Arc.{arc_value}
use Rattle.tablet_model.specs.Stands.{AreBelow}
use Rattle.tablet_model.specs.Steps.{find_job}
use Rattle.tablet_model.specs.Store.{RunningJob}
use Rattle.compactor.specs.Compacted.{entries_made}
use Rattle.compactor.specs.Jobs.{job_of}
use Rattle.tablet_view.specs.Snapshot.{IsMajorOf}
use Rattle.tablet_core.specs.State.{IsStandingCore}
use Rattle.tablet_core.proofs.Flushes.{files_below}
use Rattle.tablet_core.proofs.Finishes.{made_in, major_is}
use Rattle.tablet_core.proofs.core_state.Core.replaced.Goals as goal

pub install_major-requires-clause-above : goal.install_major-requires-clause-above
install_major-requires-clause-above c = subst (λ v. AreBelow c.self.inside.next v.files) (sym c.deref.ensures) (files_below record { view = arc_value c.self.inside.view; next = c.self.inside.next; jobs = c.self.inside.jobs } c.self.invariant)

pub install_major-requires-clause-made : goal.install_major-requires-clause-made
install_major-requires-clause-made c =
    let t : RunningJob = job_of c.in-Some.running.now in
    let found : find_job c.args.job c.args.self.now.jobs ≡ Some t = ap (λ k. find_job c.args.job k.jobs) (sym c.self.view_is) ∙ sym c.in-Some.ensures in
    let cells : entries_made c.args.done.now ≡ made_in c.args.self.now t = subst (λ o. IfSome o (λ t. entries_made c.args.done.now ≡ made_in c.args.self.now t)) found c.requires.made in
    subst (λ v. IsMajorOf v t.ids (entries_made c.args.done.now)) (sym (c.deref.ensures ∙ ap (λ k. k.view) c.self.view_is))
    (major_is c.args.self.now c.args.job t (entries_made c.args.done.now) found cells (subst IsStandingCore c.self.view_is c.self.invariant))
