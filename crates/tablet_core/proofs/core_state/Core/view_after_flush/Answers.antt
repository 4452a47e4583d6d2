use Rattle.std.proofs.Common.{subst, sym}
use Rattle.std.specs.Arc.{arc_value}
use Rattle.tablet_model.specs.Stands.{AreBelow}
use Rattle.tablet_core.proofs.Flushes.{files_below}
use Rattle.tablet_core.proofs.core_state.Core.view_after_flush.Goals as goal

pub install_flush-requires-clause-above : goal.install_flush-requires-clause-above
install_flush-requires-clause-above c = subst (λ v. AreBelow c.self.inside.next v.files) (sym c.deref.ensures) (files_below record { view = arc_value c.self.inside.view; next = c.self.inside.next; jobs = c.self.inside.jobs } c.self.invariant)
