use Rattle.std.proofs.Common.{◌≡◌, sym, ◌∙◌, subst}
use Rattle.std.specs.Arc.{arc_value}
use Rattle.tablet_core.specs.State.{IsStandingCore, empty_core}
use Rattle.tablet_core.proofs.Moves.{empty_standing}
use Rattle.tablet_core.proofs.core_state.Core.open.Goals as goal

pub invariant_of-result : goal.invariant_of-result
invariant_of-result c =
    let same : record { view = arc_value c.in_ok-view.view; next = 1; jobs = c.new-2.result } ≡ empty_core (arc_value c.args.config) = (λ i. record { view = (c.in_ok-view.ensures.ok ∙ c.in_ok-open.ensures) i; next = 1; jobs = c.new-2.ensures i }) in
    subst IsStandingCore (sym same) (empty_standing (arc_value c.args.config))
