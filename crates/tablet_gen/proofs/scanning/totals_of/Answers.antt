use Rattle.std.proofs.Common.{IfOk, subst}
use Rattle.tablet_gen.specs.Scanned.{AreTotalsOf}
use Rattle.tablet_gen.proofs.scanning.totals_of.Goals as goal

pub returns : goal.returns
returns g c = subst (λ list. IfOk c.of_rest.result (AreTotalsOf list)) c.in_ok-seek.ensures.rest c.of_rest.ensures
