use Rattle.std.proofs.Common.{IfOk, subst}
use Rattle.tablet_model.specs.Cuts.{within}
use Rattle.script_text.specs.Scans.{all_keys}
use Rattle.tablet_gen.specs.Scanned.{AreTotalsOf}
use Rattle.tablet_gen.proofs.scanning.totals_of_scan.Goals as goal

pub returns : goal.returns
returns g c = subst (λ list. IfOk c.totals_of.result (AreTotalsOf (within all_keys list))) c.in_ok-build.ensures.same_cells c.totals_of.ensures
