use Rattle.std.proofs.Common.{◌≡◌, List, subst}
use Rattle.std.specs.Prelude.{IfOk}
use Rattle.tablet_model.specs.Cell.{Cell}
use Rattle.iter_contract.specs.VecRest.{vec_cells}
use Rattle.iterator_tests.proofs.ExampleRows.{flags_sorted}
use Rattle.iterator_tests.proofs.combining.flags.Goals as goal

pub returns : goal.returns
returns c = subst (λ (cells : List Cell). IfOk c.source.result (λ source. vec_cells source ≡ cells)) flags_sorted c.source.ensures
