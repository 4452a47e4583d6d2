use Rattle.std.proofs.Common.{◌≡◌, ◌-◌, Some, length, ap, ◌∙◌, arith}
use Rattle.std.specs.Prelude.{slice_get}
use Rattle.std.proofs.lemmas.Bool.Decides.{nat_tests}
use Rattle.cell_key.specs.Views.{cell_of}
use Rattle.scan_session.specs.Takes.{mode_of}
use Rattle.scan_session.proofs.Running.{may_end_behind}
use Rattle.scan_session.proofs.run.may_end.Goals as goal

pub returns-then-count-len : goal.returns-then-count-len
returns-then-count-len c =
    let is_last : Some c.in-Some.last.now ≡ slice_get c.args.run.now (length c.args.run.now - 1) =
    c.in-Some.ensures.value ∙ ap (λ l. slice_get l (length l - 1)) c.as_slice.ensures in
    let e = may_end_behind (mode_of c.args.isolated) c.args.count c.args.run.now c.in-Some.last.now (cell_of c.args.next) is_last in
    grind (arith, nat_tests)
