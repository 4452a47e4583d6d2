use Rattle.std.proofs.Common.{◌-◌, length, ap, ◌∙◌}
use Rattle.std.specs.Prelude.{slice_get}
use Rattle.scan_session.specs.Takes.{behind, mode_of}
use Rattle.scan_session.proofs.Running.{moved_behind}
use Rattle.scan_session.proofs.run.position_behind_run.Goals as goal

pub returns-in_ok-position_behind-in-Some-clause-place : goal.returns-in_ok-position_behind-in-Some-clause-place
returns-in_ok-position_behind-in-Some-clause-place c = λ old.
    c.in_ok-position_behind-in-Some.ensures.place
    ∙ ap (behind (mode_of c.args.isolated)) c.entry.ensures.entry
    ∙ moved_behind (mode_of c.args.isolated) c.args.run.now c.in-Some.last.now old
    (c.in-Some.ensures.value ∙ ap (λ l. slice_get l (length l - 1)) c.as_slice.ensures)
