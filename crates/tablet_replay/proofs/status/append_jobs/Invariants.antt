use Rattle.std.proofs.Common.{◌≡◌, ◌++◌, take}
use Rattle.tablet_replay.specs.StatusText.{state_lines}
use Rattle.tablet_replay.proofs.status.append_jobs.Given as goal

abbrev pub invariant-loop-job : goal.invariant-loop-job
invariant-loop-job l = l.text ≡ l.fn.text ++ state_lines (take l.job-index l.jobs)
