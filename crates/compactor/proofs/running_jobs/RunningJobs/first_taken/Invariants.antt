use Rattle.std.proofs.Common.{◌≡◌, drop}
use Rattle.tablet_model.specs.Steps.{first_taken}
use Rattle.compactor.proofs.running_jobs.RunningJobs.first_taken.Given as goal

abbrev pub invariant-loop-file : goal.invariant-loop-file
invariant-loop-file l = first_taken l.self l.files ≡ first_taken l.self (drop l.file-index l.file-items)
