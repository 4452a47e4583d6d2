use Rattle.std.proofs.Common.{◌≡◌, drop, map}
use Rattle.tablet_model.specs.Steps.{find_job}
use Rattle.compactor.specs.Jobs.{job_of}
use Rattle.compactor.proofs.running_jobs.RunningJobs.find.Given as goal

abbrev pub invariant-loop-running : goal.invariant-loop-running
invariant-loop-running l = find_job l.job l.self ≡ find_job l.job (map job_of (drop l.running-index l.running-items))
