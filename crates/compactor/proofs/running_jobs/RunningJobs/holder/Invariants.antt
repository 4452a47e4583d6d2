use Rattle.std.proofs.Common.{◌≡◌, drop, map}
use Rattle.tablet_model.specs.Steps.{holder}
use Rattle.compactor.specs.Jobs.{job_of}
use Rattle.compactor.proofs.running_jobs.RunningJobs.holder.Given as goal

abbrev pub invariant-loop-running : goal.invariant-loop-running
invariant-loop-running l = holder l.file l.self ≡ holder l.file (map job_of (drop l.running-index l.running-items))
