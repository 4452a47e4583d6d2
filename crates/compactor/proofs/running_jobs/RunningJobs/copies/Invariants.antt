use Rattle.std.proofs.Common.{◌≡◌, map, reverse}
use Rattle.tablet_model.specs.Sorted.{sorted}
use Rattle.compactor.specs.Jobs.{is_behind, job_of}
use Rattle.compactor.proofs.running_jobs.RunningJobs.copies.Given as goal

abbrev pub invariant-loop-running : goal.invariant-loop-running
invariant-loop-running l = map job_of l.jobs.items ≡ sorted is_behind (map job_of (reverse (map (λ running. running.now) l.yielded)))
