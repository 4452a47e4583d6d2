use Rattle.std.proofs.Common.{◌≡◌}
use Rattle.compactor.proofs.running_jobs.RunningJobs.in_order.Given as goal

abbrev pub invariant-loop-running : goal.invariant-loop-running
invariant-loop-running l = l.states ≡ l.yielded
