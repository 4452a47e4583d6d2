use Rattle.std.proofs.Common.{◌≡◌, ap, ◌∙◌, map, sym}
use Rattle.std.proofs.lemmas.Iterator.Adapters.{YieldsList-from_vec}
use Rattle.std.proofs.lemmas.Iterator.Consumers.{YieldsList-end}
use Rattle.std.proofs.lemmas.List.{map-id}
use Rattle.compactor.specs.declared.job_state.JobState.{JobState}
use Rattle.compactor.specs.Jobs.{job_of}
use Rattle.compactor.proofs.running_jobs.RunningJobs.in_order.Goals as goal

pub returns : goal.returns
returns c =
    let all : map (λ (running : JobState). running) c.loop-running.yielded ≡ c.in_ok-running-items.running-items.items = (YieldsList-end (YieldsList-from_vec {s = c.into_iter-running-iterator.result} c.in_ok-running-items.running-items.items (cc) (cc)) c.loop-running.yielded c.loop-running.running-iterator c.loop-running.yielded_by c.next.result c.next.new.self c.in-None.is c.next.ensures.steps).0 in
    ap (λ l. map job_of l) (c.loop-running.invariant ∙ sym (map-id c.loop-running.yielded) ∙ all) ∙ c.in_ok-running-items.ensures
