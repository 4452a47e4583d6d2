use Rattle.std.proofs.Common.{◌≡◌, rules, ap, ◌∙◌, ◌<◌, ◌≤◌, length, map, sym, unwrap_or}
use Rattle.std.specs.List.{insert}
use Rattle.std.proofs.lemmas.Iterator.{IsFirst-from_position, YieldsList-from_slice, index_from_first}
use Rattle.compactor.specs.declared.job_state.JobState.{JobState}
use Rattle.compactor.specs.Jobs.{job_of}
use Rattle.compactor.proofs.Lists.{before, before_goes, before_none, before_stops, insert_put}
use Rattle.compactor.proofs.running_jobs.put.Goals as goal

place : (c : goal.In_ok-insert) → before c.args.job.job c.args.jobs.now.items ≡ unwrap_or c.position-place.result (length c.args.jobs.now.items)
place c = index_from_first (before c.args.job.job) (λ (t : JobState). c.args.job.job ≤ t.job) (λ (t : JobState). t.job < c.args.job.job)
    (before_none c.args.job.job) (before_stops c.args.job.job) (before_goes c.args.job.job) c.args.jobs.now.items c.position-place.result
    (IsFirst-from_position _ _ _ (λ (t : JobState). c.args.job.job ≤ t.job) (λ (t : JobState). t.job < c.args.job.job) c.position-place.ensures.ran (YieldsList-from_slice c.args.jobs.now.items cc) (λ x q k. search rules) (λ x q k. search rules))

pub returns : goal.returns
returns c =
    let at : c.unwrap_or.result ≡ before c.args.job.job c.args.jobs.now.items = c.unwrap_or.ensures ∙ ap (λ n. unwrap_or c.position-place.result n) (c.len.ensures ∙ c.args.jobs.now.ok.0) ∙ sym (place c) in
    ap (λ l. map job_of l) (c.in_ok-insert.ensures.items ∙ ap (λ i. insert c.args.jobs.now.items i c.args.job) at) ∙ insert_put c.args.job c.args.jobs.now.items
