use Rattle.std.proofs.Common.{◌≡◌, ap, map, reverse, sym, ◌∙◌}
use Rattle.std.proofs.lemmas.Iterator.Adapters.{YieldsList-from_rev_slice}
use Rattle.std.proofs.lemmas.Iterator.Consumers.{YieldsList-end}
use Rattle.std.proofs.lemmas.List.{reverse-reverse}
use Rattle.tablet_model.specs.Sorted.{put, sorted}
use Rattle.compactor.specs.Jobs.{is_behind, job_of}
use Rattle.compactor.proofs.Lists.{sorted_more}
use Rattle.compactor.proofs.running_jobs.RunningJobs.copies.Goals as goal

pub loop-running-init : goal.loop-running-init
unfolding sorted
loop-running-init c = ap (λ l. map job_of l) c.new-jobs.ensures.items

pub loop-running-preserved : goal.loop-running-preserved
loop-running-preserved c =
    c.in_ok-put.ensures
    ∙ (λ i. put is_behind (job_of (c.in_ok-copy.ensures i)) (c.loop-running.invariant i))
    ∙ sym (sorted_more c.loop-running.yielded c.in-Some.running)

pub returns : goal.returns
returns c =
    let all : map (λ running. running.now) c.loop-running.yielded ≡ reverse c.self.inside.jobs.items = (YieldsList-end (YieldsList-from_rev_slice c.self.inside.jobs.items cc) c.loop-running.yielded _ c.loop-running.yielded_by _ _ c.in-None.is c.next.ensures.steps).0 in
    c.loop-running.invariant
    ∙ ap (λ l. sorted is_behind (map job_of l)) (ap (λ l. reverse l) all ∙ reverse-reverse c.self.inside.jobs.items)
    ∙ ap (λ l. sorted is_behind l) c.self.view_is
