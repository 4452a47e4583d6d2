use Rattle.std.proofs.Common.{rules, ap, ◌∙◌, not, eqb, map}
use Rattle.std.specs.List.{filter}
use Rattle.std.proofs.lemmas.Fn.{filter_same}
use Rattle.tablet_model.specs.Store.{RunningJob}
use Rattle.compactor.specs.declared.job_state.JobState.{JobState}
use Rattle.compactor.specs.Jobs.{job_of}
use Rattle.compactor.proofs.Lists.{filter_jobs}
use Rattle.compactor.proofs.running_jobs.RunningJobs.end.Goals as goal

pub returns : goal.returns
returns c =
    ap (λ l. map job_of l) (filter_same _ (λ (j : JobState). not (eqb c.args.job j.job)) _ (λ x b f' k. search rules) _ _ c.retain.ensures.filtered)
    ∙ filter_jobs c.args.job c.self.inside.jobs.items
    ∙ ap (filter (λ (t : RunningJob). not (eqb c.args.job t.job))) c.self.view_is
