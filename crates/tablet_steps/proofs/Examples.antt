-- Worked answers.
use Rattle.std.proofs.Common.{◌≡◌, codes, true, refl}
use Rattle.std.specs.Fmt.{digits}
use Rattle.tablet_model.specs.Ingest.{bound, time_here, updates_part}
use Rattle.tablet_model.specs.Steps.{applied, finished, in_job, refused, started}
use Rattle.tablet_steps.specs.Texts.{answer_line, refusal_line}
use Rattle.tablet_steps.specs.declared.refusal.LineRefusal.TheVariants.{Syntax}

accepted : answer_line (applied 524288) ≡ codes "m 524288\n"
unfolding digits
accepted = refl

full_job : answer_line (started 3 true) ≡ codes "compact j3 full\n"
unfolding digits
full_job = refl

ended_job : answer_line (finished 3 12 0) ≡ codes "finish j3 f12 0\n"
unfolding digits
ended_job = refl

bound_refusal : answer_line (refused (bound 0 updates_part)) ≡ codes "no bound updates\n"
bound_refusal = refl

time_refusal : answer_line (refused (time_here 2)) ≡ codes "no time\n"
time_refusal = refl

job_refusal : answer_line (in_job 12 3) ≡ codes "no in-job f12 j3\n"
unfolding digits
job_refusal = refl

syntax_refusal : refusal_line Syntax ≡ codes "no syntax\n"
syntax_refusal = refl
