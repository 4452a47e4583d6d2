use Rattle.std.proofs.Common.{◌+◌, drop, option_map, sym, ap, ◌∙◌, arith}
use Rattle.std.specs.Option.{option_or}
use Rattle.std.proofs.lemmas.List.{at_drop_all}
use Rattle.tablet_model.specs.Steps.{first_taken, ids_of, in_job}
use Rattle.tablet_core.proofs.FilesAt.{FileAt, file_at, taken_at}
use Rattle.tablet_core.proofs.core_state.starting.first_held.Goals as goal

pub returns-in-Some : goal.returns-in-Some
returns-in-Some c =
    let here : FileAt c.args.view.now.files c.loop-i.i c.file_at-file.result.0 = file_at c.args.view.now.files c.loop-i.i c.file_at-file.result.0 (omega arith) c.file_at-file.ensures.id in
    sym (taken_at c.args.view.now.files c.loop-i.i c.file_at-file.result.0 c.args.jobs.now here ∙ ap (λ o. option_or (option_map (in_job c.file_at-file.result.0) o) (first_taken c.args.jobs.now (ids_of (drop (c.loop-i.i + 1) c.args.view.now.files)))) (sym c.in-Some.ensures)) ∙ c.loop-i.invariant

pub loop-i-preserved : goal.loop-i-preserved
loop-i-preserved c =
    let here : FileAt c.args.view.now.files c.loop-i.i c.file_at-file.result.0 = file_at c.args.view.now.files c.loop-i.i c.file_at-file.result.0 (omega arith) c.file_at-file.ensures.id in
    sym (taken_at c.args.view.now.files c.loop-i.i c.file_at-file.result.0 c.args.jobs.now here ∙ ap (λ o. option_or (option_map (in_job c.file_at-file.result.0) o) (first_taken c.args.jobs.now (ids_of (drop (c.loop-i.i + 1) c.args.view.now.files)))) (sym c.in_default.ensures)) ∙ c.loop-i.invariant

pub returns : goal.returns
unfolding first_taken ids_of
returns c = sym (at_drop_all (λ l. first_taken c.args.jobs.now (ids_of l)) c.args.view.now.files c.loop-i.i (omega arith)) ∙ c.loop-i.invariant
