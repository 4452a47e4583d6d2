use Rattle.std.proofs.Common.{◌||◌, ◌+◌, drop, sym, ap, ◌∙◌, arith}
use Rattle.std.proofs.lemmas.Bool.{eq-eqb}
use Rattle.std.proofs.lemmas.List.{at_drop_all}
use Rattle.tablet_model.specs.Steps.{ids_of}
use Rattle.tablet_model.specs.Store.{has_id}
use Rattle.tablet_core.proofs.FilesAt.{FileAt, apart, file_at, has_id_at}
use Rattle.tablet_core.proofs.core_state.starting.has_file.Goals as goal

pub returns-then-file-file_at : goal.returns-then-file-file_at
returns-then-file-file_at c =
    let here : FileAt c.args.view.now.files c.loop-i.i c.file_at.result.0 = file_at c.args.view.now.files c.loop-i.i c.file_at.result.0 (omega arith) c.file_at.ensures.id in
    sym (has_id_at c.args.view.now.files c.loop-i.i c.file_at.result.0 c.args.file here ∙ ap (λ b. b || has_id (ids_of (drop (c.loop-i.i + 1) c.args.view.now.files)) c.args.file) (eq-eqb c.args.file c.file_at.result.0 c.if-file-file_at.true)) ∙ c.loop-i.invariant

pub loop-i-preserved : goal.loop-i-preserved
loop-i-preserved c =
    let here : FileAt c.args.view.now.files c.loop-i.i c.file_at.result.0 = file_at c.args.view.now.files c.loop-i.i c.file_at.result.0 (omega arith) c.file_at.ensures.id in
    sym (has_id_at c.args.view.now.files c.loop-i.i c.file_at.result.0 c.args.file here ∙ ap (λ b. b || has_id (ids_of (drop (c.loop-i.i + 1) c.args.view.now.files)) c.args.file) (apart c.args.file c.file_at.result.0 c.if-file-file_at.false)) ∙ c.loop-i.invariant

pub returns : goal.returns
unfolding has_id ids_of
returns c = sym (at_drop_all (λ l. has_id (ids_of l) c.args.file) c.args.view.now.files c.loop-i.i (omega arith)) ∙ c.loop-i.invariant
