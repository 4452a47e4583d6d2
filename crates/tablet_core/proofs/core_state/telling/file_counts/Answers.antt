use Rattle.std.proofs.Common.{[], arith, ◌++◌, ◌∷◌, ap, ◌∙◌}
use Rattle.tablet_core.proofs.FilesAt.{FileAt, counts_at, file_at}
use Rattle.tablet_core.proofs.core_state.telling.file_counts.Goals as goal

pub loop-i-preserved : goal.loop-i-preserved
loop-i-preserved c =
    let here : FileAt c.args.view.now.files c.loop-i.i c.file_at-id.result.0 = file_at c.args.view.now.files c.loop-i.i c.file_at-id.result.0 (omega arith) c.file_at-id.ensures.id in
    c.in_ok-push.ensures ∙ ap (λ l. l ++ record { id = c.file_at-id.result.0; count = c.file_at-id.result.1 } ∷ []) c.loop-i.invariant ∙ counts_at c.args.view.now.files c.loop-i.i c.file_at-id.result.0 c.file_at-id.result.1 here c.file_at-id.ensures.count
