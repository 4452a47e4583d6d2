use Rattle.std.proofs.Common.{◌<◌, ◌++◌, ◌∷◌, [], ℕ, List, sym, ap, subst, ◌∙◌, arith}
use Rattle.std.specs.List.{AllByRecursion}
use Rattle.tablet_model.specs.Steps.{ids_of}
use Rattle.tablet_core.proofs.FilesAt.{FileAt, file_at, ids_at, rising_at}
use Rattle.tablet_core.proofs.core_state.starting.file_ids.Goals as goal

pub loop-i-init : goal.loop-i-init
unfolding ids_of
loop-i-init c = c.new-ids.ensures

pub push-requires : goal.push-requires
push-requires c =
    let here : FileAt c.args.view.now.files c.loop-i.i c.file_at.result.0 = file_at c.args.view.now.files c.loop-i.i c.file_at.result.0 (omega arith) c.file_at.ensures.id in
    subst (λ (l : List ℕ). AllByRecursion (λ j. j < c.file_at.result.0) l) (sym c.loop-i.invariant) (rising_at c.args.view.now.files c.loop-i.i c.file_at.result.0 c.requires here)

pub loop-i-preserved : goal.loop-i-preserved
loop-i-preserved c =
    let here : FileAt c.args.view.now.files c.loop-i.i c.file_at.result.0 = file_at c.args.view.now.files c.loop-i.i c.file_at.result.0 (omega arith) c.file_at.ensures.id in
    c.in_ok-push.ensures ∙ ap (λ l. l ++ c.file_at.result.0 ∷ []) c.loop-i.invariant ∙ sym (ids_at c.args.view.now.files c.loop-i.i c.file_at.result.0 here)
