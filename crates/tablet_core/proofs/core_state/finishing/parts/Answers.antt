use Rattle.std.proofs.Common.{◌≡◌, ◌++◌, ◌∷◌, [], true, false, map, Some, option_map, sym, ap, ◌∙◌, arith, append-nil}
use Rattle.std.proofs.lemmas.List.{map-append}
use Rattle.tablet_model.specs.Store.{has_id, files_with}
use Rattle.compactor.specs.PartCells.{part_cells}
use Rattle.tablet_core.proofs.FilesAt.{FileAt, file_at}
use Rattle.tablet_core.proofs.Finishes.{parts_at}
use Rattle.tablet_core.proofs.core_state.finishing.parts.Goals.{then-has+in_ok-file_cursor+in_ok-push, else-has}
use Rattle.tablet_core.proofs.core_state.finishing.parts.Goals as goal

pub loop-i-init : goal.loop-i-init
unfolding files_with
loop-i-init c = ap (λ l. map part_cells l) c.new-parts.ensures.items

pub loop-i-preserved : goal.loop-i-preserved
unfolding has_id
loop-i-preserved c =
    let here : FileAt c.args.view.now.files c.loop-i.i c.file_at.result.0 = file_at c.args.view.now.files c.loop-i.i c.file_at.result.0 (omega arith) c.file_at.ensures.id in
    elim c.if-has.branch [
      | then-has+in_ok-file_cursor+in_ok-push w ↦
          (let cursor : Some (part_cells w.in_ok-file_cursor.field-0) ≡ Some here.file.cells = w.in_ok-file_cursor.ensures.cells ∙ ap (option_map (λ f. f.cells)) here.is_at in
          let cells : part_cells w.in_ok-file_cursor.field-0 ≡ here.file.cells = cc in
          ap (λ p. map part_cells p.items) w.parts-is
          ∙ ap (λ l. map part_cells l) w.in_ok-push.ensures.items
          ∙ map-append part_cells c.loop-i.parts.items (w.in_ok-file_cursor.field-0 ∷ [])
          ∙ ap (λ l. map part_cells c.loop-i.parts.items ++ l ∷ []) cells
          ∙ parts_at c.args.files.now c.args.view.now.files c.loop-i.i c.file_at.result.0 here true (map part_cells c.loop-i.parts.items) (sym c.has.ensures ∙ w.if-has.true) c.loop-i.invariant)
      | else-has w ↦
          ap (λ p. map part_cells p.items) w.parts-is
          ∙ sym (append-nil (map part_cells c.loop-i.parts.items))
          ∙ parts_at c.args.files.now c.args.view.now.files c.loop-i.i c.file_at.result.0 here false (map part_cells c.loop-i.parts.items) (sym c.has.ensures ∙ w.if-has.false) c.loop-i.invariant
    ]
