use Rattle.std.proofs.Common.{◌≡◌, ◌∷◌, ◌++◌, [], List, map, option_map, ap, ◌∙◌, sym, append-nil, append_assoc}
use Rattle.std.specs.Arc.{arc_value}
use Rattle.tablet_model.specs.Cell.{Cell}
use Rattle.compactor.specs.PartCells.{part_cells}
use Rattle.tablet_view.specs.Snapshot.{Snapshot}
use Rattle.tablet_view.proofs.Parts.{all_parts, frozen_list}
use Rattle.tablet_view.proofs.view.View.parts.Goals.{in-Some+in_ok-push_part, in_default}
use Rattle.tablet_view.proofs.view.View.parts.Goals as goal

pub returns-clause-union : goal.returns-clause-union
returns-clause-union c =
    let files : List (List Cell) = map part_cells c.in_ok-parts.parts.items in
    let pushed : map part_cells c.match-self.parts.items ≡ files ++ frozen_list (option_map (λ m. arc_value m) c.self.inside.frozen) =
    elim c.match-self.branch [
      | in-Some+in_ok-push_part w ↦
          ap (λ p. map part_cells p.items) w.parts-is
          ∙ w.in_ok-push_part.ensures
          ∙ ap (λ z. files ++ z ∷ []) w.deref-in-Some.ensures
          ∙ ap (λ o. files ++ frozen_list (option_map (λ m. arc_value m) o)) (sym w.in-Some.is)
      | in_default w ↦
          ap (λ p. map part_cells p.items) w.parts-is
          ∙ sym (append-nil files)
          ∙ ap (λ o. files ++ frozen_list (option_map (λ m. arc_value m) o)) (sym w.in_default.is)
    ] in
    all_parts c.args.self.now (map part_cells c.push_part-2.new.parts.items) (
    c.in_ok-push_part-2.ensures
    ∙ (λ i. pushed i ++ c.deref-2.ensures i ∷ [])
    ∙ append_assoc files (frozen_list (option_map (λ m. arc_value m) c.self.inside.frozen)) (arc_value c.self.inside.memory ∷ [])
    ∙ ap (λ l. l ++ (frozen_list (option_map (λ m. arc_value m) c.self.inside.frozen) ++ arc_value c.self.inside.memory ∷ [])) (c.in_ok-parts.ensures ∙ ap (map (λ f. f.cells)) c.deref.ensures)
    ∙ ap (λ (v : Snapshot). map (λ f. f.cells) v.files ++ (frozen_list v.frozen ++ v.memory ∷ [])) c.self.view_is)
