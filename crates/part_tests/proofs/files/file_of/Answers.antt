-- A builder's last entry is the one that was put there last.
use Rattle.std.proofs.Common.{◌≡◌, List, [], ◌∷◌, ◌++◌, Option, Some, None, refl, sym, ap, ◌∙◌}
use Rattle.std.specs.List.{last_or}
use Rattle.std.specs.Option.{option_map}
use Rattle.tablet_model.specs.Cell.{Cell}
use Rattle.cell_key.specs.Views.{cell_of}
use Rattle.sorted_file.specs.Lists.{last_of}
use Rattle.part_tests.proofs.files.file_of.Goals as goal
use Rattle.part_tests.proofs.files.file_of.Goals.{then-may_follow+in_ok-push, else-may_follow}

last_push : (o : Option Cell) (list : List Cell) (e : Cell) → last_or o (list ++ e ∷ []) ≡ Some e
last_push o [] e = refl
last_push o (x ∷ xs) e = last_push (Some x) xs e

pub loop-entry-preserved : goal.loop-entry-preserved
loop-entry-preserved c =
    elim c.if-may_follow.branch [
      | then-may_follow+in_ok-push w ↦ ap last_of (w.builder-is ∙ w.in_ok-push.ensures) ∙ last_push None c.loop-entry.builder (cell_of c.entry-item.result) ∙ sym (ap (option_map cell_of) w.before-is)
      | else-may_follow w ↦ ap last_of w.builder-is ∙ c.loop-entry.invariant ∙ sym (ap (option_map cell_of) w.before-is)
    ]
