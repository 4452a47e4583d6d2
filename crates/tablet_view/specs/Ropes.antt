-- The mutations of a rope, as their entries. All of this is this project's own.
use Rattle.std.specs.Prelude.{◌≡◌, Bool, true, ◌&&◌, List, [], ◌∷◌, ◌++◌, length, ◌==◌}
use Rattle.tablet_model.specs.Cell.{Cell}
use Rattle.tablet_view.specs.declared.rope.Rope.{Rope}
use Rattle.tablet_view.specs.declared.rope.Rope.TheVariants.{One, Several, Two'}

-- in their order
abbrev pub mutations_in : Rope → List (List Cell)
mutations_in (One e) = (e ∷ []) ∷ []
mutations_in (Several es) = es ∷ []
mutations_in (Two' p first count q second) = mutations_in first ++ mutations_in second

-- whether each pair of ropes has the number of the first one's mutations
abbrev pub is_counted : Rope → Bool
is_counted (One e) = true
is_counted (Several es) = true
is_counted (Two' p first count q second) = (count == length (mutations_in first)) && is_counted first && is_counted second

abbrev pub IsCounted : Rope → Type 0
IsCounted rope = is_counted rope ≡ true
