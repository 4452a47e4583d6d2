-- Where the first of some entries may be parted from the next one.
use Rattle.std.proofs.Common.{◌≡◌, ◌<◌, not, List, [], ◌∷◌, length, refl, arith}
use Rattle.tablet_model.specs.Cell.{Cell}
use Rattle.tablet_model.specs.Sorted.{later}
use Rattle.source_switch.specs.Parting.{Mode, plain, isolated, together, behind, may_part, begins_at, place_behind_first}

-- it may where the others don't begin at the place behind it
pub parts_behind : (mode : Mode) (before : List Cell) → 0 < length before
    → may_part mode before ≡ not (begins_at (place_behind_first mode before) (later before))
unfolding together behind
parts_behind mode [] h = absurd (omega arith)
parts_behind mode (e ∷ []) h = refl
parts_behind plain (e ∷ x ∷ xs) h = refl
parts_behind isolated (e ∷ x ∷ xs) h = refl
