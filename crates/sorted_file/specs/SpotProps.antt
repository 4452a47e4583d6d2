-- A spot is one in one way at most, so that a cursor can keep this fact. All of this is this project's own.
use Rattle.std.specs.Prelude.{ℕ, List}
use Rattle.std.specs.Coded.{Coded-set, coded_ℕ, coded_ℤ, coded_bool, coded_list}
use Rattle.tablet_model.specs.Cell.{Cell}
use Rattle.tablet_model.specs.Bounds.{IsEntry}
use Rattle.sorted_file.specs.Contents.{FileContents}
use Rattle.sorted_file.specs.Outlines.{IsSlice, IsOutlined, IsSpot}
use Rattle.sorted_file.specs.declared.outline.Outline.{Outline}
use Rattle.sorted_file.specs.declared.outline.Stretch.{Stretch}
use Rattle.sorted_file.specs.declared.spot.Spot.{Spot}
use lib.Dec.{T_prop}
use Rattle.std.proofs.Math.Bridge.{le_prop}

bytes_set : IsSet (List ℕ)
bytes_set = Coded-set (coded_list coded_ℕ)

IsSlice-prop : (bytes : List ℕ) (s : Stretch) (part : List ℕ) → IsProp (IsSlice bytes s part)
IsSlice-prop bytes s part = hlevel (T_prop, le_prop, bytes_set)

IsEntry-prop : (e : Cell) → IsProp (IsEntry e)
IsEntry-prop e = hlevel (T_prop, le_prop)

IsOutlined-prop : (bytes : List ℕ) (e : Cell) (o : Outline) → IsProp (IsOutlined bytes e o)
IsOutlined-prop bytes e o a b = λ i. record {
  row = IsSlice-prop bytes o.row e.key.row a.row b.row i;
  family = IsSlice-prop bytes o.family e.key.family a.family b.family i;
  qualifier = IsSlice-prop bytes o.qualifier e.key.qualifier a.qualifier b.qualifier i;
  visibility = IsSlice-prop bytes o.visibility e.key.visibility a.visibility b.visibility i;
  value = IsSlice-prop bytes o.value e.value a.value b.value i;
  time = Coded-set coded_ℤ _ _ a.time b.time i;
  deleted = Coded-set coded_bool _ _ a.deleted b.deleted i;
  is_entry = IsEntry-prop e a.is_entry b.is_entry i;
}

pub IsSpot-prop : (file : FileContents) (spot : Spot) → IsProp (IsSpot file spot)
IsSpot-prop file spot a b =
    λ i e h. (IsOutlined-prop _ e spot.outline (a e h).0 (b e h).0 i, Coded-set coded_ℕ _ _ (a e h).1 (b e h).1 i)
