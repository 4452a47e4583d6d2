-- What a combiner makes of entries is within the bounds of entries. This is this project's own.
use Rattle.std.proofs.Common.{◌≡◌, Bool, List, [], ◌∷◌, map, sym, subst}
use Rattle.tablet_model.specs.Cell.{Cell, CellKey}
use Rattle.tablet_model.specs.Bounds.{KeyBounds, IsTime, IsEntry, AreEntries}
use Rattle.tablet_model.specs.Kept.{filter_beside}
use Rattle.tablet_model.specs.Reductions.{Reduction}
use Rattle.tablet_model.specs.Combines.{combine_columns, with_joined_value, leads}
use Rattle.tablet_model.proofs.Risings.{all_kept, rewritten_key}

-- a change of values keeps the bounds
bounded_map : (f : Cell → Cell) → ((e : Cell) → (f e).key ≡ e.key) → (list : List Cell) → AreEntries list → AreEntries (map f list)
bounded_map f same [] h = tt
bounded_map f same (e ∷ es) h =
    (subst (λ (k : CellKey). KeyBounds k.row k.family k.qualifier k.visibility × IsTime k.time) (sym (same e)) h.0, bounded_map f same es h.1)

-- combined entries are within bounds where the entries are
pub combined_bounded : (listed : Cell → Bool) (r : Reduction) (list : List Cell) → AreEntries list → AreEntries (combine_columns listed r list)
unfolding combine_columns
combined_bounded listed r list h =
    bounded_map (with_joined_value listed r list) (rewritten_key listed r list) (filter_beside (leads listed) [] list) (all_kept IsEntry (leads listed) [] list h)
