-- What a cursor over a map has, by the runs that it is over. All of this is this project's own.
use Rattle.std.specs.Prelude.{cond, List, [], ◌∷◌, map}
use Rattle.std.specs.List.{flat_map}
use Rattle.tablet_model.specs.Bounds.{IsEntry, AreEntries}
use Rattle.tablet_model.specs.Cell.{Cell}
use Rattle.tablet_model.specs.Order.{above}
use Rattle.tablet_model.specs.Sorted.{Ascends}
use Rattle.tablet_model.specs.Sum.{sum_all}
use Rattle.tablet_model.proofs.Merges.{all_append, all_sorted}
use Rattle.tablet_model.proofs.Orders.{above_exact}
use Rattle.tablet_model.proofs.Sums.{Ascends-sorted}
use Rattle.iter_contract.specs.VecRest.{vec_cells, vec_rest}
use Rattle.iter_contract.specs.declared.vec_source.VecSource.{VecSource}
use Rattle.memory_map.specs.declared.mem_cursor.MemCursor.{MemCursor}

-- the map's entries: the sum of its runs
abbrev pub mem_cells : MemCursor → List Cell
mem_cells c = sum_all (map vec_cells c.runs.items)

-- those of them that are left, once the runs were sought
abbrev pub mem_rest : MemCursor → List Cell
mem_rest c = cond c.is_sought (sum_all (map vec_rest c.runs.items)) []

-- they are in order
pub mem_sorted : (c : MemCursor) → Ascends above (mem_cells c)
unfolding sum_all
mem_sorted c = Ascends-sorted above above_exact (flat_map (λ l. l) (map vec_cells c.runs.items))

entries_within : (sources : List VecSource) → AreEntries (flat_map (λ l. l) (map vec_cells sources))
entries_within [] = tt
entries_within (s ∷ ss) = all_append IsEntry (vec_cells s) (flat_map (λ l. l) (map vec_cells ss)) s.is_bounded (entries_within ss)

-- they are within bounds
pub mem_bounded : (c : MemCursor) → AreEntries (mem_cells c)
unfolding sum_all
mem_bounded c = all_sorted above above_exact IsEntry (flat_map (λ l. l) (map vec_cells c.runs.items)) (entries_within c.runs.items)
