-- What a source over a list has, by its fields (this project's own).
use Rattle.std.specs.Prelude.{List, slice_range}
use Rattle.std.specs.Arc.{arc_value}
use Rattle.tablet_model.specs.Cell.{Cell}
use Rattle.iter_contract.specs.declared.vec_source.VecSource.{VecSource}

-- the shared list
abbrev pub vec_cells : VecSource → List Cell
vec_cells s = arc_value s.entries

-- its part between the two places
abbrev pub vec_rest : VecSource → List Cell
vec_rest s = slice_range (arc_value s.entries) s.at s.end
