-- What the stage of a level makes of its source. All of this is this project's own.
use Rattle.std.specs.Prelude.{◌≡◌, ◌≤◌, ℕ, ◌+◌, List, [], length, Bool, false, ⊤}
use Rattle.std.specs.List.{AllByRecursion}
use Rattle.std.specs.Arc.{arc_value}
use Rattle.tablet_model.specs.Cell.{Cell}
use Rattle.tablet_model.specs.Order.{above}
use Rattle.tablet_model.specs.Sorted.{Ascends}
use Rattle.tablet_model.specs.Bounds.{AreEntries}
use Rattle.tablet_model.specs.Reductions.{Reduction}
use Rattle.tablet_model.specs.Reading.{AreInFront}
use Rattle.tablet_model.specs.RowText.{whole_rows}
use Rattle.tablet_model.proofs.Risings.{Ascends-combined}
use Rattle.tablet_model.proofs.RowBounds.{whole_rows_bounded, intersected_bounded}
use Rattle.cell_key.specs.declared.column_name.ColumnName.{ColumnName}
use Rattle.cell_key.specs.Listed.{column_listed, listed_of_columns}
use Rattle.stages.specs.Cursors.{staged_left}
use Rattle.stages.specs.Keeping.{kept_sorted, kept_bounded}
use Rattle.combiners.specs.ArrayParts.{array_reducer_reduction, array_reducer_joined, array_reducer_steady}
use Rattle.combiners.specs.CombineLaws.{combined_bounded}
use Rattle.combiners.specs.CombineStages.{combine_cells, combine_left, combine_steady, CombineFits}
use Rattle.combiners.specs.Gathers.{AreRead}
use Rattle.combiners.specs.LongParts.{long_reduction, long_joined, long_steady}
use Rattle.intersecting.specs.IntersectLaws.{Ascends-intersected}
use Rattle.intersecting.specs.IntersectStages.{intersect_cells, intersect_left, IntersectFits}
use Rattle.whole_row.specs.RowLaws.{Ascends-whole_rows}
use Rattle.whole_row.specs.RowLists.{AreLive}
use Rattle.whole_row.specs.RowStages.{row_left, RowFits}
use Rattle.iter_stack.specs.DropStages.{drop_made, drop_keeps, drop_passed, drop_restarted, drop_pass}
use Rattle.iter_stack.specs.declared.stage.LevelStage.{LevelStage}
use Rattle.iter_stack.specs.declared.stage.LevelStage.TheVariants as level

-- what a stage makes of its source's entries
abbrev pub stage_cells : LevelStage → List Cell → List Cell
stage_cells level.Same list = list
stage_cells (level.Drop c) list = drop_made c.stage list
stage_cells (level.CombineLongs s) list = combine_cells long_reduction s list
stage_cells (level.CombineArrays s) list = combine_cells array_reducer_reduction s list
stage_cells (level.Rows s) list = whole_rows list
stage_cells (level.Intersect s) list = intersect_cells s list

-- what it has left, where `rest` is left of the source's entries
abbrev pub stage_left : LevelStage → List Cell → List Cell → List Cell
stage_left level.Same cells rest = rest
stage_left (level.Drop c) cells rest = staged_left drop_keeps drop_passed c rest
stage_left (level.CombineLongs s) cells rest = combine_left long_reduction long_joined s rest
stage_left (level.CombineArrays s) cells rest = combine_left array_reducer_reduction array_reducer_joined s rest
stage_left (level.Rows s) cells rest = row_left s rest
stage_left (level.Intersect s) cells rest = intersect_left s cells

-- whether it is steady, where `source` says whether the source is
abbrev pub stage_steady : LevelStage → Bool → Bool
stage_steady level.Same source = source
stage_steady (level.Drop c) source = source
stage_steady (level.CombineLongs s) source = combine_steady long_steady s source
stage_steady (level.CombineArrays s) source = combine_steady array_reducer_steady s source
stage_steady (level.Rows s) source = false
stage_steady (level.Intersect s) source = false

-- it fits to so many sources, of which `all` are the entries, `cells` those of the first, and `rest` what the first has left
abbrev pub StageFits : LevelStage → ℕ → List (List Cell) → List Cell → List Cell → Type 0
StageFits level.Same count all cells rest = ⊤
StageFits (level.Drop c) count all cells rest = ⊤
StageFits (level.CombineLongs s) count all cells rest = CombineFits long_reduction long_joined s cells rest
StageFits (level.CombineArrays s) count all cells rest = CombineFits array_reducer_reduction array_reducer_joined s cells rest
StageFits (level.Rows s) count all cells rest = RowFits s cells rest
StageFits (level.Intersect s) count all cells rest = AllByRecursion (λ one. one ≡ cells) all × IntersectFits s count cells

-- in the listed columns each value is read, and no other entry stands after a marker
abbrev pub AreCombinable : List ColumnName → Reduction → List Cell → Type 0
AreCombinable names r list = AreRead names r list × AreInFront (column_listed names) [] list

-- what a stage that is not sought asks of its source's entries
abbrev pub StageTakes : LevelStage → List Cell → Type 0
StageTakes level.Same cells = ⊤
StageTakes (level.Drop c) cells = ⊤
StageTakes (level.CombineLongs s) cells = AreCombinable (arc_value s.columns) (long_reduction s.reducer) cells
StageTakes (level.CombineArrays s) cells = AreCombinable (arc_value s.columns) (array_reducer_reduction s.reducer) cells
StageTakes (level.Rows s) cells = AreLive cells
StageTakes (level.Intersect s) cells = 1 ≤ length (arc_value s.terms)

-- how many sources it has: an intersection one for each term, others any
abbrev pub StageCounts : LevelStage → ℕ → Type 0
StageCounts level.Same count = ⊤
StageCounts (level.Drop c) count = ⊤
StageCounts (level.CombineLongs s) count = ⊤
StageCounts (level.CombineArrays s) count = ⊤
StageCounts (level.Rows s) count = ⊤
StageCounts (level.Intersect s) count = count ≡ length (arc_value s.terms) + length (arc_value s.without)

-- a stage that is not sought, of these entries, as steady, over a source whose entries it may have, and as many copies as it is to have
pub record IsFresh (cells : List Cell → List Cell) (steady : Bool → Bool) (Takes : List Cell → Type 0) (Counts : ℕ → Type 0) (it : LevelStage)
    : Type 0 where
  pub same_cells : (list : List Cell) → stage_cells it list ≡ cells list
  pub unsought : (list : List Cell) → stage_left it list [] ≡ []
  pub same_steady : (source : Bool) → stage_steady it source ≡ steady source
  pub takes : (count : ℕ) (all : List (List Cell)) (list : List Cell) → Takes list → Counts count → AllByRecursion (λ one. one ≡ list) all
      → StageFits it count all list []

-- a stage that is not sought, of these entries, over any source
pub record IsBottom (cells : List Cell → List Cell) (it : LevelStage) : Type 0 where
  pub same_cells : (list : List Cell) → stage_cells it list ≡ cells list
  pub unsought : (list rest : List Cell) → stage_left it list rest ≡ []
  pub same_steady : (source : Bool) → stage_steady it source ≡ source
  pub fits : (count : ℕ) (all : List (List Cell)) (list rest : List Cell) → StageFits it count all list rest

-- what a stage makes is in order
pub stage_sorted : (s : LevelStage) (list : List Cell) → Ascends above list → Ascends above (stage_cells s list)
stage_sorted level.Same list up = up
stage_sorted (level.Drop c) list up =
    kept_sorted drop_keeps drop_passed (drop_restarted c.stage) list up (drop_pass c.stage list up)
stage_sorted (level.CombineLongs s) list up =
    Ascends-combined (column_listed (arc_value s.columns)) (listed_of_columns (arc_value s.columns)) (long_reduction s.reducer) list up
stage_sorted (level.CombineArrays s) list up =
    Ascends-combined (column_listed (arc_value s.columns)) (listed_of_columns (arc_value s.columns)) (array_reducer_reduction s.reducer) list up
stage_sorted (level.Rows s) list up = Ascends-whole_rows list up
stage_sorted (level.Intersect s) list up = Ascends-intersected (arc_value s.terms) (arc_value s.without) list up

-- what a stage makes is within bounds
pub stage_bounded : (s : LevelStage) (list : List Cell) → Ascends above list → AreEntries list → AreEntries (stage_cells s list)
stage_bounded level.Same list up all = all
stage_bounded (level.Drop c) list up all =
    kept_bounded drop_keeps drop_passed (drop_restarted c.stage) list all (drop_pass c.stage list up)
stage_bounded (level.CombineLongs s) list up all =
    combined_bounded (column_listed (arc_value s.columns)) (long_reduction s.reducer) list all
stage_bounded (level.CombineArrays s) list up all =
    combined_bounded (column_listed (arc_value s.columns)) (array_reducer_reduction s.reducer) list all
stage_bounded (level.Rows s) list up all = whole_rows_bounded list all
stage_bounded (level.Intersect s) list up all = intersected_bounded (arc_value s.terms) (arc_value s.without) list all
