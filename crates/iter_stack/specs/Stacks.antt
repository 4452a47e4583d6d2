-- What a `Stack` has, by what its leaf has. All of this is this project's own.
use Rattle.std.specs.Prelude.{Bool, List}
use Rattle.tablet_model.specs.Cell.{Cell}
use Rattle.tablet_model.specs.Order.{above}
use Rattle.tablet_model.specs.Sorted.{Ascends}
use Rattle.tablet_model.specs.Bounds.{AreEntries}
use Rattle.iter_stack.specs.Levels.{level_cells, level_rest, level_steady, level_valid, level_sorted, level_bounded}
use Rattle.iter_stack.specs.Fours.{four_cells, four_rest, four_steady, four_valid, four_sorted, four_bounded}
use Rattle.iter_stack.specs.declared.stack.Stack.{Stack}

-- the bottom level and sixteen over it
module _ {S : Type 0} where
  -- what the uppermost makes of what the one under it makes, and so on
  unfoldable pub stack_cells : (S → List Cell) → Stack S → List Cell
  stack_cells cells s = four_cells (four_cells (four_cells (four_cells (level_cells cells)))) s.levels

  -- what the uppermost has left
  unfoldable pub stack_rest : (S → List Cell) → (S → List Cell) → Stack S → List Cell
  stack_rest cells rest s =
      four_rest (four_cells (four_cells (four_cells (level_cells cells))))
      (four_rest (four_cells (four_cells (level_cells cells)))
      (four_rest (four_cells (level_cells cells))
      (four_rest (level_cells cells)
      (level_rest cells rest)))) s.levels

  -- it is steady where its leaf and all levels are
  unfoldable pub stack_steady : (S → Bool) → Stack S → Bool
  stack_steady steady s = four_steady (four_steady (four_steady (four_steady (level_steady steady)))) s.levels

  -- the parts of leaf and levels fit together
  unfoldable pub stack_valid : (S → List Cell) → (S → List Cell) → (S → Type 0) → Stack S → Type 0
  stack_valid cells rest valid s =
      let bottom = level_cells cells in
      let one = four_cells bottom in
      let two = four_cells one in
      let rest_bottom = level_rest cells rest in
      let rest_one = four_rest bottom rest_bottom in
      let rest_two = four_rest one rest_one in
      four_valid (four_cells two) (four_rest two rest_two)
      (four_valid two rest_two (four_valid one rest_one (four_valid bottom rest_bottom (level_valid cells rest valid)))) s.levels

  -- its entries are in order where the leaf's are
  pub stack_sorted : (cells : S → List Cell) → ((s : S) → Ascends above (cells s)) → (s : Stack S) → Ascends above (stack_cells cells s)
  unfolding stack_cells
  stack_sorted cells up s =
      four_sorted (four_cells (four_cells (four_cells (level_cells cells)))) (four_sorted (four_cells (four_cells (level_cells cells)))
      (four_sorted (four_cells (level_cells cells)) (four_sorted (level_cells cells) (level_sorted cells up)))) s.levels

  -- they are within bounds where the leaf's are
  pub stack_bounded : (cells : S → List Cell) → ((s : S) → Ascends above (cells s)) → ((s : S) → AreEntries (cells s))
      → (s : Stack S) → AreEntries (stack_cells cells s)
  unfolding stack_cells
  stack_bounded cells up all s =
      let bottom = level_cells cells in
      let up_bottom = level_sorted cells up in
      let one = four_cells bottom in
      let up_one = four_sorted bottom up_bottom in
      let two = four_cells one in
      let up_two = four_sorted one up_one in
      four_bounded (four_cells two) (four_sorted two up_two)
      (four_bounded two up_two (four_bounded one up_one (four_bounded bottom up_bottom (level_bounded cells up all)))) s.levels
