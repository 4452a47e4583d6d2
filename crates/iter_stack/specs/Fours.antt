-- What a `Four` has, by what the source under it has. All of this is this project's own.
use Rattle.std.specs.Prelude.{Bool, List}
use Rattle.tablet_model.specs.Cell.{Cell}
use Rattle.tablet_model.specs.Order.{above}
use Rattle.tablet_model.specs.Sorted.{Ascends}
use Rattle.tablet_model.specs.Bounds.{AreEntries}
use Rattle.iter_stack.specs.Levels.{level_cells, level_rest, level_steady, level_valid, level_sorted, level_bounded}
use Rattle.iter_stack.specs.declared.level.Level.{Level}
use Rattle.iter_stack.specs.declared.four.Four.{Four}
use Rattle.iter_stack.specs.declared.four.Four.TheVariants.{Bare, Levels}

-- what is left of levels that stand one over another
module _ {S : Type 0} where
  -- of two
  abbrev two_rest : (S → List Cell) → (S → List Cell) → Level (Level S) → List Cell
  two_rest cells rest = level_rest (level_cells cells) (level_rest cells rest)

module _ {S : Type 0} where
  -- what the fourth makes of what the third makes, and so on
  unfoldable pub four_cells : (S → List Cell) → Four S → List Cell
  four_cells cells (Bare s) = cells s
  four_cells cells (Levels l) = level_cells (level_cells (level_cells (level_cells cells))) l

  -- what the fourth has left
  unfoldable pub four_rest : (S → List Cell) → (S → List Cell) → Four S → List Cell
  four_rest cells rest (Bare s) = rest s
  four_rest cells rest (Levels l) = two_rest (level_cells (level_cells cells)) (two_rest cells rest) l

  -- they are steady where the source and all four are
  unfoldable pub four_steady : (S → Bool) → Four S → Bool
  four_steady steady (Bare s) = steady s
  four_steady steady (Levels l) = level_steady (level_steady (level_steady (level_steady steady))) l

  -- what the four make is in order where the source's entries are
  pub four_sorted : (cells : S → List Cell) → ((s : S) → Ascends above (cells s)) → (f : Four S) → Ascends above (four_cells cells f)
  unfolding four_cells
  four_sorted cells up (Bare s) = up s
  four_sorted cells up (Levels l) = level_sorted (level_cells (level_cells (level_cells cells))) (level_sorted (level_cells (level_cells cells)) (level_sorted (level_cells cells) (level_sorted cells up))) l

  -- what the four make is within bounds where the source's entries are
  pub four_bounded : (cells : S → List Cell) → ((s : S) → Ascends above (cells s)) → ((s : S) → AreEntries (cells s))
      → (f : Four S) → AreEntries (four_cells cells f)
  unfolding four_cells
  four_bounded cells up all (Bare s) = all s
  four_bounded cells up all (Levels l) =
      let one = level_cells cells in
      let up_one = level_sorted cells up in
      let two = level_cells one in
      let up_two = level_sorted one up_one in
      level_bounded (level_cells two) (level_sorted two up_two)
      (level_bounded two up_two (level_bounded one up_one (level_bounded cells up all))) l

-- the parts of levels that stand one over another
module _ {S : Type 0} where
  -- of two
  abbrev two_valid : (S → List Cell) → (S → List Cell) → (S → Type 0) → Level (Level S) → Type 0
  two_valid cells rest valid = level_valid (level_cells cells) (level_rest cells rest) (level_valid cells rest valid)

module _ {S : Type 0} where
  -- of four
  unfoldable pub four_valid : (S → List Cell) → (S → List Cell) → (S → Type 0) → Four S → Type 0
  four_valid cells rest valid (Bare s) = valid s
  four_valid cells rest valid (Levels l) = two_valid (level_cells (level_cells cells)) (two_rest cells rest) (two_valid cells rest valid) l
