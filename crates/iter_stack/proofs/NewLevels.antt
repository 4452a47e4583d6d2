-- A new level for a stage that is not sought.
use Rattle.std.proofs.Common.{◌≡◌, ℕ, Bool, false, List, [], map, length, ap, sym, ◌∙◌, subst}
use Rattle.std.specs.List.{AllByRecursion}
use Rattle.tablet_model.specs.Cell.{Cell}
use Rattle.intersecting.specs.Firsts.{at_first}
use Rattle.iter_contract.specs.Copies.{IsCopy}
use Rattle.iter_stack.specs.LevelStages.{stage_cells, stage_left, stage_steady, StageCounts, StageFits, StageTakes, IsFresh}
use Rattle.iter_stack.specs.Levels.{level_cells, level_rest, level_steady, level_valid}
use Rattle.iter_stack.specs.declared.level.Level.{Level}
use Rattle.iter_stack.specs.declared.stage.LevelStage.{LevelStage}
use Rattle.iter_stack.specs.declared.stage.LevelStage.TheVariants as level

-- a stage takes the entries that it fits to
pub fits_takes : (s : LevelStage) (count : ℕ) (all : List (List Cell)) (cells rest : List Cell) → StageFits s count all cells rest → StageTakes s cells
fits_takes level.Same count all cells rest f = tt
fits_takes (level.Drop c) count all cells rest f = tt
fits_takes (level.CombineLongs s) count all cells rest f = (f.0, f.1)
fits_takes (level.CombineArrays s) count all cells rest f = (f.0, f.1)
fits_takes (level.Rows s) count all cells rest f = f.0
fits_takes (level.Intersect s) count all cells rest f = f.1.0

-- and as many sources
pub fits_counts : (s : LevelStage) (count : ℕ) (all : List (List Cell)) (cells rest : List Cell) → StageFits s count all cells rest → StageCounts s count
fits_counts level.Same count all cells rest f = tt
fits_counts (level.Drop c) count all cells rest f = tt
fits_counts (level.CombineLongs s) count all cells rest f = tt
fits_counts (level.CombineArrays s) count all cells rest f = tt
fits_counts (level.Rows s) count all cells rest f = tt
fits_counts (level.Intersect s) count all cells rest f = f.1.1

module _ {S : Type 0} (cells rest : S → List Cell) (steady : S → Bool) (valid : S → Type 0) (l : Level S) where
  abbrev first : List Cell
  first = at_first cells [] l.sources.items

  abbrev left : List Cell
  left = at_first rest [] l.sources.items

  -- a stage that is not sought, over a source that is not and copies of it
  pub fresh_level : {made : List Cell → List Cell} {steadily : Bool → Bool} {Takes : List Cell → Type 0} {Counts : ℕ → Type 0} {stage : LevelStage} → IsFresh made steadily Takes Counts stage
      → {list : List Cell} {source : Bool} {count : ℕ} → l.stage ≡ stage → at_first cells [] l.sources.items ≡ list → at_first rest [] l.sources.items ≡ []
      → at_first steady false l.sources.items ≡ source → AllByRecursion valid l.sources.items → length l.sources.items ≡ count
      → AllByRecursion (λ one. one ≡ list) (map cells l.sources.items) → Takes list → Counts count
      → IsCopy (made list) (steadily source) (level_cells cells l) (level_rest cells rest l) (level_steady steady l) (level_valid cells rest valid l)
  unfolding level_cells level_rest level_steady level_valid
  fresh_level {stage = stage} fresh {list} {source} {count} same a r b v n copies takes counts =
      let all : List (List Cell) = map cells l.sources.items in
      record {
        same_cells = ap (λ s. stage_cells s first) same ∙ ap (stage_cells stage) a ∙ fresh.same_cells list;
        unsought = ap (λ s. stage_left s first left) same ∙ ap (stage_left stage first) r ∙ fresh.unsought first;
        same_steady = ap (λ s. stage_steady s (at_first steady false l.sources.items)) same ∙ ap (stage_steady stage) b ∙ fresh.same_steady source;
        is_valid = (
          v,
          subst (λ s. StageFits s (length l.sources.items) all first left) (sym same)
              (subst (λ k. StageFits stage k all first left) (sym n)
              (subst (λ c. StageFits stage count all c left) (sym a)
              (subst (StageFits stage count all list) (sym r) (fresh.takes count all list takes counts copies)))),
        );
      }
