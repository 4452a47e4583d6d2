-- A filter's stage is one of columns or one of whole entries.
use Rattle.std.proofs.Common.{◌≡◌, Bool, true, false, cond, refl}
use Rattle.tablet_model.specs.Stages.{Stage, by_cell, by_column}
use Rattle.iter_config.specs.Predicates.{filter_stage, is_of_column, keeps}
use Rattle.iter_config.specs.declared.predicate.Predicate.{Predicate}

-- what holds of both holds of it
pub filter_is : (P : Stage → Type 0) (p : Predicate) (negate : Bool) → (is_of_column p ≡ true → P (by_column (keeps p negate))) → (is_of_column p ≡ false → P (by_cell (keeps p negate)))
    → P (filter_stage p negate)
unfolding filter_stage
filter_is P p negate of_column of_cell = go (is_of_column p) refl
  where
    go : (b : Bool) → is_of_column p ≡ b → P (cond b (by_column (keeps p negate)) (by_cell (keeps p negate)))
    go true e = of_column e
    go false e = of_cell e
