-- Stages of one meaning take and make the same.
use Rattle.std.proofs.Common.{◌≡◌, ◌≢◌, ◌≤◌, ◌+◌, ℕ, ℤ, Bool, true, false, ◌&&◌, cond, List, [], length, Option, refl, ap, sym, ◌∙◌, subst}
use Rattle.std.specs.Prelude.{⊤}
use Rattle.std.specs.Arc.{arc_value}
use Rattle.tablet_model.specs.Cell.{Cell}
use Rattle.tablet_model.specs.Cuts.{is_before}
use Rattle.tablet_model.specs.Combines.{combine_columns}
use Rattle.tablet_model.specs.Filters.{filter_puts}
use Rattle.tablet_model.specs.Rows.{intersect_terms}
use Rattle.tablet_model.specs.RowText.{whole_rows}
use Rattle.tablet_model.specs.Reductions.{Reduction}
use Rattle.tablet_model.specs.Stages.{by_column, by_cell, stage}
use Rattle.cell_key.specs.Listed.{column_listed}
use Rattle.cell_key.specs.declared.column_name.ColumnName.{ColumnName}
use Rattle.number_values.specs.Arrays.{array_reduction}
use Rattle.number_values.specs.Numbers.{number_reduction}
use Rattle.number_values.specs.Values.{reduction_of}
use Rattle.number_values.specs.declared.op.Encoding.{Encoding}
use Rattle.number_values.specs.declared.op.Op.{Op}
use Rattle.number_values.specs.declared.op.Op.TheVariants as op
use Rattle.combiners.specs.ArrayParts.{array_reducer_reduction, array_reducer_joined}
use Rattle.combiners.specs.CombineStages.{combine_left, CombineFits}
use Rattle.iter_contract.specs.Ends.{up_to}
use Rattle.combiners.specs.Gathers.{AreRead, combined_from, held_of}
use Rattle.combiners.specs.LongParts.{long_reduction, long_joined}
use Rattle.combiners.specs.declared.array_reducer.ArrayReducer.{ArrayReducer}
use Rattle.combiners.specs.declared.long_reducer.LongReducer.{LongReducer}
use Rattle.combiners.specs.declared.stage.CombineStage.{CombineStage}
use Rattle.filters.specs.FilterStages.{test_of, filter_made}
use Rattle.filters.specs.declared.filter_stage.FilterStage.{FilterStage}
use Rattle.intersecting.specs.declared.stage.IntersectStage.{IntersectStage}
use Rattle.whole_row.specs.RowLists.{AreLive}
use Rattle.whole_row.specs.declared.stage.RowStage.{RowStage}
use Rattle.iter_config.specs.Predicates.{is_of_column, keeps, filter_stage}
use Rattle.iter_config.specs.declared.predicate.Predicate.{Predicate}
use Rattle.stages.specs.Passes.{entries_left}
use Rattle.stages.specs.declared.cursor.Cursor.{Cursor}
use Rattle.iter_stack.specs.DropStages.{drop_made, drop_keeps, drop_passed}
use Rattle.iter_stack.specs.LevelStages.{AreCombinable, IsFresh, IsBottom}
use Rattle.iter_stack.specs.Usages.{is_of_arrays}
use Rattle.iter_stack.specs.declared.drop_stage.DropStage.{DropStage}
use Rattle.iter_stack.specs.declared.stage.LevelStage.{LevelStage}
use Rattle.iter_stack.specs.declared.stage.LevelStage.TheVariants as level

-- combiners of the same columns make the same of equal lists
pub combined_alike : {F G : List ColumnName} {r q : Reduction} {A B : List Cell} → F ≡ G → r ≡ q → A ≡ B → combine_columns (column_listed F) r A ≡ combine_columns (column_listed G) q B
combined_alike {F} {G} {r} {q} {A} {B} f h e =
    ap (λ c. combine_columns (column_listed c) r A) f ∙ ap (λ p. combine_columns (column_listed G) p A) h ∙ ap (combine_columns (column_listed G) q) e

-- a combiner that is not sought fits to a source of entries that it takes
pub combine_fits : {R : Type 0} (reduction : R → Reduction) (joined : R → Option (List ℤ)) (s : CombineStage R) → s.is_sought ≡ false → (A : List Cell)
    → AreCombinable (arc_value s.columns) (reduction s.reducer) A → CombineFits reduction joined s A []
combine_fits reduction joined s unsought A taken = (taken.0, taken.1, λ sought. let no : true ≡ false = sym sought ∙ unsought in cc)

-- and has nothing left
pub combine_unsought : {R : Type 0} (reduction : R → Reduction) (joined : R → Option (List ℤ)) (s : CombineStage R) → s.is_sought ≡ false → (rest : List Cell) → combine_left reduction joined s rest ≡ []
combine_unsought reduction joined s unsought rest = go s.is_sought unsought
  where
    go : (b : Bool) → b ≡ false → cond b (up_to (λ e. is_before s.range.end e.key) (combined_from (arc_value s.columns) (reduction s.reducer) (held_of s.is_held s.column s.time (joined s.reducer)) rest)) [] ≡ []
    go true h = let no : true ≡ false = h in cc
    go false h = refl

and_true : (source : Bool) → (source && true) ≡ source
and_true true = refl
and_true false = refl

and_false : (source : Bool) → (source && false) ≡ false
and_false true = refl
and_false false = refl

-- new stages for these columns and this reduction
module _ (columns : List ColumnName) (r : Reduction) (steady : Bool → Bool) where
  taken : {R : Type 0} (reduction : R → Reduction) (s : CombineStage R) → arc_value s.columns ≡ columns → reduction s.reducer ≡ r → (list : List Cell) → AreCombinable columns r list
      → AreCombinable (arc_value s.columns) (reduction s.reducer) list
  taken reduction s c e list t =
      subst (λ n. AreCombinable n (reduction s.reducer) list) (sym c) (subst (λ q. AreRead columns q list) (sym e) t.0, t.1)

  pub fresh_longs : (s : CombineStage LongReducer) → arc_value s.columns ≡ columns → long_reduction s.reducer ≡ r → s.is_sought ≡ false → ((source : Bool) → (source && true) ≡ steady source)
      → IsFresh (combine_columns (column_listed columns) r) steady (AreCombinable columns r) (λ count. ⊤) (level.CombineLongs s)
  fresh_longs s c e unsought same = record {
    same_cells = λ list. combined_alike c e refl;
    unsought = λ list. combine_unsought long_reduction long_joined s unsought [];
    same_steady = same;
    takes = λ count all list t counted same. combine_fits long_reduction long_joined s unsought list (taken long_reduction s c e list t);
  }

  pub fresh_arrays : (s : CombineStage ArrayReducer) → arc_value s.columns ≡ columns → array_reducer_reduction s.reducer ≡ r → s.is_sought ≡ false → ((source : Bool) → (source && false) ≡ steady source)
      → IsFresh (combine_columns (column_listed columns) r) steady (AreCombinable columns r) (λ count. ⊤) (level.CombineArrays s)
  fresh_arrays s c e unsought same = record {
    same_cells = λ list. combined_alike c e refl;
    unsought = λ list. combine_unsought array_reducer_reduction array_reducer_joined s unsought [];
    same_steady = same;
    takes = λ count all list t counted same. combine_fits array_reducer_reduction array_reducer_joined s unsought list (taken array_reducer_reduction s c e list t);
  }

-- the operations of numbers
pub fresh_numbers : (columns : List ColumnName) (o : Op) (e : Encoding) → o ≢ op.ArraySum → (s : CombineStage LongReducer) → arc_value s.columns ≡ columns → long_reduction s.reducer ≡ number_reduction o e → s.is_sought ≡ false
    → IsFresh (combine_columns (column_listed columns) (reduction_of o e)) (λ source. cond (is_of_arrays o) false source) (AreCombinable columns (reduction_of o e)) (λ count. ⊤) (level.CombineLongs s)
unfolding reduction_of
fresh_numbers columns op.Sum e not s c h unsought = fresh_longs columns (number_reduction op.Sum e) (λ source. source) s c h unsought and_true
fresh_numbers columns op.Min e not s c h unsought = fresh_longs columns (number_reduction op.Min e) (λ source. source) s c h unsought and_true
fresh_numbers columns op.Max e not s c h unsought = fresh_longs columns (number_reduction op.Max e) (λ source. source) s c h unsought and_true
fresh_numbers columns op.ArraySum e not s c h unsought = absurd (not refl)

-- and that of arrays
pub fresh_sums : (columns : List ColumnName) (e : Encoding) (s : CombineStage ArrayReducer) → arc_value s.columns ≡ columns → array_reducer_reduction s.reducer ≡ array_reduction e → s.is_sought ≡ false
    → IsFresh (combine_columns (column_listed columns) (reduction_of op.ArraySum e)) (λ source. false) (AreCombinable columns (reduction_of op.ArraySum e)) (λ count. ⊤) (level.CombineArrays s)
unfolding reduction_of
fresh_sums columns e s c h unsought = fresh_arrays columns (array_reduction e) (λ source. false) s c h unsought and_false

-- stages of one meaning make the same of equal lists
pub made_alike : {F G : List Cell → List Cell} {A B : List Cell} → F ≡ G → A ≡ B → F A ≡ G B
made_alike {F} {G} {A} {B} f e = ap (λ h. h A) f ∙ ap G e

-- a new stage that drops entries
pub bottom_drop : (c : Cursor DropStage) (stage : DropStage) → c.stage ≡ stage → c.is_sought ≡ false → IsBottom (drop_made stage) (level.Drop c)
bottom_drop c stage same unsought = record {
  same_cells = λ list. ap (λ s. drop_made s list) same;
  unsought = λ list rest. ap (λ b. cond b (entries_left drop_keeps drop_passed c.stage rest) []) unsought;
  same_steady = λ source. refl;
  fits = λ count all list rest. tt;
}

-- and a copy of one
pub fresh_drop : (copy c : Cursor DropStage) → drop_made copy.stage ≡ drop_made c.stage → copy.is_sought ≡ false
    → IsFresh (drop_made c.stage) (λ source. source) (λ list. ⊤) (λ count. ⊤) (level.Drop copy)
fresh_drop copy c same unsought = record {
  same_cells = λ list. ap (λ f. f list) same;
  unsought = λ list. ap (λ b. cond b [] []) unsought;
  same_steady = λ source. refl;
  takes = λ count all list t counted same. tt;
}

-- a stage for any source is one for some
pub fresh_bottom : {made other : List Cell → List Cell} {s : LevelStage} → IsBottom made s → ((list : List Cell) → made list ≡ other list)
    → IsFresh other (λ source. source) (λ list. ⊤) (λ count. ⊤) s
fresh_bottom bottom same = record {
  same_cells = λ list. bottom.same_cells list ∙ same list;
  unsought = λ list. bottom.unsought list [];
  same_steady = bottom.same_steady;
  takes = λ count all list t counted same. bottom.fits count all list [];
}

-- a filter makes what its iterator makes
pub filters_alike : (predicate : Predicate) (negate : Bool) (s : FilterStage) → test_of s ≡ keeps predicate negate
    → (list : List Cell) → filter_made s list ≡ stage (filter_stage predicate negate) list
unfolding stage filter_stage
filters_alike predicate negate s same list = ap (λ test. filter_puts test list) same ∙ go (is_of_column predicate)
  where
    go : (b : Bool) → filter_puts (keeps predicate negate) list ≡ stage (cond b (by_column (keeps predicate negate)) (by_cell (keeps predicate negate))) list
    go true = refl
    go false = refl

off : {X : Type 0} (b : Bool) (x y : X) → b ≡ false → cond b x y ≡ y
off b x y h = ap (λ c. cond c x y) h

-- a new stage of whole rows
pub fresh_rows : (s : RowStage) → s.is_sought ≡ false → IsFresh whole_rows (λ source. false) AreLive (λ count. ⊤) (level.Rows s)
fresh_rows s unsought = record {
  same_cells = λ list. refl;
  unsought = λ list. off s.is_sought _ [] unsought;
  same_steady = λ source. refl;
  takes = λ count all list live counted same. (live, λ sought. absurd (let no : true ≡ false = sym sought ∙ unsought in cc));
}

-- and one of an intersection
pub fresh_intersect : (terms without : List (List ℕ)) (s : IntersectStage) → arc_value s.terms ≡ terms → arc_value s.without ≡ without → s.is_held ≡ false
    → IsFresh (intersect_terms terms without) (λ source. false) (λ list. 1 ≤ length terms) (λ count. count ≡ length terms + length without) (level.Intersect s)
fresh_intersect terms without s t w unheld = record {
  same_cells = λ list. ap (λ x. intersect_terms x (arc_value s.without) list) t ∙ ap (λ x. intersect_terms terms x list) w;
  unsought = λ list. off s.is_held _ [] unheld;
  same_steady = λ source. refl;
  takes = λ count all list some counted same. (
    same,
    (
      subst (λ x. 1 ≤ length x) (sym t) some,
      counted ∙ sym (ap (λ x. length x + length (arc_value s.without)) t ∙ ap (λ x. length terms + length x) w),
      λ held. absurd (let no : true ≡ false = sym held ∙ unheld in cc),
    ),
  );
}

-- intersections of the same terms make the same of equal lists
pub intersected_alike : {t u w x : List (List ℕ)} {A B : List Cell} → t ≡ u → w ≡ x → A ≡ B → intersect_terms t w A ≡ intersect_terms u x B
intersected_alike {t} {u} {w} {x} {A} {B} f g e = ap (λ k. intersect_terms k w A) f ∙ ap (λ k. intersect_terms u k A) g ∙ ap (intersect_terms u x) e
