-- A restriction to columns, as to families, or to puts or to markers, comes before or after what stages make, in whatever order a list is;
-- one to columns comes before or after what is live, too.
use Rattle.std.proofs.Common.{◌≡◌, ◌||◌, ◌&&◌, not, ℕ, ◌+◌, Bool, true, false, cond, List, [], ◌∷◌, map, refl, sym, ap, ◌∙◌, arith, ltb}
use Rattle.std.proofs.lemmas.Map.Views.{any-filter_same}
use Rattle.std.specs.List.{AllByRecursion, filter, list_any, count_by}
use Rattle.tablet_model.specs.Cell.{Cell}
use Rattle.tablet_model.specs.Kept.{filter_beside}
use Rattle.tablet_model.specs.Markers.{put_beside, hides, is_live, live}
use Rattle.tablet_model.specs.Versions.{is_recent, versions}
use Rattle.tablet_model.specs.Filters.{filter_puts}
use Rattle.tablet_model.specs.Reductions.{Reduction, reduce_values}
use Rattle.tablet_model.specs.Combines.{leads, joined_value, with_joined_value, combine_columns}
use Rattle.tablet_model.specs.Stages.{Stage, by_column, by_cell, newest, combine, rows, intersect, stage, stages}
use Rattle.tablet_model.specs.Accepted.{IsOfColumns, KeepsKeys}
use Rattle.tablet_model.proofs.Orders.{same_column_equiv}
use Rattle.tablet_model.proofs.Columns.{count_cons, filter_within, hides_in}
use Rattle.tablet_model.proofs.Risings.{filter_in, filter_map_within, rewritten_key}
use Rattle.stage_laws.proofs.Kept.{absurd_bool, listed_key, put_column, put_live}

-- a test of keys that lets in all puts of a column or none
pub record IsOfPuts (part : Cell → Bool) : Type 0 where
  pub keys : (e f : Cell) → e.key ≡ f.key → part f ≡ part e
  pub puts : (e m : Cell) → part e ≡ true → e.key.deleted ≡ false → put_beside e m ≡ true → part m ≡ true

pub columns_of_puts : (fam : Cell → Bool) → IsOfColumns fam → IsOfPuts fam
columns_of_puts fam cols = record {
  keys = λ e f h. listed_key e f h cols;
  puts = λ e m h d k. cols e m (put_column e m k) ∙ h;
}

pub puts_of_puts : IsOfPuts (λ e. not e.key.deleted)
puts_of_puts = record {
  keys = λ e f h. ap (λ k. not k.deleted) (sym h);
  puts = λ e m h d k. ap not (put_live e m k);
}

pub markers_of_puts : IsOfPuts (λ e. e.key.deleted)
markers_of_puts = record {
  keys = λ e f h. ap (λ k. k.deleted) (sym h);
  puts = λ e m h d k. absurd (absurd_bool h d);
}

pub live_commutes : (fam : Cell → Bool) → IsOfColumns fam → (list : List Cell) → filter fam (live list) ≡ live (filter fam list)
unfolding live is_live
live_commutes fam cols list = filter_within fam (is_live list) (is_live (filter fam list)) (λ e h. ap (λ b. not e.key.deleted && not b) (sym (any-filter_same (hides e) fam true (λ m k. cols e m (hides_in e e m (same_column_equiv.refl e) k) ∙ h) list))) list

module _ (part : Cell → Bool) (of : IsOfPuts part) where
  count_in : (test : Cell → Bool) → ((m : Cell) → test m ≡ true → part m ≡ true) → (list : List Cell) → count_by test (filter part list) ≡ count_by test list
  count_in test h [] = refl
  count_in test h (x ∷ xs) = go (part x) refl (count_in test h xs)
    where
      alone : (b : Bool) (n : ℕ) → (b ≡ true → false ≡ true) → n ≡ cond b 1 0 + n
      alone b n h = grind arith

      go : (b : Bool) → part x ≡ b → count_by test (filter part xs) ≡ count_by test xs → count_by test (cond b (x ∷ filter part xs) (filter part xs)) ≡ count_by test (x ∷ xs)
      go true e ih = count_cons test x (filter part xs) ∙ ap (λ n. cond (test x) 1 0 + n) ih ∙ sym (count_cons test x xs)
      go false e ih = ih ∙ alone (test x) (count_by test xs) (λ k. sym e ∙ h x k) ∙ sym (count_cons test x xs)

  kept_step : (keeps : List Cell → Cell → Bool) (before : List Cell) (e : Cell) (es : List Cell) → (part e ≡ true → keeps (filter part before) e ≡ keeps before e) → filter part (filter_beside keeps (e ∷ before) es) ≡ filter_beside keeps (filter part (e ∷ before)) (filter part es) → filter part (filter_beside keeps before (e ∷ es)) ≡ filter_beside keeps (filter part before) (filter part (e ∷ es))
  unfolding filter_beside
  kept_step keeps before e es h ih = grind arith

  beside_commutes : (keeps : List Cell → Cell → Bool) → ((before : List Cell) (e : Cell) → part e ≡ true → keeps (filter part before) e ≡ keeps before e) → (before list : List Cell) → filter part (filter_beside keeps before list) ≡ filter_beside keeps (filter part before) (filter part list)
  unfolding filter_beside
  beside_commutes keeps h before [] = refl
  beside_commutes keeps h before (e ∷ es) = kept_step keeps before e es (h before e) (beside_commutes keeps h (e ∷ before) es)

  same_recent : (n : ℕ) (before : List Cell) (e : Cell) → part e ≡ true → is_recent n (filter part before) e ≡ is_recent n before e
  unfolding is_recent
  same_recent n before e h = go e.key.deleted refl
    where
      go : (d : Bool) → e.key.deleted ≡ d → (d || ltb (count_by (put_beside e) (filter part before)) n) ≡ (d || ltb (count_by (put_beside e) before) n)
      go true k = refl
      go false k = ap (λ c. ltb c n) (count_in (put_beside e) (λ m b. of.puts e m h k b) before)

  same_lead : (listed : Cell → Bool) (before : List Cell) (e : Cell) → part e ≡ true → leads listed (filter part before) e ≡ leads listed before e
  unfolding leads
  same_lead listed before e h = go e.key.deleted refl
    where
      go : (d : Bool) → e.key.deleted ≡ d → (d || (not (listed e) || not (list_any (put_beside e) (filter part before)))) ≡ (d || (not (listed e) || not (list_any (put_beside e) before)))
      go true k = refl
      go false k = ap (λ b. not (listed e) || not b) (any-filter_same (put_beside e) part true (λ m b. of.puts e m h k b) before)

  same_join : (listed : Cell → Bool) (r : Reduction) (list : List Cell) (e : Cell) → part e ≡ true → with_joined_value listed r list e ≡ with_joined_value listed r (filter part list) e
  unfolding with_joined_value joined_value
  same_join listed r list e h = go e.key.deleted refl
    where
      go : (d : Bool) → e.key.deleted ≡ d → cond (not d && listed e) (record { key = e.key; value = reduce_values r (map (λ p. p.value) (filter (put_beside e) list)) }) e ≡ cond (not d && listed e) (record { key = e.key; value = reduce_values r (map (λ p. p.value) (filter (put_beside e) (filter part list))) }) e
      go true k = refl
      go false k = ap (λ l. cond (listed e) (record { key = e.key; value = reduce_values r (map (λ p. p.value) l) }) e) (sym (filter_in (put_beside e) part (λ m b. of.puts e m h k b) list))

  stage_commutes : (s : Stage) → KeepsKeys s → (list : List Cell) → filter part (stage s list) ≡ stage s (filter part list)
  unfolding stage filter_puts versions combine_columns
  stage_commutes (by_column p) k list = filter_within part (λ e. e.key.deleted || p e) (λ e. e.key.deleted || p e) (λ e h. refl) list
  stage_commutes (by_cell p) k list = filter_within part (λ e. e.key.deleted || p e) (λ e. e.key.deleted || p e) (λ e h. refl) list
  stage_commutes (newest n) k list = beside_commutes (is_recent n) (same_recent n) [] list
  stage_commutes (combine listed r full) k list =
      filter_map_within part (with_joined_value listed r list) (with_joined_value listed r (filter part list)) (λ e. of.keys e (with_joined_value listed r list e) (sym (rewritten_key listed r list e))) (λ e h. same_join listed r list e h) (filter_beside (leads listed) [] list)
      ∙ ap (map (with_joined_value listed r (filter part list))) (beside_commutes (leads listed) (same_lead listed) [] list)
  stage_commutes rows k list = absurd k
  stage_commutes (intersect terms without) k list = absurd k

  pub stages_commute : (ss : List Stage) → AllByRecursion KeepsKeys ss → (list : List Cell) → filter part (stages ss list) ≡ stages ss (filter part list)
  unfolding stages
  stages_commute [] k list = refl
  stages_commute (s ∷ ss) k list = stages_commute ss k.1 (stage s list) ∙ ap (stages ss) (stage_commutes s k.0 list)

pub answer_commutes : (fam : Cell → Bool) → IsOfColumns fam → (ss : List Stage) → AllByRecursion KeepsKeys ss → (list : List Cell) → filter fam (stages ss (live list)) ≡ stages ss (live (filter fam list))
answer_commutes fam cols ss k list = stages_commute fam (columns_of_puts fam cols) ss k (live list) ∙ ap (stages ss) (live_commutes fam cols list)
