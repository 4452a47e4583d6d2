-- The pass over a sorted list gives what a combiner makes of it.
use Rattle.std.proofs.Common.{◌≡◌, ◌||◌, ◌&&◌, not, ℤ, Bool, true, false, cond, List, [], ◌∷◌, ◌++◌, Some, None, refl, sym, ap, ◌∙◌, arith, append_assoc}
use Rattle.std.specs.List.{AllByRecursion, list_any}
use Rattle.std.specs.Prelude.{⊤}
use Rattle.tablet_model.specs.Cell.{Cell}
use Rattle.tablet_model.specs.Order.{above, same_column}
use Rattle.tablet_model.specs.Sorted.{Ascends}
use Rattle.tablet_model.specs.Markers.{marker_beside}
use Rattle.tablet_model.specs.Reductions.{Reduction, join_from, reduce_values}
use Rattle.tablet_model.specs.Combines.{combine_columns}
use Rattle.tablet_model.specs.Accepted.{IsOfColumns}
use Rattle.tablet_model.specs.Reading.{AreInFront}
use Rattle.tablet_model.proofs.Orders.{same_column_equiv}
use Rattle.tablet_model.proofs.OneColumn.{InColumn, both_in}
use Rattle.tablet_model.proofs.Cursors.{column_between}
use Rattle.tablet_model.proofs.Combines.{NoMarkers, values, all_both, combined_none}
use Rattle.tablet_model.proofs.CombineSteps.{NoPuts, combined_marker, combined_unlisted, combined_column}
use Rattle.cell_key.specs.declared.column_name.ColumnName.{ColumnName}
use Rattle.cell_key.specs.Listed.{column_listed, is_listed, listed_of_columns}
use Rattle.combiners.specs.Gathers.{combined_from, held_from, stands}
use Rattle.combiners.proofs.OfColumns.{same_key}

-- ---- markers stand last

-- no other entry of a listed column follows a marker of its column
abbrev Fronts : (Cell → Bool) → List Cell → Type 0
Fronts listed [] = ⊤
Fronts listed (e ∷ es) = AllByRecursion (λ y. y.key.deleted ≡ false → listed y ≡ true → marker_beside y e ≡ false) es × Fronts listed es

or_first : (a b : Bool) → (a || b) ≡ false → a ≡ false
or_first a b h = grind arith

or_second : (a b : Bool) → (a || b) ≡ false → b ≡ false
or_second a b h = grind arith

front_of : (listed : Cell → Bool) (e : Cell) (before es : List Cell) → ((y : Cell) → list_any (marker_beside y) before ≡ false → marker_beside y e ≡ false) → AreInFront listed before es → AllByRecursion (λ y. y.key.deleted ≡ false → listed y ≡ true → marker_beside y e ≡ false) es
unfolding AreInFront
front_of listed e before [] f h = tt
front_of listed e before (y ∷ ys) f h = ((λ d l. f y (h.0 d l)), front_of listed e (y ∷ before) ys (λ x k. f x (or_second (marker_beside x y) (list_any (marker_beside x) before) k)) h.1)

fronts : (listed : Cell → Bool) (before list : List Cell) → AreInFront listed before list → Fronts listed list
unfolding AreInFront
fronts listed before [] h = tt
fronts listed before (e ∷ es) h = (front_of listed e (e ∷ before) es (λ y k. or_first (marker_beside y e) (list_any (marker_beside y) before) k) h.1, fronts listed (e ∷ before) es h.1)

-- ---- the entries of one column

join_more : (r : Reduction) (v : List ℤ) (us : List Cell) (z : Cell) → join_from r v (values (us ++ z ∷ [])) ≡ r.join (join_from r v (values us)) (r.value z.value)
unfolding join_from
join_more r v [] z = refl
join_more r v (u ∷ us) z = join_more r (r.join v (r.value u.value)) us z

all_more : (P : Cell → Type 0) (us : List Cell) (z : Cell) → AllByRecursion P us → P z → AllByRecursion P (us ++ z ∷ [])
all_more P [] z h k = (k, tt)
all_more P (u ∷ us) z h k = (h.0, all_more P us z h.1 k)

put_parts : (d s : Bool) → (not d && s) ≡ true → (d ≡ false) × (s ≡ true)
put_parts false true h = (refl, refl)
put_parts false false h = let no : false ≡ true = h in cc
put_parts true s h = let no : false ≡ true = h in cc

-- what is not left as it is: no marker, and listed
pub stand_parts : (d s : Bool) → (d || not s) ≡ false → (d ≡ false) × (s ≡ true)
stand_parts false true h = (refl, refl)
stand_parts false false h = let no : true ≡ false = h in cc
stand_parts true s h = let no : true ≡ false = h in cc

marker_is : (y z : Cell) → marker_beside y z ≡ (z.key.deleted && same_column y z)
unfolding marker_beside
marker_is y z = refl

-- where a column is left, none of its puts follows
no_puts : (listed : Cell → Bool) → IsOfColumns listed → (e z : Cell) (zs : List Cell) → listed e ≡ true → (not z.key.deleted && same_column e z) ≡ false → Ascends above (e ∷ z ∷ zs) → Fronts listed (z ∷ zs) → NoPuts e (z ∷ zs)
unfolding Ascends
no_puts listed cols e z zs l j up f = (
  (λ d. left z.key.deleted (same_column e z) j d),
  all_both (λ y. above z y ≡ false) (λ y. y.key.deleted ≡ false → listed y ≡ true → marker_beside y z ≡ false) (λ y. y.key.deleted ≡ false → same_column e y ≡ false)
      (λ y low m d. apart (same_column e y) y low m d refl) zs up.1.0 f.0,
)
  where
    left : (d s : Bool) → (not d && s) ≡ false → d ≡ false → s ≡ false
    left d s h k = grind arith

    clash : (d s m t : Bool) → (not d && s) ≡ false → s ≡ true → m ≡ (d && t) → t ≡ true → m ≡ false → ⊥
    clash d s m t h k l i n = grind arith

    apart : (b : Bool) (y : Cell) → above z y ≡ false → (y.key.deleted ≡ false → listed y ≡ true → marker_beside y z ≡ false) → y.key.deleted ≡ false → same_column e y ≡ b → b ≡ false
    apart false y low m d s = refl
    apart true y low m d s =
        let beside : same_column e z ≡ true = column_between e z y up.0.0 low s in
        absurd (clash z.key.deleted (same_column e z) (marker_beside y z) (same_column y z) j beside (marker_is y z) (both_in e y z s beside) (m d (cols e y s ∙ l)))

module _ (names : List ColumnName) (r : Reduction) where
  -- what the pass makes of a list, and of a column that is held in front of it
  abbrev IsPass : List Cell → Type 0
  IsPass list =
      (combined_from names r None list ≡ combine_columns (column_listed names) r list)
      × ((e : Cell) (us : List Cell) (v : List ℤ) → stands names e ≡ false → InColumn e us → NoMarkers us → v ≡ join_from r (r.value e.value) (values us) → Ascends above (e ∷ list)
      → combined_from names r (Some (record { key = e.key; value = v })) list ≡ combine_columns (column_listed names) r ((e ∷ us) ++ list))

  listed_is : (e : Cell) → stands names e ≡ false → column_listed names e ≡ true
  unfolding column_listed
  listed_is e h = (stand_parts e.key.deleted (is_listed names e.key.family e.key.qualifier) h).1

  -- a column that is left is shown
  shown_column : (e : Cell) (us list : List Cell) (v : List ℤ) → stands names e ≡ false → InColumn e us → NoMarkers us → v ≡ join_from r (r.value e.value) (values us) → NoPuts e list
      → record { key = e.key; value = r.text v } ∷ combine_columns (column_listed names) r list ≡ combine_columns (column_listed names) r ((e ∷ us) ++ list)
  unfolding reduce_values
  shown_column e us list v s ins plain h none =
      ap (λ v. record { key = e.key; value = r.text v } ∷ combine_columns (column_listed names) r list) h
      ∙ sym (combined_column (column_listed names) (listed_of_columns names) r e us list (listed_is e s) (same_column_equiv.refl e, ins) ((stand_parts e.key.deleted (is_listed names e.key.family e.key.qualifier) s).0, plain) none)

  -- the first entry, where no column is held
  pass_first : (e : Cell) (es : List Cell) → Ascends above (e ∷ es) → IsPass es → combined_from names r None (e ∷ es) ≡ combine_columns (column_listed names) r (e ∷ es)
  unfolding column_listed join_from
  pass_first e es up ih = go (stands names e) refl
    where
      unlisted : (d s : Bool) → (d || not s) ≡ true → d ≡ false → s ≡ false
      unlisted d s h k = grind arith

      stays : (d : Bool) → e.key.deleted ≡ d → stands names e ≡ true → e ∷ combine_columns (column_listed names) r es ≡ combine_columns (column_listed names) r (e ∷ es)
      stays true d h = sym (combined_marker (column_listed names) r e es d)
      stays false d h = sym (combined_unlisted (column_listed names) (listed_of_columns names) r e es (unlisted e.key.deleted (is_listed names e.key.family e.key.qualifier) h d))

      go : (b : Bool) → stands names e ≡ b → cond b (e ∷ combined_from names r None es) (combined_from names r (held_from r e) es) ≡ combine_columns (column_listed names) r (e ∷ es)
      go true h = ap (λ l. e ∷ l) ih.0 ∙ stays e.key.deleted refl h
      go false h =
          ap (λ k. combined_from names r (Some (record { key = k; value = r.value e.value })) es) (same_key e.key (stand_parts e.key.deleted (is_listed names e.key.family e.key.qualifier) h).0)
          ∙ ih.1 e [] (r.value e.value) h tt tt refl up

  -- the first entry behind a held column
  pass_held : (z : Cell) (zs : List Cell) → Ascends above (z ∷ zs) → Fronts (column_listed names) (z ∷ zs) → IsPass zs
      → (e : Cell) (us : List Cell) (v : List ℤ) → stands names e ≡ false → InColumn e us → NoMarkers us → v ≡ join_from r (r.value e.value) (values us) → Ascends above (e ∷ z ∷ zs)
      → combined_from names r (Some (record { key = e.key; value = v })) (z ∷ zs) ≡ combine_columns (column_listed names) r ((e ∷ us) ++ (z ∷ zs))
  unfolding Ascends same_column
  pass_held z zs up f ih e us v s ins plain h low = go (not z.key.deleted && same_column e z) refl
    where
      go : (b : Bool) → (not z.key.deleted && same_column e z) ≡ b
          → cond b (combined_from names r (Some (record { key = e.key; value = r.join v (r.value z.value) })) zs) (record { key = e.key; value = r.text v } ∷ combined_from names r None (z ∷ zs)) ≡ combine_columns (column_listed names) r ((e ∷ us) ++ (z ∷ zs))
      go true j =
          let parts : (z.key.deleted ≡ false) × (same_column e z ≡ true) = put_parts z.key.deleted (same_column e z) j in
          ih.1 e (us ++ z ∷ []) (r.join v (r.value z.value)) s (all_more (λ y. same_column e y ≡ true) us z ins parts.1) (all_more (λ y. y.key.deleted ≡ false) us z plain parts.0)
          (ap (λ v. r.join v (r.value z.value)) h ∙ sym (join_more r (r.value e.value) us z)) (low.0.1, low.1.1)
          ∙ ap (λ l. combine_columns (column_listed names) r (e ∷ l)) (append_assoc us (z ∷ []) zs)
      go false j =
          ap (λ l. record { key = e.key; value = r.text v } ∷ l) (pass_first z zs up ih)
          ∙ shown_column e us (z ∷ zs) v s ins plain h (no_puts (column_listed names) (listed_of_columns names) e z zs (listed_is e s) j low f)

  pass_all : (list : List Cell) → Ascends above list → Fronts (column_listed names) list → IsPass list
  unfolding Ascends
  pass_all [] up f = (
    sym (combined_none (column_listed names) r),
    (λ e us v s ins plain h low. ap (λ l. record { key = e.key; value = r.text v } ∷ l) (sym (combined_none (column_listed names) r)) ∙ shown_column e us [] v s ins plain h tt),
  )
  pass_all (e ∷ es) up f = (
    pass_first e es up (pass_all es up.1 f.1),
    pass_held e es up f (pass_all es up.1 f.1),
  )

-- the pass gives the definition
pub pass_is : (names : List ColumnName) (r : Reduction) (list : List Cell) → Ascends above list → AreInFront (column_listed names) [] list → combined_from names r None list ≡ combine_columns (column_listed names) r list
pass_is names r list up f = (pass_all names r list up (fronts (column_listed names) [] list f)).0
