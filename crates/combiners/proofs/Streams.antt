-- The pass over what is left, from a seek on.
use Rattle.std.proofs.Common.{◌≡◌, ◌<◌, Bool, true, false, not, ◌&&◌, cond, List, [], ◌∷◌, Option, Some, None, length, refl, sym, ◌∙◌, ap, subst, arith}
use Rattle.std.specs.Prelude.{⊤}
use Rattle.std.specs.List.{AllByRecursion, filter}
use Rattle.std.specs.Ordering.{eq_by_cmp}
use Rattle.tablet_model.specs.Cell.{Cell, CellKey, column_of}
use Rattle.tablet_model.specs.Order.{above, column_cmp}
use Rattle.tablet_model.specs.Sorted.{Ascends, later, from_first}
use Rattle.tablet_model.specs.Bounds.{IsEntry, AreEntries}
use Rattle.tablet_model.specs.Cuts.{Everything, is_behind, is_before, holds, within, Span}
use Rattle.tablet_model.specs.Widened.{widened_cut}
use Rattle.tablet_model.specs.Reductions.{Reduction}
use Rattle.tablet_model.specs.Combines.{combine_columns}
use Rattle.tablet_model.specs.Reading.{AreInFront}
use Rattle.tablet_model.proofs.Orders.{above_exact}
use Rattle.tablet_model.proofs.Sums.{all_weaker, all_filter, Ascends-filter}
use Rattle.tablet_model.proofs.CutLemmas.{before_down, key_le, behind-GoesUp}
use Rattle.tablet_model.proofs.Seeks.{from_first_is, filter_both, filter_same, wide_before}
use Rattle.tablet_model.proofs.Risings.{Ascends-combined}
use Rattle.cell_key.specs.declared.column_name.ColumnName.{ColumnName}
use Rattle.cell_key.specs.Listed.{column_listed, is_listed, listed_of_columns}
use Rattle.combiners.specs.CombineLaws.{combined_bounded}
use Rattle.iter_contract.specs.Ends.{up_to}
use Rattle.iter_contract.proofs.Ends.{up_to_is}
use Rattle.combiners.specs.Gathers.{Held, combined_from, AreRead, joins, held_with, held_from, stands}
use Rattle.combiners.proofs.OfColumns.{same_key, whole_column, equal_columns}
use Rattle.combiners.proofs.Passes.{pass_is, stand_parts}

-- ---- a step

later_up : (p : Cell → Bool) (list : List Cell) (sought : Bool) → 0 < length (cond sought (up_to p list) []) → up_to p (later list) ≡ later (cond sought (up_to p list) [])
later_up p list false l = absurd (omega arith)
later_up p [] true l = absurd (omega arith)
later_up p (x ∷ xs) true l = go (p x) l
  where
    go : (b : Bool) → 0 < length (cond b (x ∷ up_to p xs) []) → up_to p xs ≡ later (cond b (x ∷ up_to p xs) [])
    go true l = refl
    go false l = absurd (omega arith)

-- what a step leaves, up to the end
pub next_left : (p : Cell → Bool) (names own : List ColumnName) (r q : Reduction) (h k : Option Held) (rest new : List Cell) (sought : Bool) → names ≡ own → q ≡ r
    → combined_from names r k new ≡ later (combined_from names r h rest) → 0 < length (cond sought (up_to p (combined_from own r h rest)) [])
    → up_to p (combined_from own q k new) ≡ later (cond sought (up_to p (combined_from own r h rest)) [])
next_left p names own r q h k rest new sought n e i top =
    ap (λ r. up_to p (combined_from own r k new)) e
    ∙ ap (λ f. up_to p (combined_from f r k new)) (sym n)
    ∙ ap (up_to p) i
    ∙ ap (λ f. up_to p (later (combined_from f r h rest))) n
    ∙ later_up p (combined_from own r h rest) sought top

-- what a seek leaves of the source is read
pub seek_read : (names own : List ColumnName) (r : Reduction) (w : Span) (cells rest : List Cell) → names ≡ own → rest ≡ within w cells → AreRead own r cells → AreRead names r rest
seek_read names own r w cells rest n m h = subst (λ f. AreRead f r rest) (sym n) (subst (λ l. AreRead own r l) (sym m) (all_filter (λ e. stands own e ≡ false → r.reads e.value ≡ true) (λ e. holds w e.key) cells h))

-- ---- a seek to where columns begin

module _ (names : List ColumnName) (r : Reduction) (q : CellKey → Bool) where
  -- what is held does not pass, nor what is to be joined to it
  abbrev IsOut : Option Held → List Cell → Type 0
  IsOut None list = ⊤
  IsOut (Some held) list = (q held.key ≡ false) × AllByRecursion (λ y. joins (Some held) y ≡ true → q y.key ≡ false) list

  -- an entry passes with what follows it in its column
  abbrev Closes : List Cell → Type 0
  Closes [] = ⊤
  Closes (e ∷ es) = AllByRecursion (λ y. column_of y.key ≡ column_of e.key → q y.key ≡ true → q e.key ≡ true) es × Closes es

  from_held : (held : Held) (list : List Cell) → q held.key ≡ true → from_first (λ e. q e.key) (combined_from names r (Some held) list) ≡ combined_from names r (Some held) list
  from_held held [] h = ap (λ b. cond b (record { key = held.key; value = r.text held.value } ∷ []) []) h
  from_held held (e ∷ es) h = go (joins (Some held) e) _ _ (from_held (record { key = held.key; value = r.join held.value (r.value e.value) }) es h)
    where
      go : (b : Bool) (more kept : List Cell) → from_first (λ e. q e.key) more ≡ more → from_first (λ e. q e.key) (cond b more (record { key = held.key; value = r.text held.value } ∷ kept)) ≡ cond b more (record { key = held.key; value = r.text held.value } ∷ kept)
      go true more kept i = i
      go false more kept i = ap (λ b. cond b (record { key = held.key; value = r.text held.value } ∷ kept) (from_first (λ e. q e.key) kept)) h

  joined_column : (e y : Cell) → joins (held_from r e) y ≡ true → column_of y.key ≡ column_of e.key
  joined_column e y j = sym (equal_columns (column_of e.key) (column_of y.key) (last y.key.deleted (eq_by_cmp column_cmp (column_of e.key) (column_of y.key)) j))
    where
      last : (d s : Bool) → (not d && s) ≡ true → s ≡ true
      last d s h = grind arith

  begun_out : (e : Cell) (es : List Cell) → Closes (e ∷ es) → e.key.deleted ≡ false → q e.key ≡ false → IsOut (held_from r e) es
  begun_out e es c d w = (ap q (same_key e.key d) ∙ w, all_weaker (λ y. column_of y.key ≡ column_of e.key → q y.key ≡ true → q e.key ≡ true) (λ y. joins (held_from r e) y ≡ true → q y.key ≡ false) (λ y f j. one y (f (joined_column e y j)) (q y.key) refl) es c.0)
    where
      one : (y : Cell) → (q y.key ≡ true → q e.key ≡ true) → (b : Bool) → q y.key ≡ b → b ≡ false
      one y f false k = refl
      one y f true k = sym (f k) ∙ w

  -- the first entry, where no column is held
  from_start : (e : Cell) (es : List Cell) → Closes (e ∷ es)
      → from_first (λ e. q e.key) (combined_from names r None es) ≡ combined_from names r None (from_first (λ e. q e.key) es)
      → (e.key.deleted ≡ false → q e.key ≡ false → from_first (λ e. q e.key) (combined_from names r (held_from r e) es) ≡ combined_from names r None (from_first (λ e. q e.key) es))
      → from_first (λ e. q e.key) (combined_from names r None (e ∷ es)) ≡ combined_from names r None (from_first (λ e. q e.key) (e ∷ es))
  from_start e es c i j = go (q e.key) refl
    where
      passes : (s : Bool) → stands names e ≡ s → q e.key ≡ true → from_first (λ e. q e.key) (cond s (e ∷ combined_from names r None es) (combined_from names r (held_from r e) es)) ≡ cond s (e ∷ combined_from names r None es) (combined_from names r (held_from r e) es)
      passes true m k = ap (λ b. cond b (e ∷ combined_from names r None es) (from_first (λ e. q e.key) (combined_from names r None es))) k
      passes false m k = from_held (record { key = record e.key { deleted = false }; value = r.value e.value }) es (ap q (same_key e.key (stand_parts e.key.deleted (is_listed names e.key.family e.key.qualifier) m).0) ∙ k)

      drops : (s : Bool) → stands names e ≡ s → q e.key ≡ false → from_first (λ e. q e.key) (cond s (e ∷ combined_from names r None es) (combined_from names r (held_from r e) es)) ≡ combined_from names r None (from_first (λ e. q e.key) es)
      drops true m k = ap (λ b. cond b (e ∷ combined_from names r None es) (from_first (λ e. q e.key) (combined_from names r None es))) k ∙ i
      drops false m k = j (stand_parts e.key.deleted (is_listed names e.key.family e.key.qualifier) m).0 k

      go : (b : Bool) → q e.key ≡ b → from_first (λ e. q e.key) (combined_from names r None (e ∷ es)) ≡ combined_from names r None (cond b (e ∷ es) (from_first (λ e. q e.key) es))
      go true k = passes (stands names e) refl k
      go false k = drops (stands names e) refl k

  -- what does not pass may be left out before
  from_combined : (h : Option Held) (list : List Cell) → Closes list → IsOut h list → from_first (λ e. q e.key) (combined_from names r h list) ≡ combined_from names r None (from_first (λ e. q e.key) list)
  from_combined None [] c o = refl
  from_combined (Some held) [] c o = ap (λ b. cond b (record { key = held.key; value = r.text held.value } ∷ []) []) o.0
  from_combined None (e ∷ es) c o = from_start e es c (from_combined None es c.1 tt) (λ d w. from_combined (held_from r e) es c.1 (begun_out e es c d w))
  from_combined (Some held) (e ∷ es) c o =
      go (joins (Some held) e) refl (from_combined (held_with r (Some held) e) es c.1 (o.0, o.1.1))
      (from_start e es c (from_combined None es c.1 tt) (λ d w. from_combined (held_from r e) es c.1 (begun_out e es c d w)))
    where
      go : (b : Bool) → joins (Some held) e ≡ b → from_first (λ e. q e.key) (combined_from names r (held_with r (Some held) e) es) ≡ combined_from names r None (from_first (λ e. q e.key) es)
          → from_first (λ e. q e.key) (combined_from names r None (e ∷ es)) ≡ combined_from names r None (from_first (λ e. q e.key) (e ∷ es))
          → from_first (λ e. q e.key) (cond b (combined_from names r (held_with r (Some held) e) es) (record { key = held.key; value = r.text held.value } ∷ combined_from names r None (e ∷ es))) ≡ combined_from names r None (from_first (λ e. q e.key) (e ∷ es))
      go true j i n = i ∙ sym (ap (λ b. combined_from names r None (cond b (e ∷ es) (from_first (λ e. q e.key) es))) (o.1.0 j))
      go false j i n = ap (λ b. cond b (record { key = held.key; value = r.text held.value } ∷ combined_from names r None (e ∷ es)) (from_first (λ e. q e.key) (combined_from names r None (e ∷ es)))) o.0 ∙ n

-- ---- the ends of a range

-- the first of two tests may be left out, where the second needs it
from_twice : (p q : Cell → Bool) (list : List Cell) → AllByRecursion (λ x. p x ≡ true → q x ≡ true) list → from_first p (from_first q list) ≡ from_first p list
from_twice p q [] h = refl
from_twice p q (x ∷ xs) h = go (q x) (p x) refl refl h.0 (from_twice p q xs h.1)
  where
    go : (b d : Bool) → q x ≡ b → p x ≡ d → (p x ≡ true → q x ≡ true) → from_first p (from_first q xs) ≡ from_first p xs → from_first p (cond b (x ∷ xs) (from_first q xs)) ≡ cond d (x ∷ xs) (from_first p xs)
    go true d k m f i = ap (λ d. cond d (x ∷ xs) (from_first p xs)) m
    go false false k m f i = i
    go false true k m f i = let no : false ≡ true = sym k ∙ f m in cc

-- a pass over whole columns, cut at both ends
seek_rest : (names : List ColumnName) (r : Reduction) (s : Span) (cells : List Cell) → Ascends above cells → AreEntries cells → AreInFront (column_listed names) [] cells
    → up_to (λ e. is_before s.end e.key) (from_first (λ e. is_behind s.start e.key) (combined_from names r None (within (record { start = widened_cut s.start; end = Everything }) cells))) ≡ within s (combine_columns (column_listed names) r cells)
seek_rest names r s cells up en front =
    ap (λ l. ends (begins (combined_from names r None l))) (filter_same (λ e. wide e && true) wide cells (all_true cells) ∙ sym (from_first_is wide (behind-GoesUp (widened_cut s.start)) cells up))
    ∙ ap (λ l. ends (begins l)) (sym (from_combined names r (is_behind (widened_cut s.start)) None cells (closes cells en) tt) ∙ ap (from_first wide) (pass_is names r cells up front))
    ∙ ap ends (from_twice start wide all (all_weaker IsEntry (λ e. start e ≡ true → wide e ≡ true) (λ e k. wide_before s.start e.key k.1) all (combined_bounded (column_listed names) r cells en)))
    ∙ ap ends (from_first_is start (behind-GoesUp s.start) all rising)
    ∙ up_to_is (λ e. is_before s.end e.key) (λ x y low h. before_down s.end x.key y.key h (key_le x y low)) (filter start all) (Ascends-filter above above_exact start all rising)
    ∙ sym (filter_both start (λ e. is_before s.end e.key) all)
  where
    start : Cell → Bool
    start e = is_behind s.start e.key

    wide : Cell → Bool
    wide e = is_behind (widened_cut s.start) e.key

    begins : List Cell → List Cell
    begins list = from_first start list

    ends : List Cell → List Cell
    ends list = up_to (λ e. is_before s.end e.key) list

    all : List Cell
    all = combine_columns (column_listed names) r cells

    rising : Ascends above all
    rising = Ascends-combined (column_listed names) (listed_of_columns names) r cells up

    and_true : (b : Bool) → (b && true) ≡ b
    and_true b = grind arith

    all_true : (list : List Cell) → AllByRecursion (λ e. (wide e && true) ≡ wide e) list
    all_true [] = tt
    all_true (x ∷ xs) = (and_true (wide x), all_true xs)

    all_of : (P : Cell → Type 0) → ((y : Cell) → P y) → (list : List Cell) → AllByRecursion P list
    all_of P f [] = tt
    all_of P f (y ∷ ys) = (f y, all_of P f ys)

    closes : (list : List Cell) → AreEntries list → Closes names r (is_behind (widened_cut s.start)) list
    closes [] k = tt
    closes (e ∷ es) k = (all_of (λ y. column_of y.key ≡ column_of e.key → is_behind (widened_cut s.start) y.key ≡ true → is_behind (widened_cut s.start) e.key ≡ true) (λ y h b. whole_column s.start e.key y.key k.0.1 h b) es, closes es k.1)

-- what a seek leaves
pub seek_left : (names own : List ColumnName) (r q : Reduction) (k : Option Held) (s t w : Span) (new rest cells : List Cell) → Ascends above cells → AreEntries cells → AreInFront (column_listed own) [] cells
    → names ≡ own → q ≡ r → t ≡ s → w ≡ record { start = widened_cut s.start; end = Everything } → rest ≡ within w cells
    → combined_from names r k new ≡ from_first (λ e. is_behind s.start e.key) (combined_from names r None rest)
    → up_to (λ e. is_before t.end e.key) (combined_from own q k new) ≡ within s (combine_columns (column_listed own) r cells)
seek_left names own r q k s t w new rest cells up en front n e u v m i =
    ap (λ t. up_to (λ e. is_before t.end e.key) (combined_from own q k new)) u
    ∙ ap (λ r. up_to (λ e. is_before s.end e.key) (combined_from own r k new)) e
    ∙ ap (λ f. up_to (λ e. is_before s.end e.key) (combined_from f r k new)) (sym n)
    ∙ ap (up_to (λ e. is_before s.end e.key)) i
    ∙ ap (λ f. up_to (λ e. is_before s.end e.key) (from_first (λ e. is_behind s.start e.key) (combined_from f r None rest))) n
    ∙ ap (λ l. up_to (λ e. is_before s.end e.key) (from_first (λ e. is_behind s.start e.key) (combined_from own r None l))) (m ∙ ap (λ w. within w cells) v)
    ∙ seek_rest own r s cells up en front
