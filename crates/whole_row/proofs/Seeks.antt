-- The pass over what is left, from a seek on.
use Rattle.std.proofs.Common.{◌≡◌, Bool, true, false, not, ◌&&◌, List, [], ◌∷◌, map, Option, None, refl, sym, ◌∙◌, ap, arith}
use Rattle.std.specs.List.{AllByRecursion, filter}
use Rattle.std.specs.Ordering.{is_gt, is_ge}
use Rattle.std.proofs.lemmas.Cmp.{nat_list_cmp_total}
use Rattle.std.proofs.lemmas.Map.Views.{any-filter_same}
use Rattle.tablet_model.specs.Cell.{Cell, CellKey}
use Rattle.tablet_model.specs.Order.{above, key_cmp, bytes_cmp}
use Rattle.tablet_model.specs.Sorted.{Ascends, from_first}
use Rattle.tablet_model.specs.Kept.{filter_beside}
use Rattle.tablet_model.specs.Cuts.{Cut, Everything, Before, Behind, BeforeRow, BehindRow, is_behind, is_before, within, Span}
use Rattle.tablet_model.specs.Rows.{same_row, leads_row, row_entry, whole_row, last_time}
use Rattle.tablet_model.proofs.Orders.{above_exact, key_total}
use Rattle.tablet_model.proofs.Sums.{Ascends-filter}
use Rattle.tablet_model.proofs.CutLemmas.{before_down, key_le, behind-GoesUp, ge_back, row_le}
use Rattle.tablet_model.proofs.Risings.{filter_map_within, filter_in}
use Rattle.tablet_model.proofs.Bools.{false-of-not}
use Rattle.tablet_model.proofs.Texts.{equal_texts, same_texts, ge-of-gt}
use Rattle.tablet_model.proofs.Seeks.{from_first_is, filter_both, filter_same}
use Rattle.tablet_model.specs.RowText.{row_text, whole_rows}
use Rattle.whole_row.specs.RowLaws.{Ascends-whole_rows}
use Rattle.iter_contract.specs.Ends.{up_to}
use Rattle.iter_contract.proofs.Ends.{up_to_is}
use Rattle.whole_row.specs.RowPasses.{Held, rows_from}
use Rattle.whole_row.specs.RowStages.{row_cut}
use Rattle.whole_row.proofs.Passes.{pass_is}

-- ---- sets of whole rows

-- a test that looks at the row alone
abbrev IsOfRows : (Cell → Bool) → Type 0
IsOfRows q = (c e : Cell) → same_row c e ≡ true → q c ≡ q e

kept_step : (q : Cell → Bool) (keeps : List Cell → Cell → Bool) (before : List Cell) (e : Cell) (es : List Cell) → (q e ≡ true → keeps (filter q before) e ≡ keeps before e)
    → filter q (filter_beside keeps (e ∷ before) es) ≡ filter_beside keeps (filter q (e ∷ before)) (filter q es) → filter q (filter_beside keeps before (e ∷ es)) ≡ filter_beside keeps (filter q before) (filter q (e ∷ es))
unfolding filter_beside
kept_step q keeps before e es h ih = grind arith

kept_rows : (q : Cell → Bool) → IsOfRows q → (before list : List Cell) → filter q (filter_beside leads_row before list) ≡ filter_beside leads_row (filter q before) (filter q list)
unfolding filter_beside leads_row
kept_rows q h before [] = refl
kept_rows q h before (e ∷ es) =
    kept_step q leads_row before e es (λ k. ap not (any-filter_same (same_row e) q true (λ m s. sym (h e m s) ∙ k) before)) (kept_rows q h (e ∷ before) es)

row_entry_of : (q : Cell → Bool) → IsOfRows q → (list : List Cell) (e : Cell) → q (row_entry last_time row_text list e) ≡ q e
unfolding row_entry same_row
row_entry_of q h list e = h (row_entry last_time row_text list e) e (same_texts e.key.row e.key.row refl)

row_entry_within : (q : Cell → Bool) → IsOfRows q → (list : List Cell) (e : Cell) → q e ≡ true → row_entry last_time row_text list e ≡ row_entry last_time row_text (filter q list) e
unfolding row_entry
row_entry_within q h list e k =
    ap (λ l. record { key = record { row = e.key.row; family = []; qualifier = []; visibility = []; time = last_time; deleted = false }; value = row_text l })
    (sym (filter_in (same_row e) q (λ m s. sym (h e m s) ∙ k) list))

-- whole rows may be left out before or after
rows_within : (q : Cell → Bool) → IsOfRows q → (list : List Cell) → filter q (whole_rows list) ≡ whole_rows (filter q list)
unfolding whole_row
rows_within q h list =
    filter_map_within q (row_entry last_time row_text list) (row_entry last_time row_text (filter q list)) (row_entry_of q h list) (row_entry_within q h list) (filter_beside leads_row [] list)
    ∙ ap (λ l. map (row_entry last_time row_text (filter q list)) l) (kept_rows q h [] list)

-- ---- starts of rows

of_rows : (c : Cut) → IsOfRows (λ e. is_behind (row_cut c) e.key)
unfolding same_row
of_rows Everything a b h = refl
of_rows (Before k) a b h = ap (λ row. is_ge (bytes_cmp row k.row)) (equal_texts a.key.row b.key.row h)
of_rows (Behind k) a b h = ap (λ row. is_ge (bytes_cmp row k.row)) (equal_texts a.key.row b.key.row h)
of_rows (BeforeRow r) a b h = ap (λ row. is_ge (bytes_cmp row r)) (equal_texts a.key.row b.key.row h)
of_rows (BehindRow r) a b h = ap (λ row. is_gt (bytes_cmp row r)) (equal_texts a.key.row b.key.row h)

row_ge : (k b : CellKey) → is_ge (key_cmp k b) ≡ true → is_ge (bytes_cmp k.row b.row) ≡ true
row_ge k b h =
    let low : is_gt (key_cmp b k) ≡ false = false-of-not (is_gt (key_cmp b k)) (sym (ge_back key_total k b) ∙ h) in
    ge_back nat_list_cmp_total k.row b.row ∙ ap not (row_le b k low)

row_first : (c : Cut) (k : CellKey) → is_behind c k ≡ true → is_behind (row_cut c) k ≡ true
row_first Everything k h = refl
row_first (Before b) k h = row_ge k b h
row_first (Behind b) k h = row_ge k b (ge-of-gt (key_cmp k b) h)
row_first (BeforeRow r) k h = h
row_first (BehindRow r) k h = h

-- ---- the ends of a range

-- a pass over whole rows, cut at both ends
seek_rest : (s : Span) (cells : List Cell) → Ascends above cells
    → up_to (λ e. is_before s.end e.key) (from_first (λ e. is_behind s.start e.key) (rows_from None (within (record { start = row_cut s.start; end = Everything }) cells))) ≡ within s (whole_rows cells)
seek_rest s cells up =
    ap (λ l. ends (begins (rows_from None l))) (filter_same (λ e. wide e && true) wide cells (all_true cells))
    ∙ ap (λ l. ends (begins l)) (pass_is (filter wide cells) (Ascends-filter above above_exact wide cells up) ∙ sym (rows_within wide (of_rows s.start) cells))
    ∙ ap ends (from_first_is start (behind-GoesUp s.start) (filter wide all) (Ascends-filter above above_exact wide all rising) ∙ filter_in start wide (λ e k. row_first s.start e.key k) all)
    ∙ up_to_is (λ e. is_before s.end e.key) (λ x y low h. before_down s.end x.key y.key h (key_le x y low)) (filter start all) (Ascends-filter above above_exact start all rising)
    ∙ sym (filter_both start (λ e. is_before s.end e.key) all)
  where
    start : Cell → Bool
    start e = is_behind s.start e.key

    wide : Cell → Bool
    wide e = is_behind (row_cut s.start) e.key

    begins : List Cell → List Cell
    begins list = from_first start list

    ends : List Cell → List Cell
    ends list = up_to (λ e. is_before s.end e.key) list

    all : List Cell
    all = whole_rows cells

    rising : Ascends above all
    rising = Ascends-whole_rows cells up

    and_true : (b : Bool) → (b && true) ≡ b
    and_true b = grind arith

    all_true : (list : List Cell) → AllByRecursion (λ e. (wide e && true) ≡ wide e) list
    all_true [] = tt
    all_true (x ∷ xs) = (and_true (wide x), all_true xs)

-- what a seek leaves
pub seek_left : (held : Option Held) (s t w : Span) (new rest cells : List Cell) → Ascends above cells → t ≡ s → w ≡ record { start = row_cut s.start; end = Everything } → rest ≡ within w cells
    → rows_from held new ≡ from_first (λ e. is_behind s.start e.key) (rows_from None rest)
    → up_to (λ e. is_before t.end e.key) (rows_from held new) ≡ within s (whole_rows cells)
seek_left held s t w new rest cells up u v m i =
    ap (λ t. up_to (λ e. is_before t.end e.key) (rows_from held new)) u
    ∙ ap (up_to (λ e. is_before s.end e.key)) i
    ∙ ap (λ l. up_to (λ e. is_before s.end e.key) (from_first (λ e. is_behind s.start e.key) (rows_from None l))) (m ∙ ap (λ w. within w cells) v)
    ∙ seek_rest s cells up
