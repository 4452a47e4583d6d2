-- The pass over a sorted list gives its whole rows.
use Rattle.std.proofs.Common.{◌≡◌, ◌||◌, not, ℕ, ◌+◌, Bool, true, false, List, [], ◌∷◌, ◌++◌, map, length, Some, None, refl, sym, ap, ◌∙◌, arith, append_assoc, length-append}
use Rattle.std.specs.List.{AllByRecursion, filter, list_any}
use Rattle.std.specs.Ordering.{is_gt, is_eq, ordering_reverse}
use Rattle.std.specs.declared.cmp.Ordering.{Ordering}
use Rattle.std.proofs.lemmas.Cmp.{nat_list_cmp_total}
use Rattle.std.proofs.lemmas.List.{append-nil}
use Rattle.std.proofs.lemmas.List.Concat.{flat_map-append, flat_map-cons}
use Rattle.std.proofs.lemmas.List.Folds.{list_any-append}
use Rattle.tablet_model.specs.Cell.{Cell}
use Rattle.tablet_model.specs.Order.{above, bytes_cmp}
use Rattle.tablet_model.specs.Sorted.{Ascends}
use Rattle.tablet_model.specs.Kept.{filter_beside}
use Rattle.tablet_model.specs.Rows.{same_bytes, same_row, leads_row, row_entry, whole_row, last_time}
use Rattle.tablet_model.proofs.CutLemmas.{key_le, row_le}
use Rattle.tablet_model.proofs.Risings.{all_kept}
use Rattle.tablet_model.proofs.Sums.{all_weaker}
use Rattle.tablet_model.proofs.Texts.{equal_texts, same_texts, same_texts_turned}
use Rattle.tablet_model.specs.RowText.{entry_bytes, entries_bytes, row_text, whole_rows}
use Rattle.whole_row.specs.Bodies.{Body, with_entry, no_entries, body_text}
use Rattle.whole_row.specs.RowPasses.{row_key, rows_from}

-- ---- rows

-- all entries, or none, are of the row of e
abbrev pub InRow : Cell → List Cell → Type 0
InRow e list = AllByRecursion (λ y. same_row e y ≡ true) list

abbrev pub NoneInRow : Cell → List Cell → Type 0
NoneInRow e list = AllByRecursion (λ y. same_row e y ≡ false) list

-- what is in the row of an entry of a row is in that row
in_row : (e y z : Cell) → same_row e y ≡ true → same_row y z ≡ same_row e z
unfolding same_row
in_row e y z h = ap (λ row. same_bytes row z.key.row) (sym (equal_texts e.key.row y.key.row h))

turned : (e y : Cell) → same_row e y ≡ same_row y e
unfolding same_row
turned e y = same_texts_turned e.key.row y.key.row

-- what stands between two entries of a row is of it
row_between : (e y z : Cell) → above e y ≡ false → above y z ≡ false → same_row e z ≡ true → same_row e y ≡ true
unfolding same_row same_bytes
row_between e y z h k s = go (bytes_cmp e.key.row y.key.row) refl
  where
    below : is_gt (bytes_cmp y.key.row e.key.row) ≡ false
    below = ap (λ row. is_gt (bytes_cmp y.key.row row)) (equal_texts e.key.row z.key.row s) ∙ row_le y.key z.key (key_le y z k)

    upper : is_gt (bytes_cmp e.key.row y.key.row) ≡ false
    upper = row_le e.key y.key (key_le e y h)

    back : bytes_cmp e.key.row y.key.row ≡ ordering_reverse (bytes_cmp y.key.row e.key.row)
    back = nat_list_cmp_total.antisymm e.key.row y.key.row

    go : (o : Ordering) → bytes_cmp e.key.row y.key.row ≡ o → is_eq (bytes_cmp e.key.row y.key.row) ≡ true
    go o i = grind (arith, below, upper, back)

-- ---- the entries of one row, in front of others

abbrev rev_onto : List Cell → List Cell → List Cell
rev_onto before [] = before
rev_onto before (u ∷ us) = rev_onto (u ∷ before) us

all_rev : (e : Cell) (before us : List Cell) → InRow e before → InRow e us → InRow e (rev_onto before us)
all_rev e before [] h k = h
all_rev e before (u ∷ us) h k = all_rev e (u ∷ before) us (k.0, h) k.1

any_in_row : (e u : Cell) (before : List Cell) → same_row e u ≡ true → list_any (same_row u) (e ∷ before) ≡ true
any_in_row e u before h = rw (sym (turned e u) ∙ h) refl

none_in_row : (e y : Cell) (before : List Cell) → InRow e before → same_row e y ≡ false → list_any (same_row y) before ≡ false
none_in_row e y [] h k = refl
none_in_row e y (b ∷ bs) h k = rw (turned y b ∙ (in_row e b y h.0 ∙ k), none_in_row e y bs h.1 k) refl

-- the first of a row has been met
abbrev Met : Cell → List Cell → Type 0
Met e before = (u : Cell) → same_row e u ≡ true → list_any (same_row u) before ≡ true

met_more : (e x : Cell) (before : List Cell) → Met e before → Met e (x ∷ before)
met_more e x before m u h = go (same_row u x)
  where
    go : (b : Bool) → (b || list_any (same_row u) before) ≡ true
    go true = refl
    go false = m u h

kept_rest : (e : Cell) (before us list : List Cell) → Met e before → InRow e us → filter_beside leads_row before (us ++ list) ≡ filter_beside leads_row (rev_onto before us) list
unfolding filter_beside leads_row
kept_rest e before [] list m h = refl
kept_rest e before (u ∷ us) list m h = rw (m u h.0) (kept_rest e (u ∷ before) us list (met_more e u before m) h.1)

leads_others : (e y : Cell) (ys before : List Cell) → InRow e before → same_row e y ≡ false → leads_row (ys ++ before) y ≡ leads_row ys y
unfolding leads_row
leads_others e y ys before h n = ap not (list_any-append (same_row y) ys before ∙ ap (λ b. list_any (same_row y) ys || b) (none_in_row e y before h n) ∙ or_false (list_any (same_row y) ys))
  where
    or_false : (b : Bool) → (b || false) ≡ b
    or_false true = refl
    or_false false = refl

kept_others : (e : Cell) (ys before list : List Cell) → InRow e before → NoneInRow e list → filter_beside leads_row (ys ++ before) list ≡ filter_beside leads_row ys list
unfolding filter_beside
kept_others e ys before [] h n = refl
kept_others e ys before (y ∷ list) h n = rw (leads_others e y ys before h n.0, kept_others e (y ∷ ys) before list h n.1) refl

itself : (e : Cell) → same_row e e ≡ true
unfolding same_row
itself e = same_texts e.key.row e.key.row refl

kept_row : (e : Cell) (us list : List Cell) → InRow e us → NoneInRow e list → filter_beside leads_row [] ((e ∷ us) ++ list) ≡ e ∷ filter_beside leads_row [] list
unfolding filter_beside leads_row
kept_row e us list h n =
    ap (λ l. e ∷ l) (kept_rest e (e ∷ []) us list (λ u k. any_in_row e u [] k) h ∙ kept_others e [] (rev_onto (e ∷ []) us) list (all_rev e (e ∷ []) us (itself e, tt) h) n)

-- the entries of a row
filter_row : (e : Cell) (us list : List Cell) → InRow e us → NoneInRow e list → filter (same_row e) (us ++ list) ≡ us
filter_row e [] [] h n = refl
filter_row e [] (y ∷ ys) h n = rw n.0 (filter_row e [] ys h n.1)
filter_row e (u ∷ us) list h n = rw h.0 (ap (λ l. u ∷ l) (filter_row e us list h.1 n))

filter_other : (e y : Cell) (us list : List Cell) → InRow e us → same_row e y ≡ false → filter (same_row y) (us ++ list) ≡ filter (same_row y) list
filter_other e y [] list h k = refl
filter_other e y (u ∷ us) list h k = rw (turned y u ∙ (in_row e u y h.0 ∙ k)) (filter_other e y us list h.1 k)

map_same : (f g : Cell → Cell) (list : List Cell) → AllByRecursion (λ y. f y ≡ g y) list → map f list ≡ map g list
map_same f g [] h = refl
map_same f g (y ∷ ys) h = rw (h.0, map_same f g ys h.1) refl

-- the entry that stands for a row looks at the row's entries alone
first_entry : (e : Cell) (us list : List Cell) → InRow e us → NoneInRow e list → row_entry last_time row_text ((e ∷ us) ++ list) e ≡ record { key = row_key e.key.row; value = row_text (e ∷ us) }
unfolding row_entry
first_entry e us list h n = ap (λ l. record { key = row_key e.key.row; value = row_text l }) (filter_row e (e ∷ us) list (itself e, h) n)

other_entry : (e y : Cell) (us list : List Cell) → InRow e us → same_row e y ≡ false → row_entry last_time row_text ((e ∷ us) ++ list) y ≡ row_entry last_time row_text list y
unfolding row_entry
other_entry e y us list h k = ap (λ l. record { key = row_key y.key.row; value = row_text l }) (filter_other e y (e ∷ us) list (itself e, h) k)

-- the entries of a row in front make one entry
pub whole_block : (e : Cell) (us list : List Cell) → InRow e us → NoneInRow e list → whole_rows ((e ∷ us) ++ list) ≡ record { key = row_key e.key.row; value = row_text (e ∷ us) } ∷ whole_rows list
unfolding whole_row
whole_block e us list h n =
    let all : List Cell = (e ∷ us) ++ list in
    ap (map (row_entry last_time row_text all)) (kept_row e us list h n)
    ∙ ap (λ x. x ∷ map (row_entry last_time row_text all) (filter_beside leads_row [] list)) (first_entry e us list h n)
    ∙ ap (λ l. record { key = row_key e.key.row; value = row_text (e ∷ us) } ∷ l) (map_same (row_entry last_time row_text all) (row_entry last_time row_text list) (filter_beside leads_row [] list)
    (all_weaker (λ y. same_row e y ≡ false) (λ y. row_entry last_time row_text all y ≡ row_entry last_time row_text list y) (λ y k. other_entry e y us list h k) (filter_beside leads_row [] list) (all_kept (λ y. same_row e y ≡ false) leads_row [] list n)))

-- ---- the pass

-- the entries of a list, put together
abbrev body_of : List Cell → Body
body_of list = record { count = length list; bytes = entries_bytes list }

body_more : (us : List Cell) (z : Cell) → with_entry (body_of us) z ≡ body_of (us ++ z ∷ [])
body_more us z =
    let n : length us + 1 ≡ length (us ++ z ∷ []) = omega (arith, length-append us (z ∷ [])) in
    let b : entries_bytes us ++ entry_bytes z ≡ entries_bytes (us ++ z ∷ []) = sym (flat_map-append entry_bytes us (z ∷ []) ∙ ap (λ (r : List ℕ). entries_bytes us ++ r) (flat_map-cons entry_bytes z [] ∙ append-nil (entry_bytes z))) in
    λ i. record { count = n i; bytes = b i }

body_one : (e : Cell) → with_entry no_entries e ≡ body_of (e ∷ [])
body_one e =
    let b : entry_bytes e ≡ entries_bytes (e ∷ []) = sym (flat_map-cons entry_bytes e [] ∙ append-nil (entry_bytes e)) in
    λ i. record { count = 1; bytes = b i }

all_more : (e : Cell) (us : List Cell) (z : Cell) → InRow e us → same_row e z ≡ true → InRow e (us ++ z ∷ [])
all_more e [] z h k = (k, tt)
all_more e (u ∷ us) z h k = (h.0, all_more e us z h.1 k)

-- what the pass makes of a list, and of a row that is held in front of it
abbrev IsPass : List Cell → Type 0
IsPass list =
    (rows_from None list ≡ whole_rows list)
    × ((e : Cell) (us : List Cell) (body : Body) → InRow e us → body ≡ body_of (e ∷ us) → Ascends above (e ∷ list)
    → rows_from (Some (record { row = e.key.row; body = body })) list ≡ whole_rows ((e ∷ us) ++ list))

-- a row that is left is shown
shown_row : (e : Cell) (us list : List Cell) (body : Body) → InRow e us → body ≡ body_of (e ∷ us) → NoneInRow e list
    → record { key = row_key e.key.row; value = body_text body } ∷ whole_rows list ≡ whole_rows ((e ∷ us) ++ list)
unfolding row_text
shown_row e us list body h b n = ap (λ b. record { key = row_key e.key.row; value = body_text b } ∷ whole_rows list) b ∙ sym (whole_block e us list h n)

no_rows : whole_rows [] ≡ []
unfolding whole_row filter_beside
no_rows = refl

-- behind the first entry of another row none is of the row before
none_follow : (e z : Cell) (zs : List Cell) → Ascends above (e ∷ z ∷ zs) → same_row e z ≡ false → NoneInRow e (z ∷ zs)
unfolding Ascends
none_follow e z zs up k = (k, all_weaker (λ y. above z y ≡ false) (λ y. same_row e y ≡ false) (λ y low. go y low (same_row e y) refl) zs up.1.0)
  where
    go : (y : Cell) → above z y ≡ false → (b : Bool) → same_row e y ≡ b → b ≡ false
    go y low false s = refl
    go y low true s = sym (row_between e z y up.0.0 low s) ∙ k

skip_second : (e z : Cell) (zs : List Cell) → Ascends above (e ∷ z ∷ zs) → Ascends above (e ∷ zs)
unfolding Ascends
skip_second e z zs up = (up.0.1, up.1.1)

tail_up : (e : Cell) (es : List Cell) → Ascends above (e ∷ es) → Ascends above es
unfolding Ascends
tail_up e es up = up.1

pass : (list : List Cell) → Ascends above list → IsPass list
unfolding same_row
pass [] up = (sym no_rows, λ e us body h b a. ap (λ l. record { key = row_key e.key.row; value = body_text body } ∷ l) (sym no_rows) ∙ shown_row e us [] body h b tt)
pass (z ∷ zs) up =
    let rest : IsPass zs = pass zs (tail_up z zs up) in
    let from_none : rows_from None (z ∷ zs) ≡ whole_rows (z ∷ zs) = rest.1 z [] (with_entry no_entries z) tt (body_one z) up in
    (from_none, λ e us body h b a. held rest from_none e us body h b a (same_row e z) refl)
  where
    held : IsPass zs → rows_from None (z ∷ zs) ≡ whole_rows (z ∷ zs) → (e : Cell) (us : List Cell) (body : Body) → InRow e us → body ≡ body_of (e ∷ us) → Ascends above (e ∷ z ∷ zs)
        → (b : Bool) → same_row e z ≡ b → rows_from (Some (record { row = e.key.row; body = body })) (z ∷ zs) ≡ whole_rows ((e ∷ us) ++ (z ∷ zs))
    held rest from_none e us body h b a true s =
        rw s (rest.1 e (us ++ z ∷ []) (with_entry body z) (all_more e us z h s) (ap (λ b. with_entry b z) b ∙ body_more (e ∷ us) z) (skip_second e z zs a)
        ∙ ap whole_rows (append_assoc (e ∷ us) (z ∷ []) zs))
    held rest from_none e us body h b a false s =
        rw s (ap (λ l. record { key = row_key e.key.row; value = body_text body } ∷ l) from_none ∙ shown_row e us (z ∷ zs) body h b (none_follow e z zs a s))

-- the pass gives the whole rows of a sorted list
pub pass_is : (list : List Cell) → Ascends above list → rows_from None list ≡ whole_rows list
pass_is list up = (pass list up).0
