-- The text of a row is read as its entries, and what is read is the text of what was read.
use Rattle.std.proofs.Common.{◌≡◌, ℕ, zero, suc, ◌+◌, ◌-◌, ◌^◌, ◌<◌, ◌≤◌, false, cond, eqb, List, [], ◌∷◌, ◌++◌, length, Option, Some, None, Result, Ok, Err, refl, sym, ap, subst, ◌∙◌, append_assoc, length-append, arith}
use Rattle.std.specs.List.{AllByRecursion}
use Rattle.std.proofs.lemmas.Bool.{eqb-true}
use Rattle.std.proofs.lemmas.Bool.Decides.{nat_tests}
use Rattle.std.proofs.lemmas.List.{append-nil}
use Rattle.std.proofs.lemmas.List.Concat.{flat_map-cons}
use Rattle.byteorder.specs.Endian.{big_bytes}
use Rattle.tablet_model.specs.Cell.{Cell}
use Rattle.byte_fields.specs.Fields.{◌>>=◌, Unread, number_at}
use Rattle.byte_fields.proofs.Fields.{bind_ok, else_ok, then_ok, ok_is, IsBytes, spot, Takes, Takes-then, Again, wide8, number_again, number_take}
use Rattle.iter_contract.specs.Following.{is_out_of_order}
use Rattle.iter_contract.proofs.Following.{Follows, ascends_follows, follows_ascends}
use Rattle.tablet_model.specs.RowText.{entry_bytes, entries_bytes, row_text}
use Rattle.whole_row.specs.RowLists.{IsRowEntry, IsRow}
use Rattle.whole_row.specs.RowReading.{count_at, entry_at, next_entry_at, entries_at, row_reading}
use Rattle.whole_row.proofs.TextEntries.{entry_again, entry_take}

module _ (row : List ℕ) where
  -- ---- entries

  next_again : (before : Option Cell) (e : Cell) (at : ℕ) (rest : List ℕ) → IsRowEntry row e → is_out_of_order before e ≡ false
      → next_entry_at row before (spot at (entry_bytes e ++ rest)) ≡ Ok (e, spot (at + length (entry_bytes e)) rest)
  unfolding next_entry_at
  next_again before e at rest is ordered = rw (entry_again row e is at rest, ordered) refl

  entries_again : (before : Option Cell) (list : List Cell) (at : ℕ) (rest : List ℕ) → Follows before list → AllByRecursion (IsRowEntry row) list
      → entries_at row (length list) before (spot at (entries_bytes list ++ rest)) ≡ Ok (list, spot (at + length (entries_bytes list)) rest)
  unfolding entries_at
  entries_again before [] at rest f is = let same : at ≡ at + 0 = omega arith in ap (λ (p : ℕ). Ok ([], spot p rest)) same
  entries_again before (e ∷ es) at rest f is =
      let bytes : entries_bytes (e ∷ es) ++ rest ≡ entry_bytes e ++ (entries_bytes es ++ rest) = ap (λ (b : List ℕ). b ++ rest) (flat_map-cons entry_bytes e es) ∙ append_assoc (entry_bytes e) (entries_bytes es) rest in
      let after : ℕ = at + length (entry_bytes e) in
      let place : after + length (entries_bytes es) ≡ at + length (entries_bytes (e ∷ es)) = omega (arith, ap length (flat_map-cons entry_bytes e es), length-append (entry_bytes e) (entries_bytes es)) in
      ap (λ (b : List ℕ). entries_at row (suc (length es)) before (spot at b)) bytes
      ∙ rw (next_again before e at (entries_bytes es ++ rest) is.0 f.0, entries_again (Some e) es after rest f.1 is.1) (ap (λ (p : ℕ). Ok (e ∷ es, spot p rest)) place)

  -- entries that were read
  record AreTaken (n : ℕ) (before : Option Cell) (u : Unread) (x : List Cell × Unread) : Type 0 where
    taken : Takes u (entries_bytes x.0) x.1
    follow : Follows before x.0
    entries : AllByRecursion (IsRowEntry row) x.0
    count : length x.0 ≡ n

  next_take : 1 ≤ length row → length row ≤ 1024 → (before : Option Cell) (u : Unread) (x : Cell × Unread) → IsBytes u.rest → next_entry_at row before u ≡ Ok x
      → Takes u (entry_bytes x.0) x.1 × IsRowEntry row x.0 × (is_out_of_order before x.0 ≡ false)
  unfolding next_entry_at
  next_take some short before u x fits e =
      let b = bind_ok (entry_at row u) (λ entry. cond (is_out_of_order before entry.0) (Err u.at) (Ok entry)) x e in
      let g = else_ok (is_out_of_order before b.0.0) u.at (Ok b.0) x b.2 in
      let t = entry_take row some short u b.0 fits b.1 in
      subst (λ (y : Cell × Unread). Takes u (entry_bytes y.0) y.1 × IsRowEntry row y.0 × (is_out_of_order before y.0 ≡ false)) (ok_is b.0 x g.1) (t.0, t.1, g.0)

  none_taken : (before : Option Cell) (u : Unread) → IsBytes u.rest → AreTaken 0 before u ([], u)
  none_taken before u fits = record { taken = record { parts = refl; place = omega arith; rest_fits = fits }; follow = tt; entries = tt; count = refl }

  one_more : (n : ℕ) (before : Option Cell) (u : Unread) (a : Cell × Unread) (b : List Cell × Unread) → Takes u (entry_bytes a.0) a.1 → IsRowEntry row a.0 → is_out_of_order before a.0 ≡ false
      → AreTaken n (Some a.0) a.1 b → AreTaken (suc n) before u (a.0 ∷ b.0, b.1)
  one_more n before u a b t is ordered r = record {
    taken = subst (λ (text : List ℕ). Takes u text b.1) (sym (flat_map-cons entry_bytes a.0 b.0)) (Takes-then u (entry_bytes a.0) a.1 (entries_bytes b.0) b.1 t r.taken);
    follow = (ordered, r.follow);
    entries = (is, r.entries);
    count = ap suc r.count;
  }

  entries_take : 1 ≤ length row → length row ≤ 1024 → (n : ℕ) (before : Option Cell) (u : Unread) (x : List Cell × Unread) → IsBytes u.rest → entries_at row n before u ≡ Ok x → AreTaken n before u x
  unfolding entries_at
  entries_take some short zero before u x fits e = subst (AreTaken 0 before u) (ok_is ([], u) x e) (none_taken before u fits)
  entries_take some short (suc n) before u x fits e =
      let a = bind_ok (next_entry_at row before u) (λ entry. entries_at row n (Some entry.0) entry.1 >>= λ entries. Ok (entry.0 ∷ entries.0, entries.1)) x e in
      let t = next_take some short before u a.0 fits a.1 in
      let b = bind_ok (entries_at row n (Some a.0.0) a.0.1) (λ entries. Ok (a.0.0 ∷ entries.0, entries.1)) x a.2 in
      subst (AreTaken (suc n) before u) (ok_is (a.0.0 ∷ b.0.0, b.0.1) x b.2)
      (one_more n before u a.0 b.0 t.0 t.1 t.2 (entries_take some short n (Some a.0.0) a.0.1 b.0 t.0.rest_fits b.1))

  -- ---- the whole text

  is_some : (n : ℕ) → 1 ≤ n → eqb n 0 ≡ false
  is_some n h = grind (arith, nat_tests)

  some_is : (n : ℕ) → eqb n 0 ≡ false → 1 ≤ n
  some_is n h = grind (arith, nat_tests)

  count_again : (n : ℕ) → 1 ≤ n → n < 2 ^ 64 → Again count_at (big_bytes 8 n) n
  unfolding count_at
  count_again n some few at rest = rw (number_again 8 (2 ^ 64) wide8 n few at rest, is_some n some) refl

  count_take : (u : Unread) (x : ℕ × Unread) → IsBytes u.rest → count_at u ≡ Ok x → Takes u (big_bytes 8 x.0) x.1 × (1 ≤ x.0) × (x.0 < 2 ^ 64)
  unfolding count_at
  count_take u x fits e =
      let b = bind_ok (number_at 8 u) (λ n. cond (eqb n.0 0) (Err u.at) (Ok n)) x e in
      let g = else_ok (eqb b.0.0 0) u.at (Ok b.0) x b.2 in
      let t = number_take 8 (2 ^ 64) wide8 u b.0 fits b.1 in
      subst (λ (y : ℕ × Unread). Takes u (big_bytes 8 y.0) y.1 × (1 ≤ y.0) × (y.0 < 2 ^ 64)) (ok_is b.0 x g.1) (t.0, some_is b.0.0 g.0, t.1)

  -- what is read behind the count
  abbrev behind_count : ℕ × Unread → Result (List Cell) ℕ
  behind_count count = entries_at row count.0 None count.1 >>= λ entries. cond (eqb (length entries.1.rest) 0) (Ok entries.0) (Err entries.1.at)

  -- the text of a row is read as its entries
  pub text_again : (list : List Cell) → IsRow row list → row_reading row (row_text list) ≡ Ok list
  unfolding row_reading row_text
  text_again list is =
      let n : ℕ = length list in
      let e = entries_again None list (0 + length (big_bytes 8 n)) [] (ascends_follows list is.ascends) is.entries in
      ap (λ (b : List ℕ). count_at (spot 0 (big_bytes 8 n ++ b)) >>= behind_count) (sym (append-nil (entries_bytes list)))
      ∙ ap (λ (r : Result (ℕ × Unread) ℕ). r >>= behind_count) (count_again n is.some is.few 0 (entries_bytes list ++ []))
      ∙ ap (λ (r : Result (List Cell × Unread) ℕ). r >>= λ entries. cond (eqb (length entries.1.rest) 0) (Ok entries.0) (Err entries.1.at)) e

  no_rest : (bytes : List ℕ) → length bytes ≡ 0 → bytes ≡ []
  no_rest [] h = refl
  no_rest (b ∷ bs) h = absurd (omega arith)

  -- what is read is the text of what was read
  pub text_take : 1 ≤ length row → length row ≤ 1024 → (bytes : List ℕ) (list : List Cell) → IsBytes bytes → row_reading row bytes ≡ Ok list → (row_text list ≡ bytes) × IsRow row list
  unfolding row_reading row_text
  text_take some short bytes list fits e =
      let c = bind_ok (count_at (spot 0 bytes)) behind_count list e in
      let c' = count_take (spot 0 bytes) c.0 fits c.1 in
      let b = bind_ok (entries_at row c.0.0 None c.0.1) (λ entries. cond (eqb (length entries.1.rest) 0) (Ok entries.0) (Err entries.1.at)) list c.2 in
      let b' = entries_take some short c.0.0 None c.0.1 b.0 c'.0.rest_fits b.1 in
      let g = then_ok (eqb (length b.0.1.rest) 0) b.0.1.at (Ok b.0.0) list b.2 in
      let none : b.0.1.rest ≡ [] = no_rest b.0.1.rest (eqb-true _ _ g.0) in
      let text : big_bytes 8 (length b.0.0) ++ entries_bytes b.0.0 ≡ bytes =
      ap (λ (n : ℕ). big_bytes 8 n ++ entries_bytes b.0.0) b'.count
      ∙ ap (λ (t : List ℕ). big_bytes 8 c.0.0 ++ t) (sym (append-nil (entries_bytes b.0.0)) ∙ ap (λ (r : List ℕ). entries_bytes b.0.0 ++ r) (sym none) ∙ sym b'.taken.parts)
      ∙ sym c'.0.parts in
      subst (λ (l : List Cell). (big_bytes 8 (length l) ++ entries_bytes l ≡ bytes) × IsRow row l) (ok_is b.0.0 list g.1)
      (text, record { some = omega (arith, b'.count, c'.1); few = omega (arith, b'.count, c'.2); ascends = follows_ascends b.0.0 b'.follow; entries = b'.entries })

  -- ---- a loop over the entries

  -- entries that were read before, and what is still read
  abbrev pub with_front : List Cell → Result (List Cell × Unread) ℕ → Result (List Cell × Unread) ℕ
  with_front front read = read >>= λ x. Ok (front ++ x.0, x.1)

  pub nothing_read : (front : List Cell) (read : Result (List Cell × Unread) ℕ) → front ≡ [] → with_front front read ≡ read
  nothing_read front (Ok x) none = ap (λ (f : List Cell). Ok (f ++ x.0, x.1)) none
  nothing_read front (Err d) none = refl

  pub all_read : (front : List Cell) (n : ℕ) (before : Option Cell) (u : Unread) (total : Result (List Cell × Unread) ℕ) → n ≤ 0
      → with_front front (entries_at row n before u) ≡ total → total ≡ Ok (front, u)
  unfolding entries_at
  all_read front zero before u total l so_far = sym so_far ∙ ap (λ (f : List Cell). Ok (f, u)) (append-nil front)
  all_read front (suc n) before u total l so_far = absurd (omega arith)

  pub entry_fault : (front : List Cell) (n : ℕ) (before : Option Cell) (u : Unread) (at : ℕ) (total : Result (List Cell × Unread) ℕ) → 0 < n
      → next_entry_at row before u ≡ Err at → with_front front (entries_at row n before u) ≡ total → total ≡ Err at
  unfolding entries_at
  entry_fault front zero before u at total l e so_far = absurd (omega arith)
  entry_fault front (suc n) before u at total l e so_far =
      sym so_far ∙ ap (λ (r : Result (Cell × Unread) ℕ). with_front front (r >>= λ entry. entries_at row n (Some entry.0) entry.1 >>= λ entries. Ok (entry.0 ∷ entries.0, entries.1))) e

  regroup : (front : List Cell) (e : Cell) (read : Result (List Cell × Unread) ℕ) → with_front front (read >>= λ entries. Ok (e ∷ entries.0, entries.1)) ≡ with_front (front ++ e ∷ []) read
  regroup front e (Ok x) = ap (λ (l : List Cell). Ok (l, x.1)) (sym (append_assoc front (e ∷ []) x.0))
  regroup front e (Err d) = refl

  pub goes_on : (front : List Cell) (n m : ℕ) (before : Option Cell) (u : Unread) (e : Cell) (v : Unread) (total : Result (List Cell × Unread) ℕ) → 0 < n → m ≡ n - 1
      → next_entry_at row before u ≡ Ok (e, v) → with_front front (entries_at row n before u) ≡ total → with_front (front ++ e ∷ []) (entries_at row m (Some e) v) ≡ total
  unfolding entries_at
  goes_on front zero m before u e v total l less r so_far = absurd (omega arith)
  goes_on front (suc n) m before u e v total l less r so_far =
      let same : m ≡ n = omega arith in
      ap (λ (k : ℕ). with_front (front ++ e ∷ []) (entries_at row k (Some e) v)) same
      ∙ sym (regroup front e (entries_at row n (Some e) v))
      ∙ sym (ap (λ (r : Result (Cell × Unread) ℕ). with_front front (r >>= λ entry. entries_at row n (Some entry.0) entry.1 >>= λ entries. Ok (entry.0 ∷ entries.0, entries.1))) r)
      ∙ so_far
