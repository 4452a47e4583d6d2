-- An entry of a row that is written is read again, and one that is read was written so.
use Rattle.std.proofs.Common.{◌≡◌, ℕ, ◌^◌, ◌<◌, ◌≤◌, false, ltb, List, ◌++◌, length, Result, Ok, refl, sym, ap, subst, append_assoc, arith}
use Rattle.std.specs.Int.{w64, cast_signed, cast_unsigned}
use Rattle.std.proofs.lemmas.Bool.{ltb-false, le-ltb}
use Rattle.std.proofs.lemmas.Int.{to_z-of_z, of_z-to_z}
use Rattle.byteorder.specs.Endian.{big_bytes}
use Rattle.tablet_model.specs.Cell.{CellKey, Cell}
use Rattle.tablet_model.specs.Bounds.{KeyBounds, IsTime}
use Rattle.tablet_model.proofs.Times.{time_fits, time_below, time_is}
use Rattle.byte_fields.specs.Fields.{◌>>=◌, Unread, number_at, its_place}
use Rattle.byte_fields.proofs.Fields.{bind_ok, ok_is, IsBytes, Takes, Takes-then, Again, Again-then, wide2, wide8, number_again, number_take, sized_again, sized_take}
use Rattle.tablet_model.specs.RowText.{part_bytes, value_bytes, entry_bytes}
use Rattle.whole_row.specs.RowLists.{IsRowEntry}
use Rattle.whole_row.specs.RowReading.{part_at, value_at, key_at, entry_at}

-- ---- a part of a key, and a value

part_again : (part : List ℕ) → length part ≤ 1024 → Again part_at (part_bytes part) part
unfolding part_at
part_again part l = sized_again its_place its_place 2 (2 ^ 16) wide2 (ltb 1024) part (omega arith) (le-ltb _ _ l)

part_take : (u : Unread) (x : List ℕ × Unread) → IsBytes u.rest → part_at u ≡ Ok x → Takes u (part_bytes x.0) x.1 × (length x.0 ≤ 1024)
unfolding part_at
part_take u x fits e =
    let t = sized_take its_place its_place 2 (2 ^ 16) wide2 (ltb 1024) u x fits e in
    (t.0, ltb-false _ _ t.1)

value_again : (value : List ℕ) → length value < 2 ^ 64 → Again value_at (value_bytes value) value
unfolding value_at
value_again value l = sized_again its_place its_place 8 (2 ^ 64) wide8 (λ _. false) value l refl

value_take : (u : Unread) (x : List ℕ × Unread) → IsBytes u.rest → value_at u ≡ Ok x → Takes u (value_bytes x.0) x.1 × (length x.0 < 2 ^ 64)
unfolding value_at
value_take u x fits e =
    let t = sized_take its_place its_place 8 (2 ^ 64) wide8 (λ _. false) u x fits e in
    (t.0, t.2)

-- ---- what is read behind each part of a key

module _ (row : List ℕ) where
  abbrev made : List ℕ → List ℕ → List ℕ → ℕ → CellKey
  made family qualifier visibility time = record { row = row; family = family; qualifier = qualifier; visibility = visibility; time = cast_signed w64 time; deleted = false }

  abbrev after_visibility : List ℕ → List ℕ → List ℕ → Unread → Result (CellKey × Unread) ℕ
  after_visibility family qualifier visibility u = number_at 8 u >>= λ time. Ok (made family qualifier visibility time.0, time.1)

  abbrev after_qualifier : List ℕ → List ℕ → Unread → Result (CellKey × Unread) ℕ
  after_qualifier family qualifier u = part_at u >>= λ visibility. after_visibility family qualifier visibility.0 visibility.1

  abbrev after_family : List ℕ → Unread → Result (CellKey × Unread) ℕ
  after_family family u = part_at u >>= λ qualifier. after_qualifier family qualifier.0 qualifier.1

  -- the bytes of a key
  abbrev key_text : CellKey → List ℕ
  key_text k = part_bytes k.family ++ part_bytes k.qualifier ++ part_bytes k.visibility ++ big_bytes 8 (cast_unsigned w64 k.time)

  -- ---- a key that is written

  with_time : (family qualifier visibility : List ℕ) (n : ℕ) → n < 2 ^ 64 → Again (after_visibility family qualifier visibility) (big_bytes 8 n) (made family qualifier visibility n)
  with_time family qualifier visibility n l at rest = rw (number_again 8 (2 ^ 64) wide8 n l at rest) refl

  grouped : (a b c d : List ℕ) → a ++ (b ++ (c ++ d)) ≡ ((a ++ b) ++ c) ++ d
  grouped a b c d = sym (simp append_assoc)

  same_key : (k : CellKey) → k.row ≡ row → k.deleted ≡ false → IsTime k.time → made k.family k.qualifier k.visibility (cast_unsigned w64 k.time) ≡ k
  same_key k of live in_time =
      let t = to_z-of_z w64 k.time (time_fits k.time in_time) in
      λ i. record { row = sym of i; family = k.family; qualifier = k.qualifier; visibility = k.visibility; time = t i; deleted = sym live i }

  parts_again : (family qualifier visibility : List ℕ) (n : ℕ) → length family ≤ 1024 → length qualifier ≤ 1024 → length visibility ≤ 1024 → n < 2 ^ 64
      → Again (key_at row) (part_bytes family ++ (part_bytes qualifier ++ (part_bytes visibility ++ big_bytes 8 n))) (made family qualifier visibility n)
  unfolding key_at
  parts_again family qualifier visibility n f q v below =
      let key : CellKey = made family qualifier visibility n in
      let from_visibility = Again-then part_at (after_visibility family qualifier) (part_bytes visibility) (big_bytes 8 n) visibility key (part_again visibility v) (with_time family qualifier visibility n below) in
      let from_qualifier = Again-then part_at (after_qualifier family) (part_bytes qualifier) (part_bytes visibility ++ big_bytes 8 n) qualifier key (part_again qualifier q) from_visibility in
      Again-then part_at after_family (part_bytes family) (part_bytes qualifier ++ (part_bytes visibility ++ big_bytes 8 n)) family key (part_again family f) from_qualifier

  key_again : (k : CellKey) → k.row ≡ row → k.deleted ≡ false → KeyBounds k.row k.family k.qualifier k.visibility → IsTime k.time → Again (key_at row) (key_text k) k
  key_again k of live bounds in_time =
      let n : ℕ = cast_unsigned w64 k.time in
      subst (Again (key_at row) (key_text k)) (same_key k of live in_time)
      (subst (λ (text : List ℕ). Again (key_at row) text (made k.family k.qualifier k.visibility n)) (grouped (part_bytes k.family) (part_bytes k.qualifier) (part_bytes k.visibility) (big_bytes 8 n))
      (parts_again k.family k.qualifier k.visibility n bounds.2 bounds.3 bounds.4 (time_below k.time in_time)))

  -- ---- a key that is read

  -- what is known of a key that was read
  pub record IsKey (k : CellKey) : Type 0 where
    pub of_row : k.row ≡ row
    pub live : k.deleted ≡ false
    pub family : length k.family ≤ 1024
    pub qualifier : length k.qualifier ≤ 1024
    pub visibility : length k.visibility ≤ 1024
    pub in_time : IsTime k.time

  abbrev IsRead : Unread → CellKey × Unread → Type 0
  IsRead u x = Takes u (key_text x.0) x.1 × IsKey x.0

  take_time : (u : Unread) (family qualifier visibility : List ℕ) (v : Unread) (x : CellKey × Unread)
      → Takes u (part_bytes family ++ part_bytes qualifier ++ part_bytes visibility) v → length family ≤ 1024 → length qualifier ≤ 1024 → length visibility ≤ 1024
      → after_visibility family qualifier visibility v ≡ Ok x → IsRead u x
  take_time u family qualifier visibility v x t f q w e =
      let b = bind_ok (number_at 8 v) (λ time. Ok (made family qualifier visibility time.0, time.1)) x e in
      let n = number_take 8 (2 ^ 64) wide8 v b.0 t.rest_fits b.1 in
      let whole = Takes-then u (part_bytes family ++ part_bytes qualifier ++ part_bytes visibility) v (big_bytes 8 b.0.0) b.0.1 t n.0 in
      let back : big_bytes 8 b.0.0 ≡ big_bytes 8 (cast_unsigned w64 (cast_signed w64 b.0.0)) = ap (big_bytes 8) (sym (of_z-to_z w64 b.0.0 n.1)) in
      subst (IsRead u) (ok_is (made family qualifier visibility b.0.0, b.0.1) x b.2) (
        subst (λ (time : List ℕ). Takes u (part_bytes family ++ part_bytes qualifier ++ part_bytes visibility ++ time) b.0.1) back whole,
        record { of_row = refl; live = refl; family = f; qualifier = q; visibility = w; in_time = time_is b.0.0 n.1 },
      )

  take_visibility : (u : Unread) (family qualifier : List ℕ) (v : Unread) (x : CellKey × Unread)
      → Takes u (part_bytes family ++ part_bytes qualifier) v → length family ≤ 1024 → length qualifier ≤ 1024
      → after_qualifier family qualifier v ≡ Ok x → IsRead u x
  take_visibility u family qualifier v x t f q e =
      let b = bind_ok (part_at v) (λ visibility. after_visibility family qualifier visibility.0 visibility.1) x e in
      let p = part_take v b.0 t.rest_fits b.1 in
      take_time u family qualifier b.0.0 b.0.1 x (Takes-then u (part_bytes family ++ part_bytes qualifier) v (part_bytes b.0.0) b.0.1 t p.0) f q p.1 b.2

  take_qualifier : (u : Unread) (family : List ℕ) (v : Unread) (x : CellKey × Unread)
      → Takes u (part_bytes family) v → length family ≤ 1024 → after_family family v ≡ Ok x → IsRead u x
  take_qualifier u family v x t f e =
      let b = bind_ok (part_at v) (λ qualifier. after_qualifier family qualifier.0 qualifier.1) x e in
      let p = part_take v b.0 t.rest_fits b.1 in
      take_visibility u family b.0.0 b.0.1 x (Takes-then u (part_bytes family) v (part_bytes b.0.0) b.0.1 t p.0) f p.1 b.2

  key_take : (u : Unread) (x : CellKey × Unread) → IsBytes u.rest → key_at row u ≡ Ok x → IsRead u x
  unfolding key_at
  key_take u x fits e =
      let b = bind_ok (part_at u) (λ family. after_family family.0 family.1) x e in
      let p = part_take u b.0 fits b.1 in
      take_qualifier u b.0.0 b.0.1 x p.0 p.1 b.2

  -- ---- an entry

  with_value : (k : CellKey) (value : List ℕ) → length value < 2 ^ 64
      → Again {A = Cell} (λ u. value_at u >>= λ v. Ok (record { key = k; value = v.0 }, v.1)) (value_bytes value) (record { key = k; value = value })
  with_value k value l at rest = rw (value_again value l at rest) refl

  pub entry_again : (e : Cell) → IsRowEntry row e → Again (entry_at row) (entry_bytes e) e
  unfolding entry_at entry_bytes
  entry_again e is =
      Again-then (key_at row) (λ k u. value_at u >>= λ v. Ok (record { key = k; value = v.0 }, v.1)) (key_text e.key) (value_bytes e.value) e.key e
      (key_again e.key is.of_row is.live is.in_bounds.0 is.in_bounds.1) (with_value e.key e.value is.short)

  pub entry_take : 1 ≤ length row → length row ≤ 1024 → (u : Unread) (x : Cell × Unread) → IsBytes u.rest → entry_at row u ≡ Ok x → Takes u (entry_bytes x.0) x.1 × IsRowEntry row x.0
  unfolding entry_at entry_bytes
  entry_take some short u x fits e =
      let k = bind_ok (key_at row u) (λ key. value_at key.1 >>= λ value. Ok (record { key = key.0; value = value.0 }, value.1)) x e in
      let k' = key_take u k.0 fits k.1 in
      let v = bind_ok (value_at k.0.1) (λ value. Ok (record { key = k.0.0; value = value.0 }, value.1)) x k.2 in
      let v' = value_take k.0.1 v.0 k'.0.rest_fits v.1 in
      let found : Cell × Unread = (record { key = k.0.0; value = v.0.0 }, v.0.1) in
      let row_is : length k.0.0.row ≡ length row = ap length k'.1.of_row in
      subst (λ (y : Cell × Unread). Takes u (entry_bytes y.0) y.1 × IsRowEntry row y.0) (ok_is found x v.2) (
        Takes-then u (key_text k.0.0) k.0.1 (value_bytes v.0.0) v.0.1 k'.0 v'.0,
        record {
          of_row = k'.1.of_row;
          live = k'.1.live;
          in_bounds = ((omega arith, omega arith, k'.1.family, k'.1.qualifier, k'.1.visibility), k'.1.in_time);
          short = v'.1;
        },
      )
