-- An entry that is written is read again, and one that is read was written so.
use Rattle.std.proofs.Common.{◌≡◌, ℕ, ◌^◌, ◌<◌, ◌≤◌, Bool, ltb, List, [], ◌++◌, length, Option, Result, Ok, refl, sym, ap, subst, append_assoc, arith}
use Rattle.std.specs.Int.{w64, cast_signed, cast_unsigned}
use Rattle.std.proofs.lemmas.Int.{to_z-of_z, of_z-to_z}
use Rattle.byteorder.specs.Endian.{big_bytes}
use Rattle.tablet_model.specs.Cell.{CellKey, Cell}
use Rattle.tablet_model.specs.Bounds.{KeyBounds, IsTime}
use Rattle.tablet_model.proofs.Times.{time_fits, time_below, time_is}
use Rattle.byte_fields.specs.Fields.{◌>>=◌, Unread, number_at}
use Rattle.byte_fields.proofs.Fields.{bind_ok, ok_is, told_ok, IsBytes, Takes, Takes-then, Again, Again-then, told_again, wide8, number_again, number_take}
use Rattle.sorted_file.specs.Image.{own_bytes, flag_bytes, value_bytes, neighbour, shared_parts, key_bytes, sharing_bytes, entry_bytes}
use Rattle.sorted_file.specs.Versions.{same_bytes}
use Rattle.sorted_file.specs.Lists.{longest_value, IsFileEntry}
use Rattle.sorted_file.specs.Reading.{fault, whole_field, most_shared, same_at, sharer, shared_or, row_at, part_at, flag_at, value_at, key_at, entry_at}
use Rattle.sorted_file.specs.declared.fault.Fault.{Fault}
use Rattle.sorted_file.specs.declared.fault.ImageCause.TheVariants.{Length}
use Rattle.sorted_file.specs.declared.version.Version.{Version}
use Rattle.sorted_file.proofs.Parts.{row_again, row_take, part_again, part_take, flag_again, flag_take, value_again, value_take}
use Rattle.sorted_file.proofs.SharedParts.{AreShared, are_shared, IsNear, same_again, same_take, shared_again, shared_take}

-- ---- what is read behind each part of a key

abbrev made : List ℕ → List ℕ → List ℕ → List ℕ → ℕ → Bool → CellKey
made row family qualifier visibility time deleted = record { row = row; family = family; qualifier = qualifier; visibility = visibility; time = cast_signed w64 time; deleted = deleted }

-- the readers of the parts, of which so many are the neighbour's
abbrev row_in : ℕ → Option Cell → Unread → Result (List ℕ × Unread) Fault
row_in same near = shared_or (λ k. k.row) row_at (sharer 0 same near)

abbrev family_in : ℕ → Option Cell → Unread → Result (List ℕ × Unread) Fault
family_in same near = shared_or (λ k. k.family) part_at (sharer 1 same near)

abbrev qualifier_in : ℕ → Option Cell → Unread → Result (List ℕ × Unread) Fault
qualifier_in same near = shared_or (λ k. k.qualifier) part_at (sharer 2 same near)

abbrev visibility_in : ℕ → Option Cell → Unread → Result (List ℕ × Unread) Fault
visibility_in same near = shared_or (λ k. k.visibility) part_at (sharer 3 same near)

-- the bytes of the parts
abbrev row_of : ℕ → List ℕ → List ℕ
row_of same = own_bytes (ltb 0 same)

abbrev family_of : ℕ → List ℕ → List ℕ
family_of same = own_bytes (ltb 1 same)

abbrev qualifier_of : ℕ → List ℕ → List ℕ
qualifier_of same = own_bytes (ltb 2 same)

abbrev visibility_of : ℕ → List ℕ → List ℕ
visibility_of same = own_bytes (ltb 3 same)

abbrev after_time : List ℕ → List ℕ → List ℕ → List ℕ → ℕ → Unread → Result (CellKey × Unread) Fault
after_time row family qualifier visibility time u = flag_at u >>= λ deleted. Ok (made row family qualifier visibility time deleted.0, deleted.1)

abbrev after_visibility : List ℕ → List ℕ → List ℕ → List ℕ → Unread → Result (CellKey × Unread) Fault
after_visibility row family qualifier visibility u = whole_field (number_at 8 u) >>= λ time. after_time row family qualifier visibility time.0 time.1

abbrev after_qualifier : ℕ → Option Cell → List ℕ → List ℕ → List ℕ → Unread → Result (CellKey × Unread) Fault
after_qualifier same near row family qualifier u = visibility_in same near u >>= λ visibility. after_visibility row family qualifier visibility.0 visibility.1

abbrev after_family : ℕ → Option Cell → List ℕ → List ℕ → Unread → Result (CellKey × Unread) Fault
after_family same near row family u = qualifier_in same near u >>= λ qualifier. after_qualifier same near row family qualifier.0 qualifier.1

abbrev after_row : ℕ → Option Cell → List ℕ → Unread → Result (CellKey × Unread) Fault
after_row same near row u = family_in same near u >>= λ family. after_family same near row family.0 family.1

-- ---- a key

with_flag : (row family qualifier visibility : List ℕ) (time : ℕ) (deleted : Bool) → Again (after_time row family qualifier visibility time) (flag_bytes deleted) (made row family qualifier visibility time deleted)
with_flag row family qualifier visibility time deleted at rest = rw (flag_again deleted at rest) refl

grouped : (a b c d e f : List ℕ) → a ++ (b ++ (c ++ (d ++ (e ++ f)))) ≡ ((((a ++ b) ++ c) ++ d) ++ e) ++ f
grouped a b c d e f = sym (simp append_assoc)

same_key : (k : CellKey) → IsTime k.time → made k.row k.family k.qualifier k.visibility (cast_unsigned w64 k.time) k.deleted ≡ k
same_key k in_time = let t = to_z-of_z w64 k.time (time_fits k.time in_time) in λ i. record { row = k.row; family = k.family; qualifier = k.qualifier; visibility = k.visibility; time = t i; deleted = k.deleted }

parts_again : (same : ℕ) (near : Option Cell) (k : CellKey) (n : ℕ) → KeyBounds k.row k.family k.qualifier k.visibility → n < 2 ^ 64 → AreShared same near k
    → Again (key_at same near)
    (row_of same k.row ++ (family_of same k.family ++ (qualifier_of same k.qualifier ++ (visibility_of same k.visibility ++ (big_bytes 8 n ++ flag_bytes k.deleted)))))
    (made k.row k.family k.qualifier k.visibility n k.deleted)
unfolding key_at
parts_again same near k n bounds below shared =
    let key : CellKey = made k.row k.family k.qualifier k.visibility n k.deleted in
    let row : List ℕ = row_of same k.row in
    let family : List ℕ = family_of same k.family in
    let qualifier : List ℕ = qualifier_of same k.qualifier in
    let visibility : List ℕ = visibility_of same k.visibility in
    let time : List ℕ = big_bytes 8 n in
    let flag : List ℕ = flag_bytes k.deleted in
    let from_flag = with_flag k.row k.family k.qualifier k.visibility n k.deleted in
    let from_time = Again-then (λ u. whole_field (number_at 8 u)) (after_time k.row k.family k.qualifier k.visibility) time flag n key (told_again (fault Length) (number_at 8) time n (number_again 8 (2 ^ 64) wide8 n below)) from_flag in
    let visibility_is = shared_again 3 same near (λ k. k.visibility) part_at k shared.visibility (part_again k.visibility bounds.4) in
    let from_visibility = Again-then (visibility_in same near) (after_visibility k.row k.family k.qualifier) visibility (time ++ flag) k.visibility key visibility_is from_time in
    let qualifier_is = shared_again 2 same near (λ k. k.qualifier) part_at k shared.qualifier (part_again k.qualifier bounds.3) in
    let from_qualifier = Again-then (qualifier_in same near) (after_qualifier same near k.row k.family) qualifier (visibility ++ (time ++ flag)) k.qualifier key qualifier_is from_visibility in
    let family_is = shared_again 1 same near (λ k. k.family) part_at k shared.family (part_again k.family bounds.2) in
    let from_family = Again-then (family_in same near) (after_family same near k.row) family (qualifier ++ (visibility ++ (time ++ flag))) k.family key family_is from_qualifier in
    let row_is = shared_again 0 same near (λ k. k.row) row_at k shared.row (row_again k.row bounds.0 bounds.1) in
    Again-then (row_in same near) (after_row same near) row (family ++ (qualifier ++ (visibility ++ (time ++ flag)))) k.row key row_is from_family

pub key_again : (same : ℕ) (near : Option Cell) (k : CellKey) → KeyBounds k.row k.family k.qualifier k.visibility → IsTime k.time → AreShared same near k → Again (key_at same near) (key_bytes same k) k
unfolding key_bytes
key_again same near k bounds in_time shared =
    let n : ℕ = cast_unsigned w64 k.time in
    subst (Again (key_at same near) (key_bytes same k)) (same_key k in_time)
    (subst (λ (text : List ℕ). Again (key_at same near) text (made k.row k.family k.qualifier k.visibility n k.deleted)) (grouped (row_of same k.row) (family_of same k.family) (qualifier_of same k.qualifier) (visibility_of same k.visibility) (big_bytes 8 n) (flag_bytes k.deleted))
    (parts_again same near k n bounds (time_below k.time in_time) shared))

-- a key that was read
abbrev IsRead : ℕ → Unread → CellKey × Unread → Type 0
IsRead same u x = Takes u (key_bytes same x.0) x.1 × (KeyBounds x.0.row x.0.family x.0.qualifier x.0.visibility × IsTime x.0.time)

take_flag : (same : ℕ) (u : Unread) (row family qualifier visibility : List ℕ) (n : ℕ) (v : Unread) (x : CellKey × Unread)
    → Takes u (row_of same row ++ family_of same family ++ qualifier_of same qualifier ++ visibility_of same visibility ++ big_bytes 8 n) v → KeyBounds row family qualifier visibility → n < 2 ^ 64
    → after_time row family qualifier visibility n v ≡ Ok x → IsRead same u x
unfolding key_bytes
take_flag same u row family qualifier visibility n v x t bounds below e =
    let parts : List ℕ = row_of same row ++ family_of same family ++ qualifier_of same qualifier ++ visibility_of same visibility in
    let b = bind_ok (flag_at v) (λ deleted. Ok (made row family qualifier visibility n deleted.0, deleted.1)) x e in
    let whole = Takes-then u (parts ++ big_bytes 8 n) v (flag_bytes b.0.0) b.0.1 t (flag_take v b.0 t.rest_fits b.1) in
    let back : big_bytes 8 n ≡ big_bytes 8 (cast_unsigned w64 (cast_signed w64 n)) = ap (big_bytes 8) (sym (of_z-to_z w64 n below)) in
    subst (IsRead same u) (ok_is (made row family qualifier visibility n b.0.0, b.0.1) x b.2)
    (subst (λ (time : List ℕ). Takes u (parts ++ time ++ flag_bytes b.0.0) b.0.1) back whole, (bounds, time_is n below))

take_time : (same : ℕ) (u : Unread) (row family qualifier visibility : List ℕ) (v : Unread) (x : CellKey × Unread)
    → Takes u (row_of same row ++ family_of same family ++ qualifier_of same qualifier ++ visibility_of same visibility) v → KeyBounds row family qualifier visibility
    → after_visibility row family qualifier visibility v ≡ Ok x → IsRead same u x
take_time same u row family qualifier visibility v x t bounds e =
    let parts : List ℕ = row_of same row ++ family_of same family ++ qualifier_of same qualifier ++ visibility_of same visibility in
    let b = bind_ok (whole_field (number_at 8 v)) (λ time. after_time row family qualifier visibility time.0 time.1) x e in
    let n = number_take 8 (2 ^ 64) wide8 v b.0 t.rest_fits (told_ok (fault Length) (number_at 8 v) b.0 b.1) in
    take_flag same u row family qualifier visibility b.0.0 b.0.1 x (Takes-then u parts v (big_bytes 8 b.0.0) b.0.1 t n.0) bounds n.1 b.2

-- a part but the row is short
abbrev IsShort : List ℕ → Type 0
IsShort part = length part ≤ 1024

take_visibility : (same : ℕ) (near : Option Cell) (u : Unread) (row family qualifier : List ℕ) (v : Unread) (x : CellKey × Unread) → IsNear near → same ≤ most_shared near
    → Takes u (row_of same row ++ family_of same family ++ qualifier_of same qualifier) v → KeyBounds row family qualifier []
    → after_qualifier same near row family qualifier v ≡ Ok x → IsRead same u x
take_visibility same near u row family qualifier v x is_near few t bounds e =
    let b = bind_ok (visibility_in same near v) (λ visibility. after_visibility row family qualifier visibility.0 visibility.1) x e in
    let p = shared_take 3 same near (λ k. k.visibility) part_at IsShort v b.0 t.rest_fits few (λ near is. (is_near near is).0.4) (part_take v b.0 t.rest_fits) b.1 in
    take_time same u row family qualifier b.0.0 b.0.1 x (Takes-then u (row_of same row ++ family_of same family ++ qualifier_of same qualifier) v (visibility_of same b.0.0) b.0.1 t p.0) (bounds.0, bounds.1, bounds.2, bounds.3, p.1) b.2

take_qualifier : (same : ℕ) (near : Option Cell) (u : Unread) (row family : List ℕ) (v : Unread) (x : CellKey × Unread) → IsNear near → same ≤ most_shared near
    → Takes u (row_of same row ++ family_of same family) v → KeyBounds row family [] []
    → after_family same near row family v ≡ Ok x → IsRead same u x
take_qualifier same near u row family v x is_near few t bounds e =
    let b = bind_ok (qualifier_in same near v) (λ qualifier. after_qualifier same near row family qualifier.0 qualifier.1) x e in
    let p = shared_take 2 same near (λ k. k.qualifier) part_at IsShort v b.0 t.rest_fits few (λ near is. (is_near near is).0.3) (part_take v b.0 t.rest_fits) b.1 in
    take_visibility same near u row family b.0.0 b.0.1 x is_near few (Takes-then u (row_of same row ++ family_of same family) v (qualifier_of same b.0.0) b.0.1 t p.0) (bounds.0, bounds.1, bounds.2, p.1, bounds.4) b.2

take_family : (same : ℕ) (near : Option Cell) (u : Unread) (row : List ℕ) (v : Unread) (x : CellKey × Unread) → IsNear near → same ≤ most_shared near
    → Takes u (row_of same row) v → KeyBounds row [] [] [] → after_row same near row v ≡ Ok x → IsRead same u x
take_family same near u row v x is_near few t bounds e =
    let b = bind_ok (family_in same near v) (λ family. after_family same near row family.0 family.1) x e in
    let p = shared_take 1 same near (λ k. k.family) part_at IsShort v b.0 t.rest_fits few (λ near is. (is_near near is).0.2) (part_take v b.0 t.rest_fits) b.1 in
    take_qualifier same near u row b.0.0 b.0.1 x is_near few (Takes-then u (row_of same row) v (family_of same b.0.0) b.0.1 t p.0) (bounds.0, bounds.1, p.1, bounds.3, bounds.4) b.2

pub key_take : (same : ℕ) (near : Option Cell) (u : Unread) (x : CellKey × Unread) → IsBytes u.rest → IsNear near → same ≤ most_shared near → key_at same near u ≡ Ok x
    → Takes u (key_bytes same x.0) x.1 × (KeyBounds x.0.row x.0.family x.0.qualifier x.0.visibility × IsTime x.0.time)
unfolding key_at
key_take same near u x fits is_near few e =
    let b = bind_ok (row_in same near u) (λ row. after_row same near row.0 row.1) x e in
    let p = shared_take 0 same near (λ k. k.row) row_at (λ row. (1 ≤ length row) × (length row ≤ 1024)) u b.0 fits few (λ near is. ((is_near near is).0.0, (is_near near is).0.1)) (row_take u b.0 fits) b.1 in
    take_family same near u b.0.0 b.0.1 x is_near few p.0 (p.1.0, p.1.1, nothing, nothing, nothing) b.2
  where
    nothing : length {A = ℕ} [] ≤ 1024
    nothing = omega arith

-- ---- an entry

with_value : (same : ℕ) (k : CellKey) (value : List ℕ) → length value ≤ longest_value k.deleted
    → Again {A = ℕ × Cell} (λ u. value_at k.deleted u >>= λ v. Ok ((same, record { key = k; value = v.0 }), v.1)) (value_bytes value) (same, record { key = k; value = value })
with_value same k value l at rest = rw (value_again k.deleted value l at rest) refl

-- what is read behind the number of shared parts
abbrev after_same : Option Cell → ℕ → Unread → Result ((ℕ × Cell) × Unread) Fault
after_same near same u = key_at same near u >>= λ key. value_at key.0.deleted key.1 >>= λ value. Ok ((same, record { key = key.0; value = value.0 }), value.1)

behind_same : (same : ℕ) (near : Option Cell) (e : Cell) → IsFileEntry e → AreShared same near e.key → Again (after_same near same) (key_bytes same e.key ++ value_bytes e.value) (same, e)
behind_same same near e is shared =
    Again-then (key_at same near) (λ k u. value_at k.deleted u >>= λ v. Ok ((same, record { key = k; value = v.0 }), v.1)) (key_bytes same e.key) (value_bytes e.value) e.key (same, e) (key_again same near e.key is.0.0 is.0.1 shared) (with_value same e.key e.value is.1)

pub entry_again : (v : Version) (n : ℕ) (before : Option Cell) (e : Cell) → IsFileEntry e
    → Again (entry_at v (neighbour v n before)) (entry_bytes v (neighbour v n before) e) (shared_parts (neighbour v n before) e, e)
unfolding entry_at sharing_bytes
entry_again v n before e is =
    let near = neighbour v n before in
    let same = shared_parts near e in
    let all = Again-then (same_at v near) (after_same near) (same_bytes v same) (key_bytes same e.key ++ value_bytes e.value) same (same, e) (same_again v n before e) (behind_same same near e is (are_shared near e)) in
    subst (λ (text : List ℕ). Again (entry_at v near) text (same, e)) (sym (append_assoc (same_bytes v same) (key_bytes same e.key) (value_bytes e.value))) all

pub entry_take : (v : Version) (near : Option Cell) (u : Unread) (x : (ℕ × Cell) × Unread) → IsBytes u.rest → IsNear near → entry_at v near u ≡ Ok x
    → Takes u (sharing_bytes v x.0.0 x.0.1) x.1 × IsFileEntry x.0.1
unfolding entry_at sharing_bytes
entry_take v near u x fits is_near e =
    let s = bind_ok (same_at v near u) (λ same. after_same near same.0 same.1) x e in
    let s' = same_take v near u s.0 fits s.1 in
    let k = bind_ok (key_at s.0.0 near s.0.1) (λ key. value_at key.0.deleted key.1 >>= λ value. Ok ((s.0.0, record { key = key.0; value = value.0 }), value.1)) x s.2 in
    let k' = key_take s.0.0 near s.0.1 k.0 s'.0.rest_fits is_near s'.1 k.1 in
    let w = bind_ok (value_at k.0.0.deleted k.0.1) (λ value. Ok ((s.0.0, record { key = k.0.0; value = value.0 }), value.1)) x k.2 in
    let w' = value_take k.0.0.deleted k.0.1 w.0 k'.0.rest_fits w.1 in
    let found : (ℕ × Cell) × Unread = ((s.0.0, record { key = k.0.0; value = w.0.0 }), w.0.1) in
    let front = Takes-then u (same_bytes v s.0.0) s.0.1 (key_bytes s.0.0 k.0.0) k.0.1 s'.0 k'.0 in
    subst (λ (y : (ℕ × Cell) × Unread). Takes u (sharing_bytes v y.0.0 y.0.1) y.1 × IsFileEntry y.0.1) (ok_is found x w.2)
    (Takes-then u (same_bytes v s.0.0 ++ key_bytes s.0.0 k.0.0) k.0.1 (value_bytes w.0.0) w.0.1 front w'.0, (k'.1, w'.1))
