-- A part of an entry that is written is read again, and one that is read was written so.
use Rattle.std.proofs.Common.{◌≡◌, ℕ, ◌+◌, ◌^◌, ◌≤◌, Bool, true, false, ◌||◌, cond, eqb, ltb, List, [], ◌∷◌, ◌++◌, length, get_or, Result, Ok, Err, refl, sym, ap, subst, ◌∙◌, arith}
use Rattle.std.specs.Str.{bytes_eq}
use Rattle.std.proofs.lemmas.Bool.{ltb-false, le-ltb, lt-ltb, eqb-true}
use Rattle.std.proofs.lemmas.Bool.Decides.{nat_tests}
use Rattle.std.proofs.lemmas.Slice.Eq.{bytes_eq-Decides}
use Rattle.byteorder.specs.Endian.{big_bytes}
use Rattle.byte_fields.specs.Fields.{Unread, bytes_at, number_at}
use Rattle.byte_fields.proofs.Fields.{bind_ok, then_ok, ok_is, told_ok, IsBytes, spot, Takes, Again, bytes_again, bytes_take, wide2, wide4, number_again, number_take, sized_again, sized_take}
use Rattle.sorted_file.specs.Image.{version_bytes, part_bytes, flag_bytes, value_bytes}
use Rattle.sorted_file.specs.Versions.{end_mark}
use Rattle.sorted_file.specs.Lists.{longest_value}
use Rattle.sorted_file.specs.Reading.{fault, whole_field, expected_at, version_at, end_at, row_at, part_at, flag_at, value_at}
use Rattle.sorted_file.specs.declared.fault.Fault.{Fault}
use Rattle.sorted_file.specs.declared.fault.ImageCause.{ImageCause}
use Rattle.sorted_file.specs.declared.fault.ImageCause.TheVariants.{Length, Bound}
use Rattle.sorted_file.specs.declared.fault.ImageCause.TheVariants as causes
use Rattle.sorted_file.specs.declared.version.Version.{Version}
use Rattle.sorted_file.specs.declared.version.Version.TheVariants.{One, Two}

-- ---- a field that is known

pub expected_again : (cause : ImageCause) (field : List ℕ) (at : ℕ) (rest : List ℕ) → expected_at cause field (spot at (field ++ rest)) ≡ Ok (spot (at + length field) rest)
unfolding expected_at
expected_again cause field at rest = rw (bytes_again field (length field) refl at rest, (bytes_eq-Decides field field).1 refl) refl

pub expected_take : (cause : ImageCause) (field : List ℕ) (u v : Unread) → IsBytes u.rest → expected_at cause field u ≡ Ok v → Takes u field v
unfolding expected_at
expected_take cause field u v fits e =
    let b = bind_ok (whole_field (bytes_at (length field) u)) (λ found. cond (bytes_eq found.0 field) (Ok found.1) (Err (fault cause u.at))) v e in
    let g = then_ok (bytes_eq b.0.0 field) (fault cause u.at) (Ok b.0.1) v b.2 in
    let same : b.0.0 ≡ field = (bytes_eq-Decides b.0.0 field).0 g.0 in
    subst (λ (x : List ℕ × Unread). Takes u x.0 x.1) (λ i. (same i, ok_is b.0.1 v g.1 i)) (bytes_take (length field) u b.0 fits (told_ok (fault Length) (bytes_at (length field) u) b.0 b.1)).0

-- ---- the parts of a key

either_fault : (n : ℕ) → 1 ≤ n → n ≤ 1024 → (eqb n 0 || ltb 1024 n) ≡ false
either_fault n h l = grind (arith, nat_tests)

pub row_again : (row : List ℕ) → 1 ≤ length row → length row ≤ 1024 → Again row_at (part_bytes row) row
unfolding row_at
row_again row h l = sized_again (fault Length) (fault Bound) 2 (2 ^ 16) wide2 (λ n. eqb n 0 || ltb 1024 n) row (omega arith) (either_fault (length row) h l)

neither_fault : (n : ℕ) → (eqb n 0 || ltb 1024 n) ≡ false → (1 ≤ n) × (n ≤ 1024)
neither_fault n h = (grind (arith, nat_tests), grind (arith, nat_tests))

pub row_take : (u : Unread) (x : List ℕ × Unread) → IsBytes u.rest → row_at u ≡ Ok x → Takes u (part_bytes x.0) x.1 × ((1 ≤ length x.0) × (length x.0 ≤ 1024))
unfolding row_at
row_take u x fits e =
    let t = sized_take (fault Length) (fault Bound) 2 (2 ^ 16) wide2 (λ n. eqb n 0 || ltb 1024 n) u x fits e in
    (t.0, neither_fault (length x.0) t.1)

pub part_again : (part : List ℕ) → length part ≤ 1024 → Again part_at (part_bytes part) part
unfolding part_at
part_again part l = sized_again (fault Length) (fault Bound) 2 (2 ^ 16) wide2 (ltb 1024) part (omega arith) (le-ltb _ _ l)

pub part_take : (u : Unread) (x : List ℕ × Unread) → IsBytes u.rest → part_at u ≡ Ok x → Takes u (part_bytes x.0) x.1 × (length x.0 ≤ 1024)
unfolding part_at
part_take u x fits e =
    let t = sized_take (fault Length) (fault Bound) 2 (2 ^ 16) wide2 (ltb 1024) u x fits e in
    (t.0, ltb-false _ _ t.1)

one_byte : (bytes : List ℕ) (n : ℕ) → length bytes ≡ 1 → get_or bytes 0 0 ≡ n → bytes ≡ n ∷ []
one_byte [] n len e = absurd (omega arith)
one_byte (b ∷ []) n len e = ap (λ (k : ℕ). k ∷ []) e
one_byte (b ∷ c ∷ bytes) n len e = absurd (omega arith)

-- a field of one byte
pub byte_take : (u : Unread) (x : List ℕ × Unread) → IsBytes u.rest → whole_field (bytes_at 1 u) ≡ Ok x → Takes u (get_or x.0 0 0 ∷ []) x.1
byte_take u x fits e =
    let t = bytes_take 1 u x fits (told_ok (fault Length) (bytes_at 1 u) x e) in
    subst (λ (bs : List ℕ). Takes u bs x.1) (one_byte x.0 (get_or x.0 0 0) t.1 refl) t.0

-- a field of one byte that says one of two things
by_byte : {A : Type 0} (u v : Unread) (text : A → List ℕ) (n a b : ℕ) (one two : A) (error : Fault) (x : A × Unread) → Takes u (n ∷ []) v → text one ≡ a ∷ [] → text two ≡ b ∷ []
    → cond (eqb n a) (Ok (one, v)) (cond (eqb n b) (Ok (two, v)) (Err error)) ≡ Ok x → Takes u (text x.0) x.1
by_byte {A} u v text n a b one two error x t is_one is_two r = go (eqb n a) (eqb n b) refl refl r
  where
    go : (p q : Bool) → eqb n a ≡ p → eqb n b ≡ q → cond p (Ok (one, v)) (cond q (Ok (two, v)) (Err error)) ≡ Ok x → Takes u (text x.0) x.1
    go true q is0 is1 r = subst (λ (y : A × Unread). Takes u (text y.0) y.1) (ok_is (one, v) x r) (subst (λ (bs : List ℕ). Takes u bs v) (ap (λ (k : ℕ). k ∷ []) (eqb-true _ _ is0) ∙ sym is_one) t)
    go false true is0 is1 r = subst (λ (y : A × Unread). Takes u (text y.0) y.1) (ok_is (two, v) x r) (subst (λ (bs : List ℕ). Takes u bs v) (ap (λ (k : ℕ). k ∷ []) (eqb-true _ _ is1) ∙ sym is_two) t)
    go false false is0 is1 r = absurd cc

pub flag_again : (deleted : Bool) → Again flag_at (flag_bytes deleted) deleted
unfolding flag_at
flag_again true at rest = rw (bytes_again (1 ∷ []) 1 refl at rest) refl
flag_again false at rest = rw (bytes_again (0 ∷ []) 1 refl at rest) refl

pub flag_take : (u : Unread) (x : Bool × Unread) → IsBytes u.rest → flag_at u ≡ Ok x → Takes u (flag_bytes x.0) x.1
unfolding flag_at
flag_take u x fits e =
    let flag_of = λ (flag : List ℕ × Unread). cond (eqb (get_or flag.0 0 0) 0) (Ok (false, flag.1)) (cond (eqb (get_or flag.0 0 0) 1) (Ok (true, flag.1)) (Err (fault Bound u.at))) in
    let b = bind_ok (whole_field (bytes_at 1 u)) flag_of x e in
    by_byte u b.0.1 flag_bytes (get_or b.0.0 0 0) 0 1 false true (fault Bound u.at) x (byte_take u b.0 fits b.1) refl refl b.2

-- ---- versions and end marks

pub version_again : (v : Version) → Again version_at (version_bytes v) v
unfolding version_at
version_again One at rest = rw (bytes_again (1 ∷ []) 1 refl at rest) refl
version_again Two at rest = rw (bytes_again (2 ∷ []) 1 refl at rest) refl

pub version_take : (u : Unread) (x : Version × Unread) → IsBytes u.rest → version_at u ≡ Ok x → Takes u (version_bytes x.0) x.1
unfolding version_at
version_take u x fits e =
    let version_of = λ (number : List ℕ × Unread). cond (eqb (get_or number.0 0 0) 1) (Ok (One, number.1)) (cond (eqb (get_or number.0 0 0) 2) (Ok (Two, number.1)) (Err (fault causes.Version u.at))) in
    let b = bind_ok (whole_field (bytes_at 1 u)) version_of x e in
    by_byte u b.0.1 version_bytes (get_or b.0.0 0 0) 1 2 One Two (fault causes.Version u.at) x (byte_take u b.0 fits b.1) refl refl b.2

pub end_again : (v : Version) → Again (end_at v) (end_mark v) true
unfolding end_at
end_again One at rest = rw (number_again 2 (2 ^ 16) wide2 0 (omega arith) at rest) refl
end_again Two at rest = rw (bytes_again (255 ∷ []) 1 refl at rest) refl

is_true : (b : Bool) (v w : Unread) → ◌≡◌ {A = Result (Bool × Unread) Fault} (Ok (b, v)) (Ok (true, w)) → (b ≡ true) × (v ≡ w)
is_true b v w e =
    let same = ok_is (b, v) (true, w) e in
    (ap (λ (x : Bool × Unread). x.0) same, ap (λ (x : Bool × Unread). x.1) same)

pub end_take : (v : Version) (u w : Unread) → IsBytes u.rest → end_at v u ≡ Ok (true, w) → Takes u (end_mark v) w
unfolding end_at
end_take One u w fits e =
    let b = bind_ok (whole_field (number_at 2 u)) (λ row. Ok (eqb row.0 0, row.1)) (true, w) e in
    let t = number_take 2 (2 ^ 16) wide2 u b.0 fits (told_ok (fault Length) (number_at 2 u) b.0 b.1) in
    let is = is_true (eqb b.0.0 0) b.0.1 w b.2 in
    subst (λ (k : ℕ). Takes u (big_bytes 2 k) w) (eqb-true _ _ is.0) (subst (Takes u (big_bytes 2 b.0.0)) is.1 t.0)
end_take Two u w fits e =
    let b = bind_ok (whole_field (bytes_at 1 u)) (λ same. Ok (eqb (get_or same.0 0 0) 255, same.1)) (true, w) e in
    let is = is_true (eqb (get_or b.0.0 0 0) 255) b.0.1 w b.2 in
    subst (λ (k : ℕ). Takes u (k ∷ []) w) (eqb-true _ _ is.0) (subst (Takes u (get_or b.0.0 0 0 ∷ [])) is.1 (byte_take u b.0 fits b.1))

-- no field is left
pub no_end : (v : Version) (u : Unread) → length u.rest ≤ 0 → end_at v u ≡ Err (fault Length u.at)
unfolding end_at number_at bytes_at
no_end One u l = rw (lt-ltb (length u.rest) 2 (omega arith)) refl
no_end Two u l = rw (lt-ltb (length u.rest) 1 (omega arith)) refl

-- ---- values

limit_small : (deleted : Bool) → longest_value deleted ≤ 65536
limit_small true = omega arith
limit_small false = omega arith

pub value_again : (deleted : Bool) (value : List ℕ) → length value ≤ longest_value deleted → Again (value_at deleted) (value_bytes value) value
unfolding value_at
value_again deleted value l = sized_again (fault Length) (fault Bound) 4 (2 ^ 32) wide4 (ltb (longest_value deleted)) value (omega (arith, limit_small deleted)) (le-ltb _ _ l)

pub value_take : (deleted : Bool) (u : Unread) (x : List ℕ × Unread) → IsBytes u.rest → value_at deleted u ≡ Ok x → Takes u (value_bytes x.0) x.1 × (length x.0 ≤ longest_value deleted)
unfolding value_at
value_take deleted u x fits e =
    let t = sized_take (fault Length) (fault Bound) 4 (2 ^ 32) wide4 (ltb (longest_value deleted)) u x fits e in
    (t.0, ltb-false _ _ t.1)
