-- A field that is written is read again, and one that is read was written so.
use Rattle.std.proofs.Common.{◌≡◌, ℕ, ◌+◌, ◌^◌, ◌<◌, ◌≤◌, Bool, true, false, cond, ltb, List, [], ◌++◌, length, get_or, take, drop, Result, Ok, Err, All, refl, sym, ap, subst, ◌∙◌, append_assoc, length-append, arith, inl, inr}
use Rattle.std.proofs.lemmas.Bool.{cases_lt, ltb-false, le-ltb}
use Rattle.std.proofs.lemmas.List.{take_at, drop_at, take-append-drop, length-take, get_or_default, get_or-drop, get_or-take, get_or_past}
use Rattle.std.proofs.lemmas.Nat.{be_bytes_2, be_bytes_4, be_bytes_8}
use Rattle.byteorder.specs.Endian.{big_bytes, big_number}
use Rattle.byteorder.specs.Numbers.{big_number-reads_back, big_from-lt}
use Rattle.byte_fields.specs.Fields.{◌>>=◌, Unread, behind, bytes_at, number_at, with_error, sized_bytes, sized_at}

-- ---- steps that do not fail

module _ {E : Type 0} where
  pub bind_ok : {A B : Type 0} (r : Result A E) (f : A → Result B E) (y : B) → (r >>= f) ≡ Ok y → (x : A) × (r ≡ Ok x) × (f x ≡ Ok y)
  bind_ok (Ok x) f y e = (x, refl, e)
  bind_ok (Err d) f y e = absurd cc

  -- a test for a fault that failed
  pub else_ok : {A : Type 0} (b : Bool) (d : E) (r : Result A E) (y : A) → cond b (Err d) r ≡ Ok y → (b ≡ false) × (r ≡ Ok y)
  else_ok true d r y e = absurd cc
  else_ok false d r y e = (refl, e)

  -- a test against a fault that held
  pub then_ok : {A : Type 0} (b : Bool) (d : E) (r : Result A E) (y : A) → cond b r (Err d) ≡ Ok y → (b ≡ true) × (r ≡ Ok y)
  then_ok true d r y e = (refl, e)
  then_ok false d r y e = absurd cc

  abbrev done : {A : Type 0} → A → Result A E
  done x = Ok x

  pub ok_is : {A : Type 0} (x y : A) → done x ≡ done y → x ≡ y
  ok_is x y e = cc

  pub told_ok : {A : Type 0} (error : ℕ → E) (r : Result A ℕ) (x : A) → with_error error r ≡ Ok x → r ≡ Ok x
  told_ok error (Ok y) x e = cc
  told_ok error (Err at) x e = absurd cc

-- ---- bytes

-- each number is a byte
abbrev pub IsBytes : List ℕ → Type 0
IsBytes bytes = (i : ℕ) → get_or bytes i 0 < 256

pub IsBytes-drop : (n : ℕ) (bytes : List ℕ) → IsBytes bytes → IsBytes (drop n bytes)
IsBytes-drop n bytes h i = rw get_or-drop (h (n + i))

IsBytes-take : (n : ℕ) (bytes : List ℕ) → IsBytes bytes → IsBytes (take n bytes)
IsBytes-take n bytes h i =
    elim (cases_lt i n) [
      | inl lt ↦ rw (get_or-take n bytes i 0 lt) (h i)
      | inr le ↦ rw (get_or_past (take n bytes) i 0 (omega (arith, length-take n bytes))) (omega arith)
    ]

pub all_bytes : (bytes : List ℕ) → IsBytes bytes → All (λ b. b < 256) bytes
all_bytes bytes fits i d l = rw (get_or_default bytes i d 0 l) (fits i)

pub in_bytes : (bytes : List ℕ) → All (λ b. b < 256) bytes → IsBytes bytes
in_bytes bytes all i =
    elim (cases_lt i (length bytes)) [
      | inl lt ↦ all i 0 lt
      | inr le ↦ rw (get_or_past bytes i 0 le) (omega arith)
    ]

-- what is not read yet, at a place
abbrev pub spot : ℕ → List ℕ → Unread
spot at rest = record { at = at; rest = rest }

-- what a reader took from the front
pub record Takes (u : Unread) (text : List ℕ) (v : Unread) : Type 0 where
  pub parts : u.rest ≡ text ++ v.rest
  pub place : v.at ≡ u.at + length text
  pub rest_fits : IsBytes v.rest

pub Takes-then : (u : Unread) (x : List ℕ) (v : Unread) (y : List ℕ) (w : Unread) → Takes u x v → Takes v y w → Takes u (x ++ y) w
Takes-then u x v y w p q = record {
  parts = p.parts ∙ ap (λ (t : List ℕ). x ++ t) q.parts ∙ sym (append_assoc x y w.rest);
  place = omega (arith, p.place, q.place, length-append x y);
  rest_fits = q.rest_fits;
}

-- a reader reads a value from its text, whatever follows
abbrev pub Again : {E A : Type 0} → (Unread → Result (A × Unread) E) → List ℕ → A → Type 0
Again read text x = (at : ℕ) (rest : List ℕ) → read (spot at (text ++ rest)) ≡ Ok (x, spot (at + length text) rest)

-- two readers, one behind the other
pub Again-then : {E A B : Type 0} (read : Unread → Result (A × Unread) E) (next : A → Unread → Result (B × Unread) E) (t s : List ℕ) (x : A) (y : B)
    → Again read t x → Again (next x) s y → Again (λ u. read u >>= λ r. next r.0 r.1) (t ++ s) y
Again-then {E} read next t s x y p q at rest =
    let regrouped : read (spot at ((t ++ s) ++ rest)) ≡ Ok (x, spot (at + length t) (s ++ rest)) = ap (λ (bytes : List ℕ). read (spot at bytes)) (append_assoc t s rest) ∙ p at (s ++ rest) in
    let place : (at + length t) + length s ≡ at + length (t ++ s) = omega (arith, length-append t s) in
    ap (λ (r : Result (_ × Unread) E). r >>= λ r. next r.0 r.1) regrouped ∙ q (at + length t) rest ∙ ap (λ (n : ℕ). Ok (y, spot n rest)) place

pub told_again : {E A : Type 0} (error : ℕ → E) (read : Unread → Result (A × Unread) ℕ) (text : List ℕ) (x : A) → Again read text x → Again (λ u. with_error error (read u)) text x
told_again error read text x p at rest = ap (with_error error) (p at rest)

-- ---- a field of some bytes

pub bytes_again : (field : List ℕ) (n : ℕ) → length field ≡ n → Again (bytes_at n) field field
unfolding bytes_at
bytes_again field n len at rest =
    let long : ltb (length (field ++ rest)) n ≡ false = le-ltb _ _ (omega (arith, length-append field rest)) in
    rw (long, take_at field rest n len, drop_at field rest n len, len) refl

pub bytes_take : (n : ℕ) (u : Unread) (x : List ℕ × Unread) → IsBytes u.rest → bytes_at n u ≡ Ok x → Takes u x.0 x.1 × (length x.0 ≡ n) × IsBytes x.0
unfolding bytes_at
bytes_take n u x fits e =
    let g = else_ok (ltb (length u.rest) n) u.at (Ok (take n u.rest, behind n u)) x e in
    let long : n ≤ length u.rest = ltb-false _ _ g.0 in
    let len : length (take n u.rest) ≡ n = omega (arith, length-take n u.rest) in
    let taken : Takes u (take n u.rest) (behind n u) = record {
      parts = sym (take-append-drop n u.rest);
      place = ap (λ (k : ℕ). u.at + k) (sym len);
      rest_fits = IsBytes-drop n u.rest fits;
    } in
    subst (λ (y : List ℕ × Unread). Takes u y.0 y.1 × (length y.0 ≡ n) × IsBytes y.0) (ok_is (take n u.rest, behind n u) x g.1) (taken, len, IsBytes-take n u.rest fits)

-- ---- numbers

-- numbers of n bytes are written and read both ways
pub record IsWide (n : ℕ) (limit : ℕ) : Type 0 where
  pub len : (x : ℕ) → length (big_bytes n x) ≡ n
  pub back : (bytes : List ℕ) → length bytes ≡ n → IsBytes bytes → big_bytes n (big_number n bytes) ≡ bytes
  pub again : (x : ℕ) → x < limit → big_number n (big_bytes n x) ≡ x
  pub below : (bytes : List ℕ) → IsBytes bytes → big_number n bytes < limit

pub wide2 : IsWide 2 (2 ^ 16)
wide2 = record {
  len = λ x. refl;
  back = λ bytes len fits. be_bytes_2 bytes _ len fits (omega arith);
  again = λ x lt. big_number-reads_back 2 x [] lt;
  below = λ bytes fits. big_from-lt 0 2 bytes fits;
}

pub wide4 : IsWide 4 (2 ^ 32)
wide4 = record {
  len = λ x. refl;
  back = λ bytes len fits. be_bytes_4 bytes _ len fits (omega arith);
  again = λ x lt. big_number-reads_back 4 x [] lt;
  below = λ bytes fits. big_from-lt 0 4 bytes fits;
}

pub wide8 : IsWide 8 (2 ^ 64)
wide8 = record {
  len = λ x. refl;
  back = λ bytes len fits. be_bytes_8 bytes _ len fits (omega arith);
  again = λ x lt. big_number-reads_back 8 x [] lt;
  below = λ bytes fits. big_from-lt 0 8 bytes fits;
}

pub number_again : (n limit : ℕ) (wide : IsWide n limit) (x : ℕ) → x < limit → Again (number_at n) (big_bytes n x) x
unfolding number_at
number_again n limit wide x lt at rest = rw (bytes_again (big_bytes n x) n (wide.len x) at rest, wide.again x lt) refl

pub number_take : (n limit : ℕ) (wide : IsWide n limit) (u : Unread) (x : ℕ × Unread) → IsBytes u.rest → number_at n u ≡ Ok x → Takes u (big_bytes n x.0) x.1 × (x.0 < limit)
unfolding number_at
number_take n limit wide u x fits e =
    let b = bind_ok (bytes_at n u) (λ bytes. Ok (big_number n bytes.0, bytes.1)) x e in
    let t = bytes_take n u b.0 fits b.1 in
    let back : big_bytes n (big_number n b.0.0) ≡ b.0.0 = wide.back b.0.0 t.1 t.2 in
    subst (λ (y : ℕ × Unread). Takes u (big_bytes n y.0) y.1 × (y.0 < limit)) (ok_is (big_number n b.0.0, b.0.1) x b.2) (rw back t.0, wide.below b.0.0 t.2)

-- ---- some bytes behind their length

module _ {E : Type 0} (cut bad : ℕ → E) (n limit : ℕ) (wide : IsWide n limit) (is_bad : ℕ → Bool) where
  pub sized_again : (part : List ℕ) → length part < limit → is_bad (length part) ≡ false → Again (sized_at cut bad n is_bad) (sized_bytes n part) part
  sized_again part lt ok at rest =
      let len = big_bytes n (length part) in
      let regrouped : sized_at cut bad n is_bad (spot at ((len ++ part) ++ rest)) ≡ sized_at cut bad n is_bad (spot at (len ++ (part ++ rest))) = ap (λ (bytes : List ℕ). sized_at cut bad n is_bad (spot at bytes)) (append_assoc len part rest) in
      let place : (at + length len) + length part ≡ at + length (len ++ part) = omega (arith, length-append len part) in
      regrouped ∙ rw (number_again n limit wide (length part) lt at (part ++ rest), ok, bytes_again part (length part) refl (at + length len) rest) (ap (λ (k : ℕ). Ok (part, spot k rest)) place)

  pub sized_take : (u : Unread) (x : List ℕ × Unread) → IsBytes u.rest → sized_at cut bad n is_bad u ≡ Ok x
      → Takes u (sized_bytes n x.0) x.1 × (is_bad (length x.0) ≡ false) × (length x.0 < limit)
  sized_take u x fits e =
      let s = bind_ok (with_error cut (number_at n u)) (λ size. cond (is_bad size.0) (Err (bad u.at)) (with_error cut (bytes_at size.0 size.1))) x e in
      let t = number_take n limit wide u s.0 fits (told_ok cut (number_at n u) s.0 s.1) in
      let g = else_ok (is_bad s.0.0) (bad u.at) (with_error cut (bytes_at s.0.0 s.0.1)) x s.2 in
      let b = bytes_take s.0.0 s.0.1 x t.0.rest_fits (told_ok cut (bytes_at s.0.0 s.0.1) x g.1) in
      let both = Takes-then u (big_bytes n s.0.0) s.0.1 x.0 x.1 t.0 b.0 in
      subst (λ (k : ℕ). Takes u (big_bytes n k ++ x.0) x.1 × (is_bad k ≡ false) × (k < limit)) (sym b.1) (both, g.0, t.1)
