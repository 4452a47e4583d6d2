-- What the loops over an array's parts keep.
use Rattle.std.proofs.Common.{◌≡◌, ◌<◌, ◌≤◌, ◌+◌, ◌&&◌, ℕ, ℤ, Bool, true, false, List, [], ◌∷◌, ◌++◌, Option, Some, None, length, take, drop, take-append-drop, set, get_or, zero, suc, map, refl, sym, ap, ◌∙◌, add-one, arith}
use Rattle.std.specs.Prelude.{nat_lt, unwrap_or, pos}
use Rattle.std.specs.List.{list_all, concat, join_with_byte}
use Rattle.std.specs.Int.{w64, cast_signed, cast_unsigned}
use Rattle.std.proofs.lemmas.Int.{to_z-of_z}
use Rattle.std.proofs.lemmas.List.{append-nil, append_assoc, map_push, take_all, drop_all, take_more}
use Rattle.number_values.specs.declared.op.Encoding.{Encoding}
use Rattle.number_values.specs.declared.op.Encoding.TheVariants as encoding
use Rattle.number_values.specs.declared.op.Op.TheVariants as op
use Rattle.number_values.specs.Numbers.{number_in, text_of, stopped_sum, is_number, is_some_number}
use Rattle.number_values.specs.Arrays.{parts_of, is_element, element_of, are_elements, spells_array, array_in, array_sum, array_text, separator}
use Rattle.number_values.proofs.Decimals.{long_fits}
use Rattle.number_values.proofs.Joining.{number_long}

-- the length of what is left, and one more while something is
abbrev pub length_left : Option (List ℕ) → ℕ
length_left None = 0
length_left (Some bytes) = length bytes + 1

-- ---- reading

-- whether so many numbers and these parts spell an array
pub still_array : Encoding → ℕ → List (List ℕ) → Bool
still_array e count parts = nat_lt (count + length parts) 257 && list_all (is_element e) parts

-- before the first part
pub still_first : (e : Encoding) (bytes : List ℕ) → still_array e 0 (parts_of e bytes) ≡ spells_array e bytes
unfolding still_array spells_array
still_first e bytes = ap (λ n. nat_lt n 257 && list_all (is_element e) (parts_of e bytes)) (omega arith)

-- behind the last part
pub still_last : (e : Encoding) (count : ℕ) → count ≤ 256 → still_array e count [] ≡ true
unfolding still_array
still_last e count l = let below : nat_lt (count + 0) 257 ≡ true = grind arith in ap (λ b. b && true) below

-- no number may follow 256
pub still_full : (e : Encoding) (count : ℕ) (part : List ℕ) (parts : List (List ℕ)) → count ≡ 256 → still_array e count (part ∷ parts) ≡ false
unfolding still_array
still_full e count part parts l =
    let above : nat_lt (count + length (part ∷ parts)) 257 ≡ false = grind arith in
    ap (λ b. b && list_all (is_element e) (part ∷ parts)) above

-- a part that spells no number from 0 up
pub still_not : (e : Encoding) (count : ℕ) (part : List ℕ) (parts : List (List ℕ)) → is_element e part ≡ false → still_array e count (part ∷ parts) ≡ false
unfolding still_array
still_not e count part parts h = ap (λ b. nat_lt (count + length (part ∷ parts)) 257 && (b && list_all (is_element e) parts)) h ∙ no (nat_lt (count + length (part ∷ parts)) 257)
  where
    no : (b : Bool) → (b && false) ≡ false
    no true = refl
    no false = refl

-- one part after the other
pub still_more : (e : Encoding) (count : ℕ) (part : List ℕ) (parts : List (List ℕ)) → is_element e part ≡ true → still_array e count (part ∷ parts) ≡ still_array e (count + 1) parts
unfolding still_array
still_more e count part parts h =
    ap (λ b. nat_lt (count + length (part ∷ parts)) 257 && (b && list_all (is_element e) parts)) h
    ∙ ap (λ n. nat_lt n 257 && list_all (is_element e) parts) (omega arith)

-- ---- adding

-- the numbers that parts spell
pub elements_of : Encoding → List (List ℕ) → List ℤ
elements_of e parts = map (element_of e) parts

-- before the first part
pub elements_first : (e : Encoding) (bytes : List ℕ) → elements_of e (parts_of e bytes) ≡ array_in e bytes
unfolding elements_of array_in
elements_first e bytes = refl

-- behind the last part
pub elements_last : (e : Encoding) → elements_of e [] ≡ []
unfolding elements_of
elements_last e = refl

-- one part after the other
pub elements_more : (e : Encoding) (part : List ℕ) (parts : List (List ℕ)) → elements_of e (part ∷ parts) ≡ element_of e part ∷ elements_of e parts
unfolding elements_of
elements_more e part parts = refl

-- the sums up to a place, and the sums from there on with further numbers
pub summed_from : ℕ → List ℤ → List ℤ → List ℤ
summed_from at v w = take at v ++ array_sum (drop at v) w

-- from the first place on the sums are those of the arrays
pub summed_first : (v w : List ℤ) → summed_from 0 v w ≡ array_sum v w
unfolding summed_from
summed_first v w = refl

-- an empty array adds nothing
sum_none : (v : List ℤ) → array_sum v [] ≡ v
unfolding array_sum
sum_none [] = refl
sum_none (a ∷ v) = refl

none_sum : (v : List ℤ) → array_sum [] v ≡ v
unfolding array_sum
none_sum v = refl

-- without further numbers the sums stay
pub summed_last : (at : ℕ) (v : List ℤ) → summed_from at v [] ≡ v
unfolding summed_from
summed_last at v = ap (λ w. take at v ++ w) (sum_none (drop at v)) ∙ take-append-drop at v

summed_suc : (at : ℕ) (v : List ℤ) (n : ℤ) (w : List ℤ) → at ≤ length v → summed_from at v (n ∷ w) ≡ summed_from (suc at) (summed_from at v (n ∷ [])) w
unfolding summed_from array_sum
summed_suc zero [] n w l = refl
summed_suc zero (a ∷ v) n w l = ap (λ u. stopped_sum a n ∷ array_sum u w) (sym (sum_none v))
summed_suc (suc at) [] n w l = absurd (omega arith)
summed_suc (suc at) (a ∷ v) n w l = ap (λ u. a ∷ u) (summed_suc at v n w (omega arith))

-- one number after the other
pub summed_more : (at : ℕ) (v : List ℤ) (n : ℤ) (w : List ℤ) → at ≤ length v → summed_from at v (n ∷ w) ≡ summed_from (at + 1) (take at v ++ array_sum (drop at v) (n ∷ [])) w
unfolding summed_from
summed_more at v n w l = rw add-one (summed_suc at v n w l)

length_suc : (at : ℕ) (v : List ℤ) (n : ℤ) → at ≤ length v → suc at ≤ length (take at v ++ array_sum (drop at v) (n ∷ []))
unfolding array_sum
length_suc zero [] n l = omega arith
length_suc zero (a ∷ v) n l = omega arith
length_suc (suc at) [] n l = absurd (omega arith)
length_suc (suc at) (a ∷ v) n l = omega (arith, length_suc at v n (omega arith))

-- the sums reach one place further
pub length_more : (at : ℕ) (v : List ℤ) (n : ℤ) → at ≤ length v → at + 1 ≤ length (take at v ++ array_sum (drop at v) (n ∷ []))
length_more at v n l = omega (arith, length_suc at v n l)

-- ---- elements

-- both sides of a conjunction hold
pub head_true : (a b : Bool) → (a && b) ≡ true → a ≡ true
head_true true b h = refl
head_true false b h = h

pub tail_true : (a b : Bool) → (a && b) ≡ true → b ≡ true
tail_true true b h = h
tail_true false b h = let no : false ≡ true = h in cc

-- what spells an array has elements as its parts
pub all_elements : (e : Encoding) (bytes : List ℕ) → spells_array e bytes ≡ true → list_all (is_element e) (parts_of e bytes) ≡ true
unfolding spells_array
all_elements e bytes h = tail_true (nat_lt (length (parts_of e bytes)) 257) (list_all (is_element e) (parts_of e bytes)) h

-- its first part, and the others
pub head_element : (e : Encoding) (part : List ℕ) (parts : List (List ℕ)) → list_all (is_element e) (part ∷ parts) ≡ true → is_element e part ≡ true
head_element e part parts h = head_true (is_element e part) (list_all (is_element e) parts) h

pub tail_elements : (e : Encoding) (part : List ℕ) (parts : List (List ℕ)) → list_all (is_element e) (part ∷ parts) ≡ true → list_all (is_element e) parts ≡ true
tail_elements e part parts h = tail_true (is_element e part) (list_all (is_element e) parts) h

-- what spells an array has at most 256 parts
pub short_parts : (e : Encoding) (bytes : List ℕ) → spells_array e bytes ≡ true → length (parts_of e bytes) ≤ 256
unfolding spells_array
short_parts e bytes h = within (length (parts_of e bytes)) (head_true (nat_lt (length (parts_of e bytes)) 257) (list_all (is_element e) (parts_of e bytes)) h)
  where
    within : (n : ℕ) → nat_lt n 257 ≡ true → n ≤ 256
    within n h = grind arith

-- a number from 0 up fits 64 bits
pub element_fits : (n : ℤ) → is_number op.ArraySum n ≡ true → cast_signed w64 (cast_unsigned w64 n) ≡ n
element_fits n h = to_z-of_z w64 n (long_fits n (number_long op.ArraySum n h))

-- the element of a part is the number that was read
pub element_read : (e : Encoding) (part : List ℕ) (n : ℤ) → is_element e part ≡ true → number_in e part ≡ Some n → element_of e part ≡ cast_signed w64 (cast_unsigned w64 n)
element_read e part n h k = ap (λ found. unwrap_or found (pos 0)) k ∙ sym (element_fits n (ap (is_some_number op.ArraySum) (sym k) ∙ h))

-- ---- one element

-- each of the numbers is from 0 up
pub elements_at : (v : List ℤ) (at : ℕ) (d : ℤ) → are_elements v ≡ true → at < length v → is_number op.ArraySum (get_or v at d) ≡ true
elements_at [] at d h l = absurd (omega arith)
elements_at (a ∷ v) zero d h l = head_true (is_number op.ArraySum a) (are_elements v) h
elements_at (a ∷ v) (suc at) d h l = elements_at v at d (tail_true (is_number op.ArraySum a) (are_elements v) h) (omega arith)

-- another number from 0 up may take a place
pub elements_set : (v : List ℤ) (at : ℕ) (x : ℤ) → are_elements v ≡ true → is_number op.ArraySum x ≡ true → are_elements (set v at x) ≡ true
elements_set [] at x h k = refl
elements_set (a ∷ v) zero x h k = ap (λ b. b && are_elements v) k ∙ tail_true (is_number op.ArraySum a) (are_elements v) h
elements_set (a ∷ v) (suc at) x h k =
    ap (λ b. b && are_elements (set v at x)) (head_true (is_number op.ArraySum a) (are_elements v) h)
    ∙ elements_set v at x (tail_true (is_number op.ArraySum a) (are_elements v) h) k

-- a further number at the end
pub sum_at_end : (at : ℕ) (v : List ℤ) (n : ℤ) → at ≡ length v → v ++ n ∷ [] ≡ take at v ++ array_sum (drop at v) (n ∷ [])
sum_at_end at v n l = sym (ap (λ u. u ++ array_sum (drop at v) (n ∷ [])) (take_all at v (omega arith)) ∙ ap (λ u. v ++ array_sum u (n ∷ [])) (drop_all at v (omega arith)) ∙ ap (λ u. v ++ u) (none_sum (n ∷ [])))

-- a number added to an element
pub sum_at : (at : ℕ) (v : List ℤ) (n d : ℤ) → at < length v → set v at (stopped_sum (get_or v at d) n) ≡ take at v ++ array_sum (drop at v) (n ∷ [])
unfolding array_sum
sum_at zero (a ∷ v) n d l = ap (λ u. stopped_sum a n ∷ u) (sym (sum_none v))
sum_at zero [] n d l = absurd (omega arith)
sum_at (suc at) [] n d l = absurd (omega arith)
sum_at (suc at) (a ∷ v) n d l = ap (λ u. a ∷ u) (sum_at at v n d (omega arith))

-- ---- writing

-- the text of no numbers, and of one
pub text_none : (e : Encoding) → array_text e [] ≡ []
unfolding array_text
text_none encoding.Fixed = refl
text_none encoding.String = refl

text_one : (e : Encoding) (z : ℤ) → array_text e (z ∷ []) ≡ text_of e z
unfolding array_text
text_one encoding.Fixed z = append-nil (text_of encoding.Fixed z)
text_one encoding.String z = refl

-- one part more at the end
concat_push : (parts : List (List ℕ)) (part : List ℕ) → concat (parts ++ part ∷ []) ≡ concat parts ++ part
concat_push [] part = append-nil part
concat_push (x ∷ parts) part = ap (λ u. x ++ u) (concat_push parts part) ∙ sym (append_assoc x (concat parts) part)

join_push : (c : ℕ) (x : List ℕ) (parts : List (List ℕ)) (part : List ℕ) → join_with_byte c (x ∷ parts ++ part ∷ []) ≡ (join_with_byte c (x ∷ parts) ++ c ∷ []) ++ part
join_push c x [] part = sym (append_assoc x (c ∷ []) part)
join_push c x (y ∷ parts) part =
    ap (λ u. x ++ (c ∷ u)) (join_push c y parts part)
    ∙ sym (append_assoc (x ++ (c ∷ join_with_byte c (y ∷ parts))) (c ∷ []) part ∙ append_assoc x (c ∷ join_with_byte c (y ∷ parts)) ((c ∷ []) ++ part) ∙ ap (λ u. x ++ (c ∷ u)) (sym (append_assoc (join_with_byte c (y ∷ parts)) (c ∷ []) part)))

-- the text of one number more
text_push : (e : Encoding) (a : ℤ) (v : List ℤ) (z : ℤ) → array_text e (a ∷ v ++ z ∷ []) ≡ (array_text e (a ∷ v) ++ separator e) ++ text_of e z
unfolding array_text
text_push encoding.Fixed a v z =
    ap concat (map_push (text_of encoding.Fixed) (a ∷ v) z)
    ∙ concat_push (map (text_of encoding.Fixed) (a ∷ v)) (text_of encoding.Fixed z)
    ∙ ap (λ u. u ++ text_of encoding.Fixed z) (sym (append-nil (concat (map (text_of encoding.Fixed) (a ∷ v)))))
text_push encoding.String a v z =
    ap (join_with_byte 44) (map_push (text_of encoding.String) (a ∷ v) z)
    ∙ join_push 44 (text_of encoding.String a) (map (text_of encoding.String) v) (text_of encoding.String z)

-- the first number of the text
pub text_first : (e : Encoding) (v : List ℤ) (at : ℕ) → at < length v → at ≡ 0 → array_text e (take (at + 1) v) ≡ array_text e (take at v) ++ text_of e (get_or v at (pos 0))
text_first e [] at l h = absurd (omega arith)
text_first e (a ∷ v) zero l h = text_one e a ∙ sym (ap (λ u. u ++ text_of e a) (text_none e))
text_first e (a ∷ v) (suc at) l h = absurd (omega arith)

-- a further number of the text
pub text_more : (e : Encoding) (v : List ℤ) (at : ℕ) → at < length v → 0 < at → array_text e (take (at + 1) v) ≡ (array_text e (take at v) ++ separator e) ++ text_of e (get_or v at (pos 0))
text_more e [] at l h = absurd (omega arith)
text_more e (a ∷ v) zero l h = absurd (omega arith)
text_more e (a ∷ v) (suc at) l h =
    ap (array_text e) (take_more (a ∷ v) (suc at) (pos 0) l) ∙ text_push e a (take at v) (get_or v at (pos 0))
