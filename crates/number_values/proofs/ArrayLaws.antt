-- Arrays are joined in any order, and read as they were written.
use Rattle.std.proofs.Common.{◌≡◌, ◌<◌, ◌≤◌, ◌&&◌, ℕ, ℤ, pos, Bool, true, false, List, [], ◌∷◌, length, map, zero, suc, refl, ap, ◌∙◌, arith}
use Rattle.std.specs.Prelude.{◌==◌, Option, Some, None, nat_lt, unwrap_or}
use Rattle.std.specs.List.{list_all}
use Rattle.std.proofs.lemmas.List.{length-map}
use Rattle.std.proofs.lemmas.List.Splits.{length-slice_split}
use Rattle.tablet_model.specs.Reductions.{IsLawful}
use Rattle.number_values.specs.declared.op.Encoding.{Encoding}
use Rattle.number_values.specs.declared.op.Encoding.TheVariants as encoding
use Rattle.number_values.specs.declared.op.Op.{Op}
use Rattle.number_values.specs.declared.op.Op.TheVariants as op
use Rattle.number_values.specs.Numbers.{is_number, is_some_number, number_in, text_of, stopped_sum, one_text, is_one_number}
use Rattle.number_values.specs.Arrays.{parts_of, is_element, element_of, are_elements, is_array, spells_array, array_in, array_sum, array_text, array_reduction}
use Rattle.number_values.specs.Values.{reduction_of}
use Rattle.number_values.proofs.Joining.{joined_is, sum_comm, sums_assoc, number_long, number_lawful}
use Rattle.number_values.proofs.ArrayParts.{eights_some}
use Rattle.number_values.proofs.ArrayLoops.{head_true, tail_true}
use Rattle.number_values.proofs.ArrayTexts.{text_parts, texts_are_elements, texts_are_read, number_text_short, array_text_short}

-- what is known of an array
record IsArray (v : List ℤ) : Type 0 where
  some : 0 < length v
  few : length v ≤ 256
  elements : are_elements v ≡ true

above_zero : (n : ℕ) → nat_lt 0 n ≡ true → 0 < n
above_zero n h = grind arith

at_most : (n : ℕ) → nat_lt n 257 ≡ true → n ≤ 256
at_most n h = grind arith

-- what a test of an array says
array_is : (v : List ℤ) → is_array v ≡ true → IsArray v
unfolding is_array
array_is v h =
    let others = tail_true (nat_lt 0 (length v)) (nat_lt (length v) 257 && are_elements v) h in
    record {
      some = above_zero (length v) (head_true (nat_lt 0 (length v)) (nat_lt (length v) 257 && are_elements v) h);
      few = at_most (length v) (head_true (nat_lt (length v) 257) (are_elements v) others);
      elements = tail_true (nat_lt (length v) 257) (are_elements v) others;
    }

both_true : (a b c : Bool) → a ≡ true → b ≡ true → c ≡ true → (a && (b && c)) ≡ true
both_true a b c h k l = grind arith

is_above_zero : (n : ℕ) → 0 < n → nat_lt 0 n ≡ true
is_above_zero n h = grind arith

is_at_most : (n : ℕ) → n ≤ 256 → nat_lt n 257 ≡ true
is_at_most n h = grind arith

-- what a test of an array asks for
array_from : (v : List ℤ) → IsArray v → is_array v ≡ true
unfolding is_array
array_from v h = both_true (nat_lt 0 (length v)) (nat_lt (length v) 257) (are_elements v) (is_above_zero (length v) h.some) (is_at_most (length v) h.few) h.elements

-- ---- reading

some_parts : (e : Encoding) (bytes : List ℕ) → 0 < length (parts_of e bytes)
some_parts encoding.Fixed bytes = eights_some bytes
some_parts encoding.String bytes = omega (arith, length-slice_split (λ b. b == 44) bytes)

read_number : (found : Option ℤ) → is_some_number op.ArraySum found ≡ true → is_number op.ArraySum (unwrap_or found (pos 0)) ≡ true
read_number None h = let no : false ≡ true = h in cc
read_number (Some z) h = h

read_elements : (e : Encoding) (parts : List (List ℕ)) → list_all (is_element e) parts ≡ true → are_elements (map (element_of e) parts) ≡ true
read_elements e [] h = refl
read_elements e (part ∷ parts) h =
    ap (λ b. b && are_elements (map (element_of e) parts)) (read_number (number_in e part) (head_true (is_element e part) (list_all (is_element e) parts) h))
    ∙ read_elements e parts (tail_true (is_element e part) (list_all (is_element e) parts) h)

-- what is read is an array
read_array : (e : Encoding) (bytes : List ℕ) → spells_array e bytes ≡ true → is_array (array_in e bytes) ≡ true
unfolding spells_array array_in
read_array e bytes h =
    let parts = parts_of e bytes in
    let same : length (map (element_of e) parts) ≡ length parts = length-map parts (element_of e) in
    let few : length parts ≤ 256 = at_most (length parts) (head_true (nat_lt (length parts) 257) (list_all (is_element e) parts) h) in
    let some : 0 < length parts = some_parts e bytes in
    array_from (map (element_of e) parts) (record {
      some = omega arith;
      few = omega arith;
      elements = read_elements e parts (tail_true (nat_lt (length parts) 257) (list_all (is_element e) parts) h);
    })

-- ---- joining

joined_elements : (v w : List ℤ) → are_elements v ≡ true → are_elements w ≡ true → are_elements (array_sum v w) ≡ true
unfolding array_sum
joined_elements [] w h k = k
joined_elements (a ∷ v) [] h k = h
joined_elements (a ∷ v) (b ∷ w) h k =
    ap (λ x. x && are_elements (array_sum v w)) (joined_is op.ArraySum a b (head_true (is_number op.ArraySum a) (are_elements v) h) (head_true (is_number op.ArraySum b) (are_elements w) k))
    ∙ joined_elements v w (tail_true (is_number op.ArraySum a) (are_elements v) h) (tail_true (is_number op.ArraySum b) (are_elements w) k)

joined_some : (v w : List ℤ) → 0 < length v → 0 < length (array_sum v w)
unfolding array_sum
joined_some [] w l = absurd (omega arith)
joined_some (a ∷ v) [] l = l
joined_some (a ∷ v) (b ∷ w) l = omega arith

joined_few : (v w : List ℤ) (n : ℕ) → length v ≤ n → length w ≤ n → length (array_sum v w) ≤ n
unfolding array_sum
joined_few [] w n l m = m
joined_few (a ∷ v) [] n l m = l
joined_few (a ∷ v) (b ∷ w) zero l m = absurd (omega arith)
joined_few (a ∷ v) (b ∷ w) (suc n) l m = omega (arith, joined_few v w n (omega arith) (omega arith))

-- sums of arrays are an array
joined_array : (v w : List ℤ) → is_array v ≡ true → is_array w ≡ true → is_array (array_sum v w) ≡ true
joined_array v w h k =
    let a = array_is v h in
    let b = array_is w k in
    array_from (array_sum v w) (record {
      some = joined_some v w a.some;
      few = joined_few v w 256 a.few b.few;
      elements = joined_elements v w a.elements b.elements;
    })

-- arrays are joined in any order
joined_comm : (v w : List ℤ) → array_sum v w ≡ array_sum w v
unfolding array_sum
joined_comm [] [] = refl
joined_comm [] (b ∷ w) = refl
joined_comm (a ∷ v) [] = refl
joined_comm (a ∷ v) (b ∷ w) = ap (λ x. x ∷ array_sum v w) (sum_comm a b) ∙ ap (λ u. stopped_sum b a ∷ u) (joined_comm v w)

joined_assoc : (u v w : List ℤ) → are_elements u ≡ true → are_elements v ≡ true → are_elements w ≡ true → array_sum (array_sum u v) w ≡ array_sum u (array_sum v w)
unfolding array_sum
joined_assoc [] v w h k l = refl
joined_assoc (a ∷ u) [] w h k l = refl
joined_assoc (a ∷ u) (b ∷ v) [] h k l = refl
joined_assoc (a ∷ u) (b ∷ v) (c ∷ w) h k l =
    ap (λ x. x ∷ array_sum (array_sum u v) w) (sums_assoc a b c (head_true (is_number op.Sum a) (are_elements u) h) (head_true (is_number op.Sum b) (are_elements v) k) (head_true (is_number op.Sum c) (are_elements w) l))
    ∙ ap (λ y. stopped_sum a (stopped_sum b c) ∷ y) (joined_assoc u v w (tail_true (is_number op.Sum a) (are_elements u) h) (tail_true (is_number op.Sum b) (are_elements v) k) (tail_true (is_number op.Sum c) (are_elements w) l))

-- ---- texts

-- an array is read as it was written
text_read : (e : Encoding) (v : List ℤ) → IsArray v → spells_array e (array_text e v) ≡ true
unfolding spells_array
text_read e [] h = absurd (omega (arith, h.some))
text_read e (a ∷ v) h =
    let parts : parts_of e (array_text e (a ∷ v)) ≡ map (text_of e) (a ∷ v) = text_parts e a v h.elements in
    let few : length (map (text_of e) (a ∷ v)) ≤ 256 = omega (arith, h.few, length-map (a ∷ v) (text_of e)) in
    ap (λ ps. nat_lt (length ps) 257 && list_all (is_element e) ps) parts
    ∙ ap (λ b. b && list_all (is_element e) (map (text_of e) (a ∷ v))) (is_at_most (length (map (text_of e) (a ∷ v))) few)
    ∙ texts_are_elements e (a ∷ v) h.elements

text_value : (e : Encoding) (v : List ℤ) → IsArray v → array_in e (array_text e v) ≡ v
unfolding array_in
text_value e [] h = absurd (omega (arith, h.some))
text_value e (a ∷ v) h = ap (map (element_of e)) (text_parts e a v h.elements) ∙ texts_are_read e (a ∷ v) h.elements

-- the reduction of arrays is lawful
pub array_lawful : (e : Encoding) → IsLawful (array_reduction e)
array_lawful e = record {
  value_of = read_array e;
  joined = joined_array;
  assoc = λ u v w h k l. joined_assoc u v w (array_is u h).elements (array_is v k).elements (array_is w l).elements;
  comm = λ v w h k. joined_comm v w;
  text_read = λ v h. text_read e v (array_is v h);
  text_value = λ v h. text_value e v (array_is v h);
}

-- ---- every operation

-- the reduction of each operation is lawful
pub values_lawful : (o : Op) (e : Encoding) → IsLawful (reduction_of o e)
unfolding reduction_of
values_lawful op.Sum e = number_lawful op.Sum e
values_lawful op.Min e = number_lawful op.Min e
values_lawful op.Max e = number_lawful op.Max e
values_lawful op.ArraySum e = array_lawful e

-- the text of a value of one number is short
one_short : (o : Op) (e : Encoding) (v : List ℤ) → is_one_number o v ≡ true → length (one_text e v) ≤ 65536
one_short o e [] h = omega arith
one_short o e (z ∷ []) h = omega (arith, number_text_short e z (number_long o z h))
one_short o e (z ∷ y ∷ v) h = let no : false ≡ true = h in cc

-- the text of each value fits an entry
pub values_short : (o : Op) (e : Encoding) (v : List ℤ) → (reduction_of o e).is_value v ≡ true → length ((reduction_of o e).text v) ≤ 65536
unfolding reduction_of
values_short op.Sum e v h = one_short op.Sum e v h
values_short op.Min e v h = one_short op.Min e v h
values_short op.Max e v h = one_short op.Max e v h
values_short op.ArraySum e v h = omega (arith, (array_is v h).few, array_text_short e v (array_is v h).elements)
