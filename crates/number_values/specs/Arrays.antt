-- Arrays of numbers as values: how they are spelled, and how they are added. The operation is Accumulo's array sum of a
-- combiner; the bounds and the spellings are this project's rules.
use Rattle.std.specs.Prelude.{ℕ, ℤ, pos, Bool, ◌&&◌, ◌==◌, List, [], ◌∷◌, Option, Some, None, length, map, nat_lt, unwrap_or}
use Rattle.std.specs.List.{list_all, slice_split, concat, join_with_byte}
use Rattle.tablet_model.specs.Reductions.{Reduction}
use Rattle.number_values.specs.declared.op.Encoding.{Encoding}
use Rattle.number_values.specs.declared.op.Encoding.TheVariants as encoding
use Rattle.number_values.specs.declared.op.Op.TheVariants as op
use Rattle.number_values.specs.Numbers.{number_in, text_of, is_number, is_some_number, stopped_sum}

-- pieces of 8 bytes, of which the last may be shorter
unfoldable pub eights : List ℕ → List (List ℕ)
eights (a ∷ b ∷ c ∷ d ∷ e ∷ f ∷ g ∷ h ∷ i ∷ bytes) = (a ∷ b ∷ c ∷ d ∷ e ∷ f ∷ g ∷ h ∷ []) ∷ eights (i ∷ bytes)
eights bytes = bytes ∷ []

-- the parts of an array's bytes, one for each number: in decimal they stand between commas
abbrev pub parts_of : Encoding → List ℕ → List (List ℕ)
parts_of encoding.Fixed bytes = eights bytes
parts_of encoding.String bytes = slice_split (λ b. b == 44) bytes

-- the parts of the bytes that are left, if any are
abbrev pub parts_left : Encoding → Option (List ℕ) → List (List ℕ)
parts_left e None = []
parts_left e (Some bytes) = parts_of e bytes

-- whether a part spells a number from 0 up
abbrev pub is_element : Encoding → List ℕ → Bool
is_element e part = is_some_number op.ArraySum (number_in e part)

-- the number that a part spells
abbrev pub element_of : Encoding → List ℕ → ℤ
element_of e part = unwrap_or (number_in e part) (pos 0)

-- whether bytes spell 1 to 256 numbers from 0 up
unfoldable pub spells_array : Encoding → List ℕ → Bool
spells_array e bytes = nat_lt (length (parts_of e bytes)) 257 && list_all (is_element e) (parts_of e bytes)

-- the numbers that bytes spell, with 0 for a part that spells none
unfoldable pub array_in : Encoding → List ℕ → List ℤ
array_in e bytes = map (element_of e) (parts_of e bytes)

-- numbers from 0 up
abbrev pub are_elements : List ℤ → Bool
are_elements v = list_all (is_number op.ArraySum) v

-- 1 to 256 numbers from 0 up
unfoldable pub is_array : List ℤ → Bool
is_array v = nat_lt 0 (length v) && (nat_lt (length v) 257 && are_elements v)

-- the sums element by element; the shorter array goes on with zeros
unfoldable pub array_sum : List ℤ → List ℤ → List ℤ
array_sum [] w = w
array_sum (a ∷ v) [] = a ∷ v
array_sum (a ∷ v) (b ∷ w) = stopped_sum a b ∷ array_sum v w

-- what stands between two numbers
abbrev pub separator : Encoding → List ℕ
separator encoding.Fixed = []
separator encoding.String = 44 ∷ []

-- how an array is written: 8 bytes each, or decimal numbers between commas
unfoldable pub array_text : Encoding → List ℤ → List ℕ
array_text encoding.Fixed v = concat (map (text_of encoding.Fixed) v)
array_text encoding.String v = join_with_byte 44 (map (text_of encoding.String) v)

-- the reduction of arrays
abbrev pub array_reduction : Encoding → Reduction
array_reduction e = record {
  reads = spells_array e;
  is_value = is_array;
  value = array_in e;
  join = array_sum;
  text = array_text e;
}
