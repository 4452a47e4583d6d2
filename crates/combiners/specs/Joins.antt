-- The join that a `LongReducer` keeps. This is this project's own.
use Rattle.std.specs.Prelude.{ℕ, ℤ, Bool, true, List, [], Option, Some, None}
use Rattle.number_values.specs.declared.op.Op.{Op}
use Rattle.number_values.specs.declared.op.Encoding.{Encoding}
use Rattle.number_values.specs.Numbers.{is_number, text_of}

-- no join, or a number of the operation
abbrev pub is_join : Op → Option ℤ → Bool
is_join o None = true
is_join o (Some z) = is_number o z

-- the text of the join, if there is one
abbrev pub join_text : Encoding → Option ℤ → List ℕ
join_text e None = []
join_text e (Some z) = text_of e z
