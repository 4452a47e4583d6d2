-- Which mutations come in: the checks, each over the whole mutation before the next. Limits, checks and their order are this project's own.
use Rattle.std.specs.Prelude.{◌≡◌, ℕ, ◌+◌, pos, Bool, true, cond, not, ◌&&◌, ◌||◌, List, [], ◌∷◌, ◌++◌, bytes_eq, length, nat_lt, Option, Some, None, is_some, unwrap_or, option_map, ⊤}
use Rattle.std.specs.Option.{option_or}
use Rattle.std.specs.List.{list_any}
use Rattle.tablet_model.specs.Limits.{max_changes, max_mutations, max_part, max_value}
use Rattle.tablet_model.specs.Cell.{Cell}
use Rattle.tablet_model.specs.Stages.{Stage, by_column, by_cell, newest, combine, rows, intersect}
use Rattle.tablet_model.specs.History.{Change, RowChange, is_delete, entry_of}
use Rattle.tablet_model.specs.Rules.{Rules}

-- a part of a mutation that has a limit
pub data Part : Type 0 where
  row_part : Part
  updates_part : Part
  family_part : Part
  qualifier_part : Part
  visibility_part : Part
  value_part : Part

-- why a mutation stays out; a number is that of the first change that breaks the check, counted from 1, or 0 for the whole mutation
pub data Refusal : Type 0 where
  bound : ℕ → Part → Refusal
  duplicate : ℕ → Refusal
  delete_here : ℕ → Refusal
  time_here : ℕ → Refusal
  bad_value : ℕ → Refusal
  full_log : Refusal

-- the first part of a change that is too long: 1,024 bytes for family, qualifier and visibility, 65,536 for a value
unfoldable pub too_long : Change → Option Part
too_long u = cond (nat_lt max_part (length u.family)) (Some family_part)
    (cond (nat_lt max_part (length u.qualifier)) (Some qualifier_part)
    (cond (nat_lt max_part (length u.visibility)) (Some visibility_part)
    (cond (nat_lt max_value (length (unwrap_or u.value []))) (Some value_part) None)))

-- the first change with a part that is too long, where the first of the list has this number
unfoldable pub first_too_long : ℕ → List Change → Option Refusal
first_too_long at [] = None
first_too_long at (u ∷ us) = option_or (option_map (bound at) (too_long u)) (first_too_long (at + 1) us)

-- the first check: a row of 1 to 1,024 bytes, 1 to 100 changes, and no part too long
unfoldable pub out_of_bounds : RowChange → Option Refusal
out_of_bounds m = cond (nat_lt (length m.row) 1 || nat_lt max_part (length m.row)) (Some (bound 0 row_part))
    (cond (nat_lt (length m.changes) 1 || nat_lt max_changes (length m.changes)) (Some (bound 0 updates_part))
    (first_too_long 1 m.changes))

-- the number of the first change of which a test holds
unfoldable pub first_where : (Change → Bool) → ℕ → List Change → Option ℕ
first_where p at [] = None
first_where p at (u ∷ us) = cond (p u) (Some at) (first_where p (at + 1) us)

-- two changes are of one column, and both deletes or both puts
unfoldable pub is_twin : Change → Change → Bool
is_twin u v = bytes_eq u.family v.family && bytes_eq u.qualifier v.qualifier && bytes_eq u.visibility v.visibility && cond (is_delete u.value) (is_delete v.value) (is_some v.value)

-- the second check: the number of the first change that has a twin before it
unfoldable pub first_twice : List Change → ℕ → List Change → Option ℕ
first_twice before at [] = None
first_twice before at (u ∷ us) = cond (list_any (is_twin u) before) (Some at) (first_twice (before ++ u ∷ []) (at + 1) us)

-- the third check: a delete in a column that takes none, in the k-th mutation
unfoldable pub is_refused_delete : Rules → ℕ → RowChange → Change → Bool
is_refused_delete c k m u = is_delete u.value && not (c.may_delete (entry_of m.row (pos k) u))

-- the fourth check: a time at a delete or in a plain column, or a put without one in another
unfoldable pub is_mistimed : Rules → ℕ → RowChange → Change → Bool
is_mistimed c k m u = is_some u.time && (is_delete u.value || c.plain (entry_of m.row (pos k) u)) || not (is_some u.time) && (is_some u.value && not (c.plain (entry_of m.row (pos k) u)))

-- whether the combiners of its column read the value of e
unfoldable pub is_read : List Stage → Cell → Bool
is_read [] e = true
is_read (by_column p ∷ ss) e = is_read ss e
is_read (by_cell p ∷ ss) e = is_read ss e
is_read (newest n ∷ ss) e = is_read ss e
is_read (combine listed r full ∷ ss) e = (not (listed e) || r.reads e.value) && is_read ss e
is_read (rows ∷ ss) e = is_read ss e
is_read (intersect terms without ∷ ss) e = is_read ss e

-- the fifth check: a put with a value that a combiner does not read
unfoldable pub is_unread : Rules → ℕ → RowChange → Change → Bool
is_unread c k m u = is_some u.value && not (is_read c.base (entry_of m.row (pos k) u) && is_read c.scan_combiners (entry_of m.row (pos k) u))

-- why a mutation stays out behind n others; the last check is that a log has at most 524,288
unfoldable pub ingest : Rules → ℕ → RowChange → Option Refusal
ingest c n m = option_or (out_of_bounds m)
    (option_or (option_map duplicate (first_twice [] 1 m.changes))
    (option_or (option_map delete_here (first_where (is_refused_delete c (n + 1) m) 1 m.changes))
    (option_or (option_map time_here (first_where (is_mistimed c (n + 1) m) 1 m.changes))
    (option_or (option_map bad_value (first_where (is_unread c (n + 1) m) 1 m.changes))
    (cond (nat_lt n max_mutations) None (Some full_log))))))

-- each mutation comes in behind those before it, of which there are n at first
abbrev pub AreLetIn : Rules → ℕ → List RowChange → Type 0
AreLetIn c n [] = ⊤
AreLetIn c n (m ∷ ms) = (ingest c n m ≡ None) × AreLetIn c (n + 1) ms

-- a history of a configuration: each mutation came in behind those before it
abbrev pub IsHistory : Rules → List RowChange → Type 0
IsHistory c h = AreLetIn c 0 h
