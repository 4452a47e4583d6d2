-- Which logs begin with which.
use Rattle.std.proofs.Common.{◌≡◌, ℕ, ◌+◌, ◌≤◌, ℤ, Bool, true, false, not, ◌&&◌, ◌||◌, cond, List, [], ◌∷◌, ◌++◌, map, length, take, drop, Option, Some, None, is_some, unwrap_or, refl, sym, ap, ◌∙◌, arith, append-nil, append_assoc, length-append}
use Rattle.std.proofs.Math.Seq.{take-append_seam, take-length}
use Rattle.std.proofs.lemmas.List.{length-map, map-append, take-append-drop}
use Rattle.std.specs.List.{AllByRecursion}
use Rattle.tablet_model.specs.Cell.{Cell}
use Rattle.tablet_model.specs.History.{Change, RowChange, entries_of, entry_of, is_delete}
use Rattle.tablet_model.specs.Ingest.{ingest}
use Rattle.tablet_model.proofs.Sums.{all_weaker}
use Rattle.stage_laws.proofs.LetIn.{IsLetIn, found}
use Rattle.iter_config.specs.Columns.{is_timed, one_refuses, refuses_delete}
use Rattle.iter_config.specs.RulesOf.{rules_of}
use Rattle.iter_config.specs.Settings.{Settings}
use Rattle.iter_config.proofs.Checking.{mistimed, refused_delete}
use Rattle.tablet_view.specs.Extending.{BeginsWith}
use Rattle.tablet_view.specs.LogParts.{change_in, mutation_in}

pub begins_refl : (l : List RowChange) → BeginsWith l l
begins_refl l = record { rest = []; whole = sym (append-nil l) }

pub begins_trans : (l m n : List RowChange) → BeginsWith l m → BeginsWith m n → BeginsWith l n
begins_trans l m n a b = record { rest = b.rest ++ a.rest; whole = a.whole ∙ (ap (λ z. z ++ a.rest) b.whole ∙ append_assoc n b.rest a.rest) }

pub begins_length : (l m : List RowChange) → BeginsWith l m → length m ≤ length l
begins_length l m b = rw (b.whole, length-append m b.rest) (omega arith)

-- a log begins with another whose mutations stand first in it
pub begins_first : (ms ns : List RowChange) → take (length ns) ms ≡ take (length ns) ns → BeginsWith ms ns
begins_first ms ns h = record {
  rest = drop (length ns) ms;
  whole = sym (take-append-drop (length ns) ms) ∙ ap (λ l. l ++ drop (length ns) ms) (h ∙ take-length ns);
}

-- and only with such
pub first_begins : (ms ns : List RowChange) → BeginsWith ms ns → take (length ns) ms ≡ take (length ns) ns
first_begins ms ns b = ap (take (length ns)) b.whole ∙ take-append_seam ns b.rest ∙ sym (take-length ns)

-- how many mutations there are
pub log_length : (c : Settings) (entries : List (List Cell)) → length (map (mutation_in c) entries) ≡ length entries
log_length c entries = length-map entries (mutation_in c)

-- one mutation more
pub log_more : (c : Settings) (log : List (List Cell)) (entries : List Cell) (m : RowChange) → mutation_in c entries ≡ m
    → map (mutation_in c) (log ++ entries ∷ []) ≡ map (mutation_in c) log ++ m ∷ []
log_more c log entries m h = map-append (mutation_in c) log (entries ∷ []) ∙ ap (λ x. map (mutation_in c) log ++ x ∷ []) h

-- a change has a time of its own exactly where it is a put of a family whose puts do, if it passed the check of times
own_time : (c : Settings) (u : Change) (time : ℤ)
    → (is_some u.time && (is_delete u.value || not (is_timed c u.family)) || not (is_some u.time) && (is_some u.value && is_timed c u.family)) ≡ false
    → (is_delete u.value && refuses_delete c u.family u.qualifier) ≡ false → cond (is_timed c u.family) (Some (unwrap_or u.time time)) None ≡ u.time
own_time c u time h d = go (is_timed c u.family) u.time u.value h (deletes (is_delete u.value) (is_timed c u.family) (one_refuses c.iterators u.family u.qualifier) d)
  where
    deletes : (a b r : Bool) → (a && (b || r)) ≡ false → (a && b) ≡ false
    deletes a b r k = grind arith

    go : (b : Bool) (own : Option ℤ) (value : Option (List ℕ))
        → (is_some own && (is_delete value || not b) || not (is_some own) && (is_some value && b)) ≡ false → (is_delete value && b) ≡ false
        → cond b (Some (unwrap_or own time)) None ≡ own
    go true (Some t) value k l = refl
    go true None None k l = absurd (let never : true ≡ false = l in cc)
    go true None (Some value) k l = absurd (let never : true ≡ false = k in cc)
    go false None value k l = refl
    go false (Some t) None k l = absurd (let never : true ≡ false = k in cc)
    go false (Some t) (Some value) k l = absurd (let never : true ≡ false = k in cc)

-- the change of an entry
same_change : (c : Settings) (row : List ℕ) (time : ℤ) (u : Change) → cond (is_timed c u.family) (Some (unwrap_or u.time time)) None ≡ u.time → change_in c (entry_of row time u) ≡ u
same_change c row time u h = λ i. record { family = u.family; qualifier = u.qualifier; visibility = u.visibility; time = h i; value = value u.value i }
  where
    value : (v : Option (List ℕ)) → cond (is_delete v) None (Some (unwrap_or v [])) ≡ v
    value None = refl
    value (Some bytes) = refl

same_changes : (c : Settings) (row : List ℕ) (time : ℤ) (us : List Change) → AllByRecursion (λ u. cond (is_timed c u.family) (Some (unwrap_or u.time time)) None ≡ u.time) us
    → map (change_in c) (map (entry_of row time) us) ≡ us
same_changes c row time [] h = refl
same_changes c row time (u ∷ us) h = λ i. same_change c row time u h.0 i ∷ same_changes c row time us h.1 i

-- the entries of a mutation say it
said : (c : Settings) (time : ℤ) (m : RowChange) → 1 ≤ length m.changes → AllByRecursion (λ u. cond (is_timed c u.family) (Some (unwrap_or u.time time)) None ≡ u.time) m.changes
    → mutation_in c (entries_of time m) ≡ m
said c time m some own = go m.changes some own
  where
    go : (us : List Change) → 1 ≤ length us → AllByRecursion (λ u. cond (is_timed c u.family) (Some (unwrap_or u.time time)) None ≡ u.time) us
        → mutation_in c (map (entry_of m.row time) us) ≡ record { row = m.row; changes = us }
    go [] h own = absurd (omega (arith, h))
    go (u ∷ us) h own = ap (λ l. record { row = m.row; changes = l }) (same_changes c m.row time (u ∷ us) own)

-- a mutation that comes in has times of its own where its families say so
own_times : (c : Settings) (n : ℕ) (time : ℤ) (m : RowChange) → ingest (rules_of c) n m ≡ None → AllByRecursion (λ u. cond (is_timed c u.family) (Some (unwrap_or u.time time)) None ≡ u.time) m.changes
own_times c n time m free =
    all_weaker (IsLetIn (rules_of c) m (n + 1)) (λ u. cond (is_timed c u.family) (Some (unwrap_or u.time time)) None ≡ u.time)
    (λ u k. own_time c u time (sym (mistimed c (n + 1) m u) ∙ k.timed) (sym (refused_delete c (n + 1) m u) ∙ k.deletes)) m.changes (found (rules_of c) n m free).changes

-- the entries of a mutation that comes in say it
pub said_by_entries : (c : Settings) (n : ℕ) (time : ℤ) (m : RowChange) → 1 ≤ length m.changes → ingest (rules_of c) n m ≡ None → mutation_in c (entries_of time m) ≡ m
said_by_entries c n time m some free = said c time m some (own_times c n time m free)
