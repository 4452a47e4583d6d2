-- The entries of mutations that are let in.
use Rattle.std.proofs.Common.{◌≡◌, ◌||◌, ◌&&◌, not, ℕ, ◌+◌, ◌≤◌, ℤ, pos, ◌≤ℤ◌, ◌<ℤ◌, Bool, true, false, List, [], ◌∷◌, ◌++◌, map, length, Option, Some, None, is_some, unwrap_or, option_map, refl, subst, arith}
use Rattle.std.proofs.lemmas.Int.{ints}
use Rattle.std.specs.List.{AllByRecursion}
use Rattle.tablet_model.specs.Cell.{Cell}
use Rattle.tablet_model.specs.History.{Change, RowChange, entries_of, entry_of, is_delete, entries_from}
use Rattle.tablet_model.specs.Ingest.{AreLetIn, bad_value, delete_here, duplicate, first_twice, first_where, ingest, is_mistimed, is_read, is_refused_delete, is_unread, out_of_bounds, time_here}
use Rattle.tablet_model.specs.Reading.{IsReadBy}
use Rattle.tablet_model.specs.Rules.{AreStorable, IsStorable, Rules}
use Rattle.tablet_model.specs.Stages.{Stage, by_cell, by_column, combine, intersect, newest, rows}
use Rattle.tablet_model.specs.Stands.{AreWithin}
use Rattle.tablet_model.proofs.Ingests.{IsInside, IsShortEnough, bounds_one, inside, none_first, none_map, none_second, nowhere}
use Rattle.tablet_model.proofs.Merges.{all_append}
use Rattle.stage_laws.proofs.StoreTimes.{IsWithin, within_weaker}
use Rattle.stage_laws.proofs.Whole.{full}

reads_all : (ss : List Stage) (e : Cell) → is_read ss e ≡ true → AllByRecursion (IsReadBy e) ss
unfolding is_read
reads_all [] e h = tt
reads_all (by_column p ∷ ss) e h = (tt, reads_all ss e h)
reads_all (by_cell p ∷ ss) e h = (tt, reads_all ss e h)
reads_all (newest n ∷ ss) e h = (tt, reads_all ss e h)
reads_all (combine listed r full ∷ ss) e h = ((λ l. first (listed e) (r.reads e.value) (is_read ss e) h l), reads_all ss e (second (not (listed e) || r.reads e.value) (is_read ss e) h))
  where
    first : (a b d : Bool) → ((not a || b) && d) ≡ true → a ≡ true → b ≡ true
    first a b d h k = grind arith

    second : (a b : Bool) → (a && b) ≡ true → b ≡ true
    second a b h = grind arith
reads_all (rows ∷ ss) e h = (tt, reads_all ss e h)
reads_all (intersect terms without ∷ ss) e h = (tt, reads_all ss e h)

-- what the checks say of a change of the k-th mutation
pub record IsLetIn (c : Rules) (m : RowChange) (k : ℕ) (u : Change) : Type 0 where
  pub short : IsShortEnough u
  pub deletes : is_refused_delete c k m u ≡ false
  pub timed : is_mistimed c k m u ≡ false
  pub read : is_unread c k m u ≡ false

storable_entry : (c : Rules) (m : RowChange) (k : ℕ) → IsInside m → (u : Change) → IsLetIn c m k u → IsStorable c (entry_of m.row (pos k) u)
unfolding is_refused_delete is_unread
storable_entry c m k i u h = record {
  bounds = bounds_one m i u h.short;
  short = h.short.value;
  no_value = empty u.value;
  may_delete = λ d. allowed (is_delete u.value) (c.may_delete (entry_of m.row (pos k) u)) h.deletes d;
  reads = λ d. reads_all c.base (entry_of m.row (pos k) u) (first (is_some u.value) (is_read c.base (entry_of m.row (pos k) u)) (is_read c.scan_combiners (entry_of m.row (pos k) u)) h.read (a_put u.value d));
  reads_scan = λ d. reads_all c.scan_combiners (entry_of m.row (pos k) u) (second (is_some u.value) (is_read c.base (entry_of m.row (pos k) u)) (is_read c.scan_combiners (entry_of m.row (pos k) u)) h.read (a_put u.value d));
}
  where
    empty : (o : Option (List ℕ)) → is_delete o ≡ true → unwrap_or o [] ≡ []
    empty None d = refl
    empty (Some v) d = absurd (grind arith)

    allowed : (a b : Bool) → (a && not b) ≡ false → a ≡ true → b ≡ true
    allowed a b h d = grind arith

    a_put : (o : Option (List ℕ)) → is_delete o ≡ false → is_some o ≡ true
    a_put None d = absurd (grind arith)
    a_put (Some v) d = refl

    first : (a b d : Bool) → (a && not (b && d)) ≡ false → a ≡ true → b ≡ true
    first a b d h k = grind arith

    second : (a b d : Bool) → (a && not (b && d)) ≡ false → a ≡ true → d ≡ true
    second a b d h k = grind arith

-- a plain entry has the number of its mutation as its time
own_time : (c : Rules) (m : RowChange) (k : ℕ) (u : Change) → is_mistimed c (k + 1) m u ≡ false → IsWithin c.plain k (k + 1) (entry_of m.row (pos (k + 1)) u)
unfolding is_mistimed
own_time c m k u h p = go u.time (untimed (is_some u.time) (is_delete u.value) (c.plain (entry_of m.row (pos (k + 1)) u)) _ h p)
  where
    untimed : (a b d r : Bool) → (a && (b || d) || r) ≡ false → d ≡ true → a ≡ false
    untimed a b d r h k = grind arith

    go : (o : Option ℤ) → is_some o ≡ false → (pos k <ℤ unwrap_or o (pos (k + 1))) × (unwrap_or o (pos (k + 1)) ≤ℤ pos (k + 1))
    go None s = (omega (arith, ints), omega (arith, ints))
    go (Some x) s = absurd (grind arith)

-- what they say of a mutation behind n others
pub record IsFound (c : Rules) (n : ℕ) (m : RowChange) : Type 0 where
  pub inside : IsInside m
  pub changes : AllByRecursion (IsLetIn c m (n + 1)) m.changes

all_let_in : (c : Rules) (m : RowChange) (k : ℕ) (us : List Change) → AllByRecursion IsShortEnough us → AllByRecursion (λ u. is_refused_delete c k m u ≡ false) us → AllByRecursion (λ u. is_mistimed c k m u ≡ false) us → AllByRecursion (λ u. is_unread c k m u ≡ false) us → AllByRecursion (IsLetIn c m k) us
all_let_in c m k [] a b d e = tt
all_let_in c m k (u ∷ us) a b d e = (record { short = a.0; deletes = b.0; timed = d.0; read = e.0 }, all_let_in c m k us a.1 b.1 d.1 e.1)

pub found : (c : Rules) (n : ℕ) (m : RowChange) → ingest c n m ≡ None → IsFound c n m
unfolding ingest
found c n m h =
    let i : IsInside m = inside m (none_first (out_of_bounds m) _ h) in
    let a = none_second (out_of_bounds m) _ h in
    let b = none_second (option_map duplicate (first_twice [] 1 m.changes)) _ a in
    let d = none_second (option_map delete_here (first_where (is_refused_delete c (n + 1) m) 1 m.changes)) _ b in
    let e = none_second (option_map time_here (first_where (is_mistimed c (n + 1) m) 1 m.changes)) _ d in
    record {
      inside = i;
      changes = all_let_in c m (n + 1) m.changes i.changes
          (nowhere (is_refused_delete c (n + 1) m) 1 m.changes (none_map delete_here _ (none_first (option_map delete_here (first_where (is_refused_delete c (n + 1) m) 1 m.changes)) _ b)))
          (nowhere (is_mistimed c (n + 1) m) 1 m.changes (none_map time_here _ (none_first (option_map time_here (first_where (is_mistimed c (n + 1) m) 1 m.changes)) _ d)))
          (nowhere (is_unread c (n + 1) m) 1 m.changes (none_map bad_value _ (none_first (option_map bad_value (first_where (is_unread c (n + 1) m) 1 m.changes)) _ e)));
    }

all_entries : (P : Cell → Type 0) (Q : Change → Type 0) (f : Change → Cell) → ((u : Change) → Q u → P (f u)) → (us : List Change) → AllByRecursion Q us → AllByRecursion P (map f us)
all_entries P Q f g [] h = tt
all_entries P Q f g (u ∷ us) h = (g u h.0, all_entries P Q f g us h.1)

pub storable_added : (c : Rules) (n : ℕ) (m : RowChange) → ingest c n m ≡ None → AreStorable c (entries_of (pos (n + 1)) m)
storable_added c n m h = let f : IsFound c n m = found c n m h in all_entries (IsStorable c) (IsLetIn c m (n + 1)) (entry_of m.row (pos (n + 1))) (storable_entry c m (n + 1) f.inside) m.changes f.changes

pub within_added : (c : Rules) (n : ℕ) (m : RowChange) → ingest c n m ≡ None → AreWithin c.plain n (n + 1) (entries_of (pos (n + 1)) m)
within_added c n m h = let f : IsFound c n m = found c n m h in all_entries (IsWithin c.plain n (n + 1)) (IsLetIn c m (n + 1)) (entry_of m.row (pos (n + 1))) (λ u k. own_time c m n u k.timed) m.changes f.changes

-- of a whole history
pub storable_numbered : (c : Rules) (n : ℕ) (h : List RowChange) → AreLetIn c n h → AreStorable c (entries_from n h)
storable_numbered c n [] k = tt
storable_numbered c n (m ∷ ms) k = all_append (IsStorable c) (entries_of (pos (n + 1)) m) (entries_from (n + 1) ms) (storable_added c n m k.0) (storable_numbered c (n + 1) ms k.1)

pub within_numbered : (c : Rules) (n : ℕ) (h : List RowChange) → AreLetIn c n h → AreWithin c.plain n (n + length h) (entries_from n h)
within_numbered c n [] k = tt
within_numbered c n (m ∷ ms) k = all_append (IsWithin c.plain n (n + length (m ∷ ms))) (entries_of (pos (n + 1)) m) (entries_from (n + 1) ms)
    (within_weaker c.plain n n (n + 1) (n + length (m ∷ ms)) (entries_of (pos (n + 1)) m) (omega arith) (more (length ms)) (within_added c n m k.0))
    (within_weaker c.plain (n + 1) n (n + 1 + length ms) (n + length (m ∷ ms)) (entries_from (n + 1) ms) (omega arith) (same (length ms)) (within_numbered c (n + 1) ms k.1))
  where
    more : (l : ℕ) → n + 1 ≤ n + length (m ∷ ms)
    more l = grind arith

    same : (l : ℕ) → n + 1 + length ms ≤ n + length (m ∷ ms)
    same l = grind arith

pub let_in_append : (c : Rules) (n : ℕ) (h : List RowChange) (m : RowChange) → AreLetIn c n h → ingest c (n + length h) m ≡ None → AreLetIn c n (h ++ m ∷ [])
let_in_append c n [] m k e = (subst (λ j. ingest c j m ≡ None) (zero_end n) e, tt)
  where
    zero_end : (n : ℕ) → n + 0 ≡ n
    zero_end n = grind arith
let_in_append c n (g ∷ gs) m k e = (k.0, let_in_append c (n + 1) gs m k.1 (subst (λ j. ingest c j m ≡ None) (moved (length gs)) e))
  where
    moved : (l : ℕ) → n + length (g ∷ gs) ≡ n + 1 + length gs
    moved l = grind arith
