-- What the checks of mutations say.
use Rattle.std.proofs.Common.{◌≡◌, ◌||◌, ℕ, zero, suc, ◌+◌, ◌<◌, ◌≤◌, ℤ, Bool, true, false, cond, List, [], ◌∷◌, map, length, nat_lt, Option, Some, None, unwrap_or, option_map, refl, subst, arith}
use Rattle.std.specs.Prelude.{slice_get}
use Rattle.std.specs.Option.{option_or}
use Rattle.std.specs.List.{AllByRecursion}
use Rattle.tablet_model.specs.Bounds.{KeyBounds, IsTime, IsEntry, AreEntries}
use Rattle.tablet_model.specs.History.{Change, RowChange, entry_of, entries_of}
use Rattle.tablet_model.specs.Ingest.{bound, row_part, updates_part, family_part, qualifier_part, visibility_part, value_part, too_long, first_too_long, out_of_bounds, first_where, first_twice, duplicate, delete_here, time_here, bad_value, full_log, is_mistimed, is_refused_delete, is_unread, ingest}
use Rattle.tablet_model.specs.Rules.{Rules}
use Rattle.tablet_model.proofs.Sums.{all_weaker}
use Rattle.tablet_model.proofs.Combines.{all_both}

-- what answers nothing
pub some_none : {X : Type 0} (x : X) → Some x ≡ None → ⊥
some_none x h = cc

pub none_first : {X : Type 0} (o p : Option X) → option_or o p ≡ None → o ≡ None
none_first None p h = refl
none_first (Some x) p h = h

pub none_second : {X : Type 0} (o p : Option X) → option_or o p ≡ None → p ≡ None
none_second None p h = h
none_second (Some x) p h = absurd (some_none x h)

pub none_map : {X Y : Type 0} (f : X → Y) (o : Option X) → option_map f o ≡ None → o ≡ None
none_map f None h = refl
none_map f (Some x) h = absurd (some_none (f x) h)

pub none_cond : {X : Type 0} (b : Bool) (x : X) (o : Option X) → cond b (Some x) o ≡ None → (b ≡ false) × (o ≡ None)
none_cond true x o h = absurd (some_none x h)
none_cond false x o h = (refl, h)

-- a test that no change passes
pub nowhere : (p : Change → Bool) (at : ℕ) (us : List Change) → first_where p at us ≡ None → AllByRecursion (λ u. p u ≡ false) us
unfolding first_where
nowhere p at [] h = tt
nowhere p at (u ∷ us) h = let k = none_cond (p u) at (first_where p (at + 1) us) h in (k.0, nowhere p (at + 1) us k.1)

none_long : (at : ℕ) (us : List Change) → first_too_long at us ≡ None → AllByRecursion (λ u. too_long u ≡ None) us
unfolding first_too_long
none_long at [] h = tt
none_long at (u ∷ us) h = (
  none_map (bound at) (too_long u) (none_first (option_map (bound at) (too_long u)) (first_too_long (at + 1) us) h),
  none_long (at + 1) us (none_second (option_map (bound at) (too_long u)) (first_too_long (at + 1) us) h),
)

not_less : (a b : ℕ) → nat_lt a b ≡ false → b ≤ a
not_less a b h = grind arith

-- a change whose parts are short enough
pub record IsShortEnough (u : Change) : Type 0 where
  pub family : length u.family ≤ 1024
  pub qualifier : length u.qualifier ≤ 1024
  pub visibility : length u.visibility ≤ 1024
  pub value : length (unwrap_or u.value []) ≤ 65536

short_enough : (u : Change) → too_long u ≡ None → IsShortEnough u
unfolding too_long
short_enough u h =
    let f = none_cond (nat_lt 1024 (length u.family)) family_part _ h in
    let q = none_cond (nat_lt 1024 (length u.qualifier)) qualifier_part _ f.1 in
    let v = none_cond (nat_lt 1024 (length u.visibility)) visibility_part _ q.1 in
    let w = none_cond (nat_lt 65536 (length (unwrap_or u.value []))) value_part _ v.1 in
    record { family = not_less _ _ f.0; qualifier = not_less _ _ q.0; visibility = not_less _ _ v.0; value = not_less _ _ w.0 }

-- a mutation that is within bounds
pub record IsInside (m : RowChange) : Type 0 where
  pub some_row : 1 ≤ length m.row
  pub row : length m.row ≤ 1024
  pub some_changes : 1 ≤ length m.changes
  pub few_changes : length m.changes ≤ 100
  pub changes : AllByRecursion IsShortEnough m.changes

or_false : (a b : Bool) → (a || b) ≡ false → (a ≡ false) × (b ≡ false)
or_false a b h = grind arith

pub inside : (m : RowChange) → out_of_bounds m ≡ None → IsInside m
unfolding out_of_bounds
inside m h =
    let r = none_cond (nat_lt (length m.row) 1 || nat_lt 1024 (length m.row)) (bound 0 row_part) _ h in
    let n = none_cond (nat_lt (length m.changes) 1 || nat_lt 100 (length m.changes)) (bound 0 updates_part) _ r.1 in
    let s = or_false _ _ r.0 in
    let t = or_false _ _ n.0 in
    record {
      some_row = not_less _ _ s.0;
      row = not_less _ _ s.1;
      some_changes = not_less _ _ t.0;
      few_changes = not_less _ _ t.1;
      changes = all_weaker (λ u. too_long u ≡ None) IsShortEnough short_enough m.changes (none_long 1 m.changes n.1);
    }

-- a log that takes a mutation in is not full
pub room_left : (c : Rules) (n : ℕ) (m : RowChange) → ingest c n m ≡ None → n < 524288
unfolding ingest
room_left c n m h =
    let full = cond (nat_lt n 524288) None (Some full_log) in
    let unread = option_or (option_map bad_value (first_where (is_unread c (n + 1) m) 1 m.changes)) full in
    let mistimed = option_or (option_map time_here (first_where (is_mistimed c (n + 1) m) 1 m.changes)) unread in
    let deleting = option_or (option_map delete_here (first_where (is_refused_delete c (n + 1) m) 1 m.changes)) mistimed in
    let twice = option_or (option_map duplicate (first_twice [] 1 m.changes)) deleting in
    below (nat_lt n 524288) refl
    (none_second (option_map bad_value (first_where (is_unread c (n + 1) m) 1 m.changes)) full
    (none_second (option_map time_here (first_where (is_mistimed c (n + 1) m) 1 m.changes)) unread
    (none_second (option_map delete_here (first_where (is_refused_delete c (n + 1) m) 1 m.changes)) mistimed
    (none_second (option_map duplicate (first_twice [] 1 m.changes)) deleting
    (none_second (out_of_bounds m) twice h)))))
  where
    below : (b : Bool) → nat_lt n 524288 ≡ b → cond b None (Some full_log) ≡ None → n < 524288
    below true e h = grind arith
    below false e h = absurd (some_none full_log h)

-- the bounds of the keys of its changes
pub bounds_one : (m : RowChange) → IsInside m → (u : Change) → IsShortEnough u → KeyBounds m.row u.family u.qualifier u.visibility
bounds_one m i u s = (i.some_row, i.row, s.family, s.qualifier, s.visibility)

pub bounds_all : (m : RowChange) → out_of_bounds m ≡ None → AllByRecursion (λ u. KeyBounds m.row u.family u.qualifier u.visibility) m.changes
bounds_all m h = let i : IsInside m = inside m h in all_weaker IsShortEnough (λ u. KeyBounds m.row u.family u.qualifier u.visibility) (bounds_one m i) m.changes i.changes

-- what holds of all holds of the one at an index
pub all_at : {X : Type 0} (P : X → Type 0) (xs : List X) (i : ℕ) (x : X) → slice_get xs i ≡ Some x → AllByRecursion P xs → P x
all_at P [] i x e all = absurd (some_none x (grind arith))
all_at P (y ∷ ys) zero x e all = subst P (same y x e) all.0
  where
    same : {X : Type 0} (y x : X) → Some y ≡ Some x → y ≡ x
    same y x e = cc
all_at P (y ∷ ys) (suc i) x e all = all_at P ys i x e all.1

pub bounds_at : (m : RowChange) (i : ℕ) (u : Change) → out_of_bounds m ≡ None → slice_get m.changes i ≡ Some u → KeyBounds m.row u.family u.qualifier u.visibility
bounds_at m i u h e = all_at (λ u. KeyBounds m.row u.family u.qualifier u.visibility) m.changes i u e (bounds_all m h)

-- where the changes are made of something else, as of the updates of a program
all_map_back : {X Y : Type 0} (P : Y → Type 0) (f : X → Y) (xs : List X) → AllByRecursion P (map f xs) → AllByRecursion (λ x. P (f x)) xs
all_map_back P f [] h = tt
all_map_back P f (x ∷ xs) h = (h.0, all_map_back P f xs h.1)

pub bounds_of : {X : Type 0} (f : X → Change) (row : List ℕ) (xs : List X) (i : ℕ) (x : X) → out_of_bounds (record { row = row; changes = map f xs }) ≡ None → slice_get xs i ≡ Some x → KeyBounds row (f x).family (f x).qualifier (f x).visibility
bounds_of f row xs i x h e = all_at (λ x. KeyBounds row (f x).family (f x).qualifier (f x).visibility) xs i x e (all_map_back (λ u. KeyBounds row u.family u.qualifier u.visibility) f xs (bounds_all (record { row = row; changes = map f xs }) h))

-- with times of 64 bits its entries are entries
pub entries_all : (m : RowChange) (t : ℤ) → out_of_bounds m ≡ None → AllByRecursion (λ u. IsTime (unwrap_or u.time t)) m.changes → AreEntries (entries_of t m)
entries_all m t h times = go m.changes (all_both (λ u. KeyBounds m.row u.family u.qualifier u.visibility) (λ u. IsTime (unwrap_or u.time t)) (λ u. IsEntry (entry_of m.row t u)) (λ u b k. (b, k)) m.changes (bounds_all m h) times)
  where
    go : (us : List Change) → AllByRecursion (λ u. IsEntry (entry_of m.row t u)) us → AreEntries (map (entry_of m.row t) us)
    go [] k = tt
    go (u ∷ us) k = (k.0, go us k.1)
