-- Histories of configurations that time no family: the keys of their entries are all different, and so are those of answers.
use Rattle.std.proofs.Common.{◌≡◌, ◌||◌, ◌&&◌, not, ℕ, zero, suc, ◌+◌, ℤ, pos, ◌<ℤ◌, Bool, true, false, cond, List, [], ◌∷◌, ◌++◌, bytes_eq, length, take, Option, Some, None, is_some, unwrap_or, option_map, refl, sym, ap, arith}
use Rattle.std.proofs.lemmas.Int.{ints}
use Rattle.std.proofs.lemmas.Slice.Eq.{bytes_eq-Decides}
use Rattle.std.specs.List.{AllByRecursion, IsDistinct, list_any}
use Rattle.tablet_model.specs.Answers.{answer, scan_of}
use Rattle.tablet_model.specs.Cell.{Cell}
use Rattle.tablet_model.specs.Cuts.{holds}
use Rattle.tablet_model.specs.Families.{has_family, in_families, is_in}
use Rattle.tablet_model.specs.History.{Change, RowChange, entries_from, entries_of, entry_of, history_entries, is_delete}
use Rattle.tablet_model.specs.Ingest.{AreLetIn, delete_here, duplicate, first_twice, first_where, ingest, is_mistimed, is_refused_delete, is_twin, out_of_bounds, time_here}
use Rattle.tablet_model.specs.Markers.{is_live, live}
use Rattle.tablet_model.specs.Order.{above}
use Rattle.tablet_model.specs.Rules.{Rules}
use Rattle.tablet_model.specs.Stages.{stages}
use Rattle.tablet_model.proofs.Bools.{never-both}
use Rattle.tablet_model.proofs.Histories.{history_ascends}
use Rattle.tablet_model.proofs.Ingests.{none_cond, none_first, none_map, none_second, nowhere}
use Rattle.tablet_model.proofs.Maps.{all_map}
use Rattle.tablet_model.proofs.Merges.{all_append, all_left, all_right}
use Rattle.tablet_model.proofs.OneColumn.{Ascends-live}
use Rattle.tablet_model.proofs.Orders.{above_exact}
use Rattle.tablet_model.proofs.Sums.{Ascends-filter, all_weaker}
use Rattle.iter_config.specs.Columns.{is_timed}
use Rattle.iter_config.specs.RulesOf.{rules_of}
use Rattle.iter_config.specs.Settings.{Settings}
use Rattle.iter_config.specs.Stages.{stages_of}
use Rattle.scan_session.specs.Keys.{KeysDiffer}
use Rattle.scan_session.specs.Takes.{plain, together}
use Rattle.scan_session.specs.UntimedLaws.{UntimedAnswersDiffer, UntimedKeysRise, UntimedEntriesAreCounted}
use Rattle.scan_session.proofs.Differing.{all_differ, apart_by, none_passes, sorted_differs}
use Rattle.scan_session.proofs.Pairs.{IsDistinct-append, IsDistinct-filter, IsDistinct-map}
use Rattle.scan_session.proofs.Rising.{different_counted, different_rise}
use Rattle.scan_session.proofs.SessionWalks.{scan_ascends}

-- ---- the entries of one mutation

-- no change has a twin before it
twins_before : (before : List Change) (at : ℕ) (us : List Change) → first_twice before at us ≡ None
    → AllByRecursion (λ v. AllByRecursion (λ u. is_twin v u ≡ false) before) us
unfolding first_twice
twins_before before at [] h = tt
twins_before before at (v ∷ vs) h =
    let k = none_cond (list_any (is_twin v) before) at (first_twice (before ++ v ∷ []) (at + 1) vs) h in (
      none_passes (is_twin v) before k.0,
      all_weaker (λ w. AllByRecursion (λ u. is_twin w u ≡ false) (before ++ v ∷ [])) (λ w. AllByRecursion (λ u. is_twin w u ≡ false) before)
          (λ w a. all_left (λ u. is_twin w u ≡ false) before (v ∷ []) a) vs (twins_before (before ++ v ∷ []) (at + 1) vs k.1),
    )

no_twins : (before : List Change) (at : ℕ) (us : List Change) → first_twice before at us ≡ None → IsDistinct (λ u v. is_twin v u) us
unfolding first_twice IsDistinct
no_twins before at [] h = tt
no_twins before at (v ∷ vs) h =
    let k = none_cond (list_any (is_twin v) before) at (first_twice (before ++ v ∷ []) (at + 1) vs) h in (
      all_weaker (λ w. AllByRecursion (λ u. is_twin w u ≡ false) (before ++ v ∷ [])) (λ w. is_twin w v ≡ false)
          (λ w a. (all_right (λ u. is_twin w u ≡ false) before (v ∷ []) a).0) vs (twins_before (before ++ v ∷ []) (at + 1) vs k.1),
      no_twins (before ++ v ∷ []) (at + 1) vs k.1,
    )

alike : (o p : Option (List ℕ)) → is_delete o ≡ is_delete p → cond (is_delete o) (is_delete p) (is_some p) ≡ true
alike None None h = refl
alike None (Some w) h = absurd (let k : true ≡ false = h in cc)
alike (Some v) None h = absurd (let k : false ≡ true = h in cc)
alike (Some v) (Some w) h = refl

-- changes that are no twins have entries with different keys
changes_apart : (row : List ℕ) (t : ℤ) (u v : Change) → is_twin v u ≡ false → together plain (entry_of row t u) (entry_of row t v) ≡ false
unfolding is_twin
changes_apart row t u v h =
    apart_by (entry_of row t u) (entry_of row t v)
    (λ k. never-both _ (twin (bytes_eq v.family u.family) (bytes_eq v.qualifier u.qualifier) (bytes_eq v.visibility u.visibility) _
    ((bytes_eq-Decides v.family u.family).1 (sym (ap (λ k. k.family) k)))
    ((bytes_eq-Decides v.qualifier u.qualifier).1 (sym (ap (λ k. k.qualifier) k)))
    ((bytes_eq-Decides v.visibility u.visibility).1 (sym (ap (λ k. k.visibility) k)))
    (alike v.value u.value (sym (ap (λ k. k.deleted) k)))) h)
  where
    twin : (f q w d : Bool) → f ≡ true → q ≡ true → w ≡ true → d ≡ true → (f && q && w && d) ≡ true
    twin f q w d a b c e = grind arith

-- ---- the times of mutations

-- what the checks say of a mutation where no family is timed
record IsPlain (m : RowChange) : Type 0 where
  single : first_twice [] 1 m.changes ≡ None
  untimed : AllByRecursion (λ u. is_some u.time ≡ false) m.changes

nothing_timed : (c : Settings) (family : List ℕ) → c.timed ≡ [] → is_timed c family ≡ false
nothing_timed c family none = ap (λ names. has_family (Some names) family) none

brings_none : (c : Settings) (k : ℕ) (m : RowChange) → c.timed ≡ [] → (u : Change) → is_mistimed (rules_of c) k m u ≡ false → is_some u.time ≡ false
unfolding is_mistimed rules_of
brings_none c k m none u h = plain_time (is_some u.time) (is_delete u.value) (is_timed c u.family) _ (nothing_timed c u.family none) h
  where
    plain_time : (a b d r : Bool) → d ≡ false → (a && (b || not d) || r) ≡ false → a ≡ false
    plain_time a b d r e h = grind arith

plain_mutation : (c : Settings) (n : ℕ) (m : RowChange) → c.timed ≡ [] → ingest (rules_of c) n m ≡ None → IsPlain m
unfolding ingest
plain_mutation c n m none h =
    let rules : Rules = rules_of c in
    let a = none_second (out_of_bounds m) _ h in
    let b = none_second (option_map duplicate (first_twice [] 1 m.changes)) _ a in
    let d = none_second (option_map delete_here (first_where (is_refused_delete rules (n + 1) m) 1 m.changes)) _ b in
    record {
      single = none_map duplicate _ (none_first (option_map duplicate (first_twice [] 1 m.changes)) _ a);
      untimed = all_weaker (λ u. is_mistimed rules (n + 1) m u ≡ false) (λ u. is_some u.time ≡ false) (brings_none c (n + 1) m none) m.changes
          (nowhere (is_mistimed rules (n + 1) m) 1 m.changes
          (none_map time_here _ (none_first (option_map time_here (first_where (is_mistimed rules (n + 1) m) 1 m.changes)) _ d)));
    }

-- so all its entries have its own time
own_times : (t : ℤ) (m : RowChange) → IsPlain m → AllByRecursion (λ e. e.key.time ≡ t) (entries_of t m)
own_times t m p = all_map (λ u. is_some u.time ≡ false) (λ e. e.key.time ≡ t) (entry_of m.row t) (λ u h. given u.time h) m.changes p.untimed
  where
    given : (o : Option ℤ) → is_some o ≡ false → unwrap_or o t ≡ t
    given None h = refl
    given (Some x) h = absurd (let k : true ≡ false = h in cc)

-- and those of later ones are newer
newer_entries : (c : Settings) (n : ℕ) (h : List RowChange) → c.timed ≡ [] → AreLetIn (rules_of c) n h
    → AllByRecursion (λ e. pos n <ℤ e.key.time) (entries_from n h)
newer_entries c n [] none k = tt
newer_entries c n (m ∷ ms) none k =
    all_append (λ e. pos n <ℤ e.key.time) (entries_of (pos (n + 1)) m) (entries_from (n + 1) ms)
    (all_weaker (λ e. e.key.time ≡ pos (n + 1)) (λ e. pos n <ℤ e.key.time) (λ e t. here e.key.time t) (entries_of (pos (n + 1)) m)
    (own_times (pos (n + 1)) m (plain_mutation c n m none k.0)))
    (all_weaker (λ e. pos (n + 1) <ℤ e.key.time) (λ e. pos n <ℤ e.key.time) (λ e t. behind e.key.time t) (entries_from (n + 1) ms)
    (newer_entries c (n + 1) ms none k.1))
  where
    here : (t : ℤ) → t ≡ pos (n + 1) → pos n <ℤ t
    here t e = omega (arith, ints)

    behind : (t : ℤ) → pos (n + 1) <ℤ t → pos n <ℤ t
    behind t e = omega (arith, ints)

-- ---- the entries of a history

entries_differ : (c : Settings) (n : ℕ) (h : List RowChange) → c.timed ≡ [] → AreLetIn (rules_of c) n h → KeysDiffer (entries_from n h)
unfolding IsDistinct
entries_differ c n [] none k = tt
entries_differ c n (m ∷ ms) none k =
    let p : IsPlain m = plain_mutation c n m none k.0 in
    IsDistinct-append (together plain) (entries_of (pos (n + 1)) m) (entries_from (n + 1) ms)
    (IsDistinct-map (λ u v. is_twin v u) (together plain) (entry_of m.row (pos (n + 1))) (changes_apart m.row (pos (n + 1))) m.changes
    (no_twins [] 1 m.changes p.single))
    (entries_differ c (n + 1) ms none k.1)
    (all_weaker (λ e. e.key.time ≡ pos (n + 1)) (λ e. AllByRecursion (λ y. together plain e y ≡ false) (entries_from (n + 1) ms)) (λ e t.
    all_weaker (λ y. pos (n + 1) <ℤ y.key.time) (λ y. together plain e y ≡ false) (λ y l. apart_by e y (λ k. later e.key.time y.key.time t l (ap (λ k. k.time) k)))
    (entries_from (n + 1) ms) (newer_entries c (n + 1) ms none k.1)) (entries_of (pos (n + 1)) m) (own_times (pos (n + 1)) m p))
  where
    later : (s t : ℤ) → s ≡ pos (n + 1) → pos (n + 1) <ℤ t → s ≡ t → ⊥
    later s t e l same = omega (arith, ints)

-- the first mutations of a history are a history
first_let_in : (c : Rules) (n k : ℕ) (h : List RowChange) → AreLetIn c n h → AreLetIn c n (take k h)
first_let_in c n zero h a = tt
first_let_in c n (suc k) [] a = tt
first_let_in c n (suc k) (m ∷ ms) a = (a.0, first_let_in c (n + 1) k ms a.1)

-- ---- answers

pub answers_differ : UntimedAnswersDiffer
unfolding answer scan_of history_entries live
answers_differ c range families h untimed =
    let all : List Cell = history_entries h in
    let seen : List Cell = in_families families (live all) in
    IsDistinct-filter (together plain) (λ e. holds range e.key) (stages (stages_of c) seen)
    (all_differ c.iterators seen
    (Ascends-filter above above_exact (is_in families) (live all) (Ascends-live all (history_ascends h)))
    (IsDistinct-filter (together plain) (is_in families) (live all)
    (IsDistinct-filter (together plain) (is_live all) all (sorted_differs (entries_from 0 h) (entries_differ c 0 h untimed.0 untimed.1)))))

pub untimed_rise : UntimedKeysRise
untimed_rise c range families h untimed mode p q n l pieces w =
    different_rise (λ k. answer (stages (stages_of c)) range families (take k h)) (length h) mode p q n l pieces
    (λ k b. scan_ascends c range families (take k h))
    (λ k b. answers_differ c range families (take k h) (untimed.0, first_let_in (rules_of c) 0 k h untimed.1)) w

pub untimed_counted : UntimedEntriesAreCounted
untimed_counted c range families h untimed m p b =
    different_counted m p (answer (stages (stages_of c)) range families h) b (answers_differ c range families h untimed)
