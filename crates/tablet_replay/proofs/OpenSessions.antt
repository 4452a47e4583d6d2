-- Open sessions by their numbers, and what becomes of them, in code and in the text.
use Rattle.std.proofs.Common.{◌≡◌, ◌==◌, ℕ, zero, suc, ◌+◌, ◌<◌, not, Bool, cond, List, [], ◌∷◌, ◌++◌, map, length, nat_lt, take, drop, Option, Some, None, slice_get, refl, sym, ap, ◌∙◌, subst, append-nil, append_assoc, OnOk, Result, Ok, Err, arith}
use Rattle.std.specs.Prelude.{option_map, position, remove, slice_set}
use Rattle.std.specs.List.{AllByRecursion, prefix_len}
use Rattle.std.proofs.lemmas.List.{length-map, map-append, take-map, drop-map, map-set}
use Rattle.std.proofs.lemmas.Option.{slice_get-map}
use Rattle.tablet_model.specs.Cell.{Cell}
use Rattle.tablet_model.specs.History.{RowChange}
use Rattle.tablet_model.specs.Places.{after}
use Rattle.tablet_model.proofs.Merges.{all_append}
use Rattle.tablet_model.proofs.Sums.{all_weaker}
use Rattle.scan_session.specs.Sessions.{IsFetch, IsSameScan, SessionState, answer_over}
use Rattle.scan_session.specs.Takes.{place_after, take_together}
use Rattle.scan_session.specs.Walks.{end_of, fetch_pieces, pieces_of}
use Rattle.scan_session.specs.declared.piece.Piece.{Piece}
use Rattle.script_text.specs.Answers.{found_text}
use Rattle.script_text.specs.SessionAnswers.{rest_line}
use Rattle.tablet_view.specs.Extending.{BeginsWith, Extends}
use Rattle.tablet_view.specs.Snapshot.{Snapshot}
use Rattle.tablet_replay.specs.Sessions.{fetch_text, next_entries, place_of, scan_answer, session_answer, session_behind, session_rest}
use Rattle.tablet_replay.specs.StatusText.{piece_text, pieces_text}
use Rattle.tablet_replay.specs.TabletParts.{ArePinned, IsPinned, open_scan}
use Rattle.tablet_replay.specs.declared.sessions.OpenSession.{OpenSession}

-- ---- places in lists of what elements become

module _ {X Y : Type 0} (f : X → Y) where
  prefix-map : (p : Y → Bool) (xs : List X) → prefix_len p (map f xs) ≡ prefix_len (λ x. p (f x)) xs
  prefix-map p [] = refl
  prefix-map p (x ∷ xs) = ap (λ n. cond (p (f x)) (1 + n) 0) (prefix-map p xs)

  position-map : (p : Y → Bool) (xs : List X) → position p (map f xs) ≡ position (λ x. p (f x)) xs
  position-map p xs = λ i. cond (nat_lt (prefix-map (λ y. not (p y)) xs i) (length-map xs f i)) (Some (prefix-map (λ y. not (p y)) xs i)) None

  remove-map : (xs : List X) (i : ℕ) → remove (map f xs) i ≡ map f (remove xs i)
  remove-map xs i = (λ j. take-map f i xs j ++ drop-map f (suc i) xs j) ∙ sym (map-append f (take i xs) (drop (suc i) xs))

-- ---- the session of a number

pub place_is : (number : ℕ) (ss : List OpenSession) → place_of number (map open_scan ss) ≡ position (λ s. s.number == number) ss
place_is number ss = position-map open_scan (λ s. s.number == number) ss

pub none_open : (number : ℕ) (ss : List OpenSession) → position (λ s. s.number == number) ss ≡ None → place_of number (map open_scan ss) ≡ None
none_open number ss h = place_is number ss ∙ h

pub one_open : (number i : ℕ) (ss : List OpenSession) → position (λ s. s.number == number) ss ≡ Some i → place_of number (map open_scan ss) ≡ Some i
one_open number i ss h = place_is number ss ∙ h

pub scan_at : (ss : List OpenSession) (i : ℕ) (s : OpenSession) → slice_get ss i ≡ Some s → slice_get (map open_scan ss) i ≡ Some (open_scan s)
scan_at ss i s h = slice_get-map open_scan ss i ∙ ap (option_map open_scan) h

pub set_scan : (ss : List OpenSession) (i : ℕ) (s : OpenSession) → map open_scan (slice_set ss i s) ≡ slice_set (map open_scan ss) i (open_scan s)
set_scan ss i s = map-set open_scan ss i s

pub removed_scan : (ss : List OpenSession) (i : ℕ) → map open_scan (remove ss i) ≡ remove (map open_scan ss) i
removed_scan ss i = sym (remove-map open_scan ss i)

-- ---- a fetch

pub pieces_are : (n : ℕ) (es : List Cell) → pieces_text (pieces_of n es) ≡ found_text n es
unfolding pieces_of found_text
pieces_are n [] = refl
pieces_are n (e ∷ es) = append-nil (piece_text (record { n = n; entries = e ∷ es }))

begins : (log rest earlier : List RowChange) → log ≡ earlier ++ rest → take (length earlier) log ≡ earlier
begins log rest earlier h = ap (take (length earlier)) h ∙ all earlier rest
  where
    all : (xs ys : List RowChange) → take (length xs) (xs ++ ys) ≡ xs
    all [] ys = refl
    all (x ∷ xs) ys = ap (λ l. x ∷ l) (all xs ys)

-- what a session answers over its view's log, it answers over the first mutations of the present one
answers_are : (now : Snapshot) (s : OpenSession) → IsPinned now s → answer_over s.session s.session.view.log ≡ session_answer now.config now.log (open_scan s)
answers_are now s p = λ i. scan_answer (p.config i) s.session.range s.session.families (sym (begins now.log p.log.rest s.session.view.log p.log.whole) i)

same_scan : (t s : SessionState) → IsSameScan t s → t.view ≡ s.view → t ≡ record s { place = t.place }
same_scan t s same v = λ i. record { view = v i; range = same.range i; families = same.families i; mode = same.mode i; place = t.place }

module _ (now : Snapshot) (s : OpenSession) (p : IsPinned now s) (count : ℕ) (t : SessionState) (pieces : List Piece) (ended : Option ℕ)
    (f : IsFetch count s.session.place t pieces ended) (same : IsSameScan t s.session) (v : t.view ≡ s.session.view) where
  whole : IsFetch count s.session.place (record s.session { place = t.place }) pieces ended
  whole = subst (λ u. IsFetch count s.session.place u pieces ended) (same_scan t s.session same v) f

  left_is : after s.session.place (answer_over s.session s.session.view.log) ≡ after s.session.place (session_answer now.config now.log (open_scan s))
  left_is = ap (after s.session.place) (answers_are now s p)

  next_is : take_together s.session.mode count (after s.session.place (answer_over s.session s.session.view.log)) ≡ next_entries now.config now.log count (open_scan s)
  next_is = ap (take_together s.session.mode count) left_is

  place_moved : t.place ≡ place_after s.session.mode s.session.place (next_entries now.config now.log count (open_scan s))
  place_moved = whole.place ∙ ap (place_after s.session.mode s.session.place) next_is

  -- the session behind a fetch
  pub moved_is : open_scan (record s { session = t }) ≡ session_behind now.config now.log count (open_scan s)
  moved_is = ap (λ u. open_scan (record s { session = u })) (same_scan t s.session same v) ∙ ap (λ q. record (open_scan s) { place = q }) place_moved

  -- the text of what it gave
  pub said_is : pieces_text pieces ++ rest_line ended ≡ fetch_text now.config now.log count (open_scan s)
  unfolding fetch_pieces
  said_is = λ i. front i ++ rest_line (back i)
    where
      front : pieces_text pieces ≡ found_text (length s.session.view.log) (next_entries now.config now.log count (open_scan s))
      front = ap pieces_text whole.pieces ∙ pieces_are (length s.session.view.log) (take_together s.session.mode count (after s.session.place (answer_over s.session s.session.view.log)))
          ∙ ap (found_text (length s.session.view.log)) next_is

      back : ended ≡ end_of (length s.session.view.log) (session_rest now.config now.log (session_behind now.config now.log count (open_scan s)))
      back = whole.ended ∙ ap (end_of (length s.session.view.log)) ((λ i. after (place_moved i) (answers_are now s p i)))

-- ---- what is kept

module _ {X : Type 0} (P : X → Type 0) where
  pub all_set : (xs : List X) (i : ℕ) (x : X) → P x → AllByRecursion P xs → AllByRecursion P (slice_set xs i x)
  all_set [] i x h all = tt
  all_set (y ∷ ys) zero x h all = (h, all.1)
  all_set (y ∷ ys) (suc i) x h all = (all.0, all_set ys i x h all.1)

  all_taken : (n : ℕ) (xs : List X) → AllByRecursion P xs → AllByRecursion P (take n xs)
  all_taken zero xs all = tt
  all_taken (suc n) [] all = tt
  all_taken (suc n) (x ∷ xs) all = (all.0, all_taken n xs all.1)

  all_dropped : (n : ℕ) (xs : List X) → AllByRecursion P xs → AllByRecursion P (drop n xs)
  all_dropped zero xs all = all
  all_dropped (suc n) [] all = tt
  all_dropped (suc n) (x ∷ xs) all = all_dropped n xs all.1

  pub all_removed : (xs : List X) (i : ℕ) → AllByRecursion P xs → AllByRecursion P (remove xs i)
  all_removed xs i all = all_append P (take i xs) (drop (suc i) xs) (all_taken i xs all) (all_dropped (suc i) xs all)

-- a session stays on a view that the present one extends
still_pinned : (now later : Snapshot) → Extends later now → (s : OpenSession) → IsPinned now s → IsPinned later s
still_pinned now later e s p = record {
  config = p.config ∙ sym e.config;
  log = record {
    rest = p.log.rest ++ e.log.rest;
    whole = e.log.whole ∙ ap (λ l. l ++ e.log.rest) p.log.whole ∙ append_assoc s.session.view.log p.log.rest e.log.rest;
  };
}

pub all_pinned : (now later : Snapshot) → Extends later now → (ss : List OpenSession) → ArePinned now ss → ArePinned later ss
all_pinned now later e ss all = all_weaker (IsPinned now) (IsPinned later) (still_pinned now later e) ss all

-- a session on the present view
pub pinned_now : (now : Snapshot) (s : OpenSession) → s.session.view ≡ now → IsPinned now s
pinned_now now s v = record {
  config = ap (λ u. u.config) v;
  log = record { rest = []; whole = sym (ap (λ u. u.log) v) ∙ sym (append-nil s.session.view.log) };
}

-- a session behind a fetch
pub pinned_behind : (now : Snapshot) (s : OpenSession) (t : SessionState) → t.view ≡ s.session.view → IsPinned now s → IsPinned now (record s { session = t })
pinned_behind now s t v p = record {
  config = ap (λ u. u.config) v ∙ p.config;
  log = subst (λ (l : List RowChange). BeginsWith now.log l) (sym (ap (λ u. u.log) v)) p.log;
}

-- what holds in any case holds where a call succeeded
pub always : {E P : Type 0} (r : Result (Unit {0}) E) → P → OnOk r P
always (Ok x) h = h
always (Err e) h = tt

-- the session at a place
pub session_there : (ss : List OpenSession) (i : ℕ) → i < length ss → (s : OpenSession) × (slice_get ss i ≡ Some s)
session_there [] i h = absurd (omega (arith, h))
session_there (s ∷ ss) zero h = (s, refl)
session_there (s ∷ ss) (suc i) h = session_there ss i (omega (arith, h))
