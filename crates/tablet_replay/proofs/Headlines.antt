-- Scans and sessions along a script.
use Rattle.std.proofs.Common.{◌≡◌, ◌==◌, ℕ, ◌≤◌, Bool, true, false, cond, List, [], ◌∷◌, ◌++◌, length, take, Option, Some, None, refl, sym, ap, ◌∙◌, subst, le_refl, le_trans, append_assoc}
use Rattle.std.specs.Prelude.{is_some}
use Rattle.std.specs.List.{AllByRecursion}
use Rattle.std.proofs.lemmas.Bool.{eq-eqb, eqb-true}
use Rattle.std.proofs.lemmas.List.{take-append-le}
use Rattle.tablet_model.specs.Cell.{Cell}
use Rattle.tablet_model.specs.History.{RowChange}
use Rattle.tablet_model.specs.Ingest.{ingest}
use Rattle.tablet_model.specs.Steps.{Event, apply, freeze, flush, compact, compact_all, finish, store_after}
use Rattle.tablet_model.specs.Store.{Store}
use Rattle.tablet_model.proofs.Merges.{all_append}
use Rattle.tablet_model.proofs.Sums.{all_weaker}
use Rattle.iter_config.specs.RulesOf.{rules_of}
use Rattle.iter_config.specs.Settings.{Settings}
use Rattle.scan_session.specs.Walks.{Walks, end_of, fetch_pieces}
use Rattle.scan_session.specs.declared.piece.Piece.{Piece}
use Rattle.scan_session.proofs.Walking.{fetches_are_walks, walks_bounded, walks_join, walks_lower, walks_on}
use Rattle.script_text.specs.Grammar.{line_of}
use Rattle.script_text.specs.SessionAnswers.{opened_line, renewed_line, rest_line}
use Rattle.script_text.specs.declared.line.Line.{Line}
use Rattle.script_text.specs.declared.line.Line.TheVariants.{Nothing, Step, Scan, Session, Status}
use Rattle.script_text.specs.declared.line.SessionStep.{SessionStep}
use Rattle.script_text.specs.declared.line.SessionStep.TheVariants.{Open, Fetch, Renew, Drop, Close}
use Rattle.tablet_steps.specs.Texts.{refusal_line}
use Rattle.tablet_steps.specs.ModelSteps.{event_of}
use Rattle.tablet_steps.specs.declared.refusal.LineRefusal.TheVariants.{NoSession, SessionOpen}
use Rattle.tablet_view.specs.Extending.{BeginsWith}
use Rattle.tablet_view.proofs.Logs.{begins_length, begins_refl, begins_trans}
use Rattle.tablet_replay.specs.Headline.{behind_lines, piece_given, given_step, given_by, given_along, is_close, ends_session, NoneEnds, HasScanned, AnswersStandInOrder, ScansAreWhole, OpeningsCover, RenewalsCover, FetchesSayTheirPieces, SessionsWalk, asks_store, StepsChangeNoAnswer}
use Rattle.tablet_replay.specs.Replay.{Replayed, after_line, after_session_step, after_step, line_answer, log_behind, opened_scan, replayed_none, script_answers, session_text}
use Rattle.tablet_replay.specs.Sessions.{OpenScan, fetch_text, find_session, next_entries, scan_answer, session_behind, session_rest, with_session, without_session}
use Rattle.tablet_replay.proofs.Firsts.{all_with, all_without, first_added, first_has, first_passes, first_passing, first_set, first_stays, get_is, remove_beside, remove_is, set_beside, set_is, with_first}
use Rattle.tablet_replay.proofs.OpenSessions.{pieces_are}

-- ---- the session of a number

abbrev has_number : ℕ → OpenScan → Bool
has_number number s = s.number == number

find_is : (number : ℕ) (ss : List OpenScan) → find_session number ss ≡ first_passing (has_number number) ss
find_is number ss = get_is (has_number number) ss

-- a session of one number is not of another
apart : (number k : ℕ) → (k == number) ≡ false → (s : OpenScan) → has_number k s ≡ true → has_number number s ≡ false
apart number k e s h = ap (λ z. z == number) (eqb-true s.number k h) ∙ e

numbered : (number : ℕ) (ss : List OpenScan) (s : OpenScan) → find_session number ss ≡ Some s → has_number number s ≡ true
numbered number ss s h = first_passes (has_number number) ss s (sym (find_is number ss) ∙ h)

-- what becomes of the open sessions
abbrev changed : ℕ → (OpenScan → OpenScan) → List OpenScan → Option OpenScan → List OpenScan
changed k change ss o = elim o [ None ↦ ss | Some s ↦ with_session k (change s) ss ]

own_changed : (number : ℕ) (change : OpenScan → OpenScan) (ss : List OpenScan) (s : OpenScan) → find_session number ss ≡ Some s
    → has_number number (change s) ≡ true → find_session number (changed number change ss (find_session number ss)) ≡ Some (change s)
own_changed number change ss s h own =
    ap (λ o. find_session number (changed number change ss o)) h
    ∙ ap (find_session number) (set_is (has_number number) (change s) ss)
    ∙ find_is number (with_first (has_number number) (change s) ss)
    ∙ first_set (has_number number) (change s) own ss s (sym (find_is number ss) ∙ h)

other_changed : (number k : ℕ) → (k == number) ≡ false → (change : OpenScan → OpenScan) → ((s : OpenScan) → (change s).number ≡ s.number) → (ss : List OpenScan)
    → find_session number (changed k change ss (find_session k ss)) ≡ find_session number ss
other_changed number k e change keeps ss = by_answer (find_session k ss) refl
  where
    by_answer : (o : Option OpenScan) → find_session k ss ≡ o → find_session number (changed k change ss o) ≡ find_session number ss
    by_answer None h = refl
    by_answer (Some s) h =
        ap (find_session number) (set_is (has_number k) (change s) ss)
        ∙ find_is number (with_first (has_number k) (change s) ss)
        ∙ set_beside (has_number number) (has_number k) (apart number k e) (change s)
        (ap (λ z. z == number) (keeps s) ∙ apart number k e s (numbered k ss s h)) ss
        ∙ sym (find_is number ss)

other_closed : (number k : ℕ) → (k == number) ≡ false → (ss : List OpenScan) → find_session number (without_session k ss) ≡ find_session number ss
other_closed number k e ss =
    ap (find_session number) (remove_is (has_number k) ss)
    ∙ find_is number _
    ∙ remove_beside (has_number number) (has_number k) (apart number k e) ss
    ∙ sym (find_is number ss)

abbrev opened : ℕ → OpenScan → List OpenScan → Option OpenScan → List OpenScan
opened k new ss o = cond (is_some o) ss (ss ++ new ∷ [])

still_found : (number : ℕ) (new s : OpenScan) (ss : List OpenScan) (b : Bool) → find_session number ss ≡ Some s
    → find_session number (cond b ss (ss ++ new ∷ [])) ≡ Some s
still_found number new s ss true h = h
still_found number new s ss false h =
    find_is number (ss ++ new ∷ []) ∙ first_stays (has_number number) ss (new ∷ []) s (sym (find_is number ss) ∙ h)

-- ---- the history

log_grows : (config : Settings) (log : List RowChange) (e : Event) → BeginsWith (log_behind config log e) log
unfolding log_behind
log_grows config log (apply m) = by_answer (is_some (ingest (rules_of config) (length log) m))
  where
    by_answer : (b : Bool) → BeginsWith (cond b log (log ++ m ∷ [])) log
    by_answer true = begins_refl log
    by_answer false = record { rest = m ∷ []; whole = refl }
log_grows config log freeze = begins_refl log
log_grows config log flush = begins_refl log
log_grows config log (compact j ids) = begins_refl log
log_grows config log (compact_all j) = begins_refl log
log_grows config log (finish j) = begins_refl log

-- ---- each session's number of mutations has come in

abbrev IsThere : List RowChange → OpenScan → Type 0
IsThere log s = s.n ≤ length log

abbrev AreThere : Replayed → Type 0
AreThere r = AllByRecursion (IsThere r.log) r.sessions

there_changed : (k : ℕ) (change : OpenScan → OpenScan) (log : List RowChange) (ss : List OpenScan) → ((s : OpenScan) → IsThere log s → IsThere log (change s))
    → AllByRecursion (IsThere log) ss → AllByRecursion (IsThere log) (changed k change ss (find_session k ss))
there_changed k change log ss keeps all = by_answer (find_session k ss) refl
  where
    by_answer : (o : Option OpenScan) → find_session k ss ≡ o → AllByRecursion (IsThere log) (changed k change ss o)
    by_answer None h = all
    by_answer (Some s) h =
        subst (AllByRecursion (IsThere log)) (sym (set_is (has_number k) (change s) ss))
        (all_with (has_number k) (IsThere log) (change s) (keeps s (first_has (has_number k) (IsThere log) ss s all (sym (find_is k ss) ∙ h))) ss all)

there_step : (r : Replayed) (k : ℕ) (step : SessionStep) → AreThere r → AreThere (after_session_step r k step)
unfolding after_session_step
there_step r k (Open range families isolated) all = by_answer (is_some (find_session k r.sessions))
  where
    by_answer : (b : Bool) → AllByRecursion (IsThere r.log) (cond b r.sessions (r.sessions ++ opened_scan r k range families isolated ∷ []))
    by_answer true = all
    by_answer false = all_append (IsThere r.log) r.sessions (opened_scan r k range families isolated ∷ []) all (le_refl (length r.log), tt)
there_step r k (Fetch count) all = there_changed k (session_behind r.config r.log count) r.log r.sessions (λ s h. h) all
there_step r k Renew all = there_changed k (λ s. record s { n = length r.log }) r.log r.sessions (λ s h. le_refl (length r.log)) all
there_step r k Drop all = all
there_step r k Close all =
    subst (AllByRecursion (IsThere r.log)) (sym (remove_is (has_number k) r.sessions)) (all_without (has_number k) (IsThere r.log) r.sessions all)

there_line : (r : Replayed) (line : Option Line) → AreThere r → AreThere (after_line r line)
unfolding after_line
there_line r None all = all
there_line r (Some Nothing) all = all
there_line r (Some (Step event)) all =
    let log : List RowChange = log_behind r.config r.log (event_of event) in
    all_weaker (IsThere r.log) (IsThere log) (λ s h. le_trans h (begins_length log r.log (log_grows r.config r.log (event_of event)))) r.sessions all
there_line r (Some (Scan range families)) all = all
there_line r (Some (Session k step)) all = there_step r k step all
there_line r (Some Status) all = all

there_lines : (r : Replayed) (lines : List (List ℕ)) → AreThere r → AreThere (behind_lines r lines)
there_lines r [] all = all
there_lines r (line ∷ lines) all = there_lines (after_line r (line_of line)) lines (there_line r (line_of line) all)

-- ---- an open session along a script

abbrev Went : ℕ → Replayed → Replayed → OpenScan → List Piece → Type 0
Went number new old s pieces = (t : OpenScan) × (find_session number new.sessions ≡ Some t) × HasScanned new old t s pieces

-- it gives nothing and stays
stays : (number : ℕ) (new old : Replayed) (s : OpenScan) → new.config ≡ old.config → BeginsWith new.log old.log → IsThere old.log s
    → find_session number new.sessions ≡ Some s → Went number new old s []
stays number new old s config log there found = (
  s,
  found,
  record {
    range = refl;
    families = refl;
    mode = refl;
    config = config;
    log = log;
    never_falls = le_refl s.n;
    there = le_trans there (begins_length new.log old.log log);
    last = s.n;
    walk = (refl, refl);
  },
)

-- the pieces that a step of its own gives it
own_given : Replayed → OpenScan → SessionStep → List Piece
own_given r s (Fetch count) = piece_given r count (Some s)
own_given r s _ = []

own_step : (r : Replayed) (number : ℕ) (s : OpenScan) (step : SessionStep) → IsThere r.log s → find_session number r.sessions ≡ Some s → is_close step ≡ false
    → Went number (after_session_step r number step) r s (own_given r s step)
unfolding after_session_step own_given
own_step r number s (Open range families isolated) there found unended =
    stays number (after_session_step r number (Open range families isolated)) r s refl (begins_refl r.log) there
    (still_found number (opened_scan r number range families isolated) s r.sessions (is_some (find_session number r.sessions)) found)
own_step r number s (Fetch count) there found unended =
    let walk = fetches_are_walks (λ k. scan_answer r.config s.range s.families (take k r.log)) s.n s.mode s.place s.n s.n count (le_refl s.n) (le_refl s.n) in (
      session_behind r.config r.log count s,
      own_changed number (session_behind r.config r.log count) r.sessions s found (numbered number r.sessions s found),
      record {
        range = refl;
        families = refl;
        mode = refl;
        config = refl;
        log = begins_refl r.log;
        never_falls = le_refl s.n;
        there = there;
        last = walk.0;
        walk = walk.1;
      },
    )
own_step r number s Renew there found unended = (
  record s { n = length r.log },
  own_changed number (λ u. record u { n = length r.log }) r.sessions s found (numbered number r.sessions s found),
  record {
    range = refl;
    families = refl;
    mode = refl;
    config = refl;
    log = begins_refl r.log;
    never_falls = there;
    there = le_refl (length r.log);
    last = s.n;
    walk = (refl, refl);
  },
)
own_step r number s Drop there found unended = stays number r r s refl (begins_refl r.log) there found
own_step r number s Close there found unended = absurd (cc)

other_step : (r : Replayed) (number k : ℕ) (s : OpenScan) (step : SessionStep) → (k == number) ≡ false → IsThere r.log s → find_session number r.sessions ≡ Some s
    → Went number (after_session_step r k step) r s []
unfolding after_session_step
other_step r number k s (Open range families isolated) e there found =
    stays number (after_session_step r k (Open range families isolated)) r s refl (begins_refl r.log) there
    (still_found number (opened_scan r k range families isolated) s r.sessions (is_some (find_session k r.sessions)) found)
other_step r number k s (Fetch count) e there found =
    stays number (after_session_step r k (Fetch count)) r s refl (begins_refl r.log) there
    (other_changed number k e (session_behind r.config r.log count) (λ u. refl) r.sessions ∙ found)
other_step r number k s Renew e there found =
    stays number (after_session_step r k Renew) r s refl (begins_refl r.log) there
    (other_changed number k e (λ u. record u { n = length r.log }) (λ u. refl) r.sessions ∙ found)
other_step r number k s Drop e there found = stays number r r s refl (begins_refl r.log) there found
other_step r number k s Close e there found =
    stays number (after_session_step r k Close) r s refl (begins_refl r.log) there (other_closed number k e r.sessions ∙ found)

given_own : (r : Replayed) (number k : ℕ) (s : OpenScan) (step : SessionStep) → (k == number) ≡ true → find_session number r.sessions ≡ Some s
    → given_step number r k step ≡ own_given r s step
unfolding own_given
given_own r number k s (Open range families isolated) e found = refl
given_own r number k s (Fetch count) e found = λ i. cond (e i) (piece_given r count (found i)) []
given_own r number k s Renew e found = refl
given_own r number k s Drop e found = refl
given_own r number k s Close e found = refl

given_other : (r : Replayed) (number k : ℕ) (step : SessionStep) → (k == number) ≡ false → given_step number r k step ≡ []
given_other r number k (Open range families isolated) e = refl
given_other r number k (Fetch count) e = ap (λ b. cond b (piece_given r count (find_session number r.sessions)) []) e
given_other r number k Renew e = refl
given_other r number k Drop e = refl
given_other r number k Close e = refl

one_step : (r : Replayed) (number k : ℕ) (s : OpenScan) (step : SessionStep) → IsThere r.log s → find_session number r.sessions ≡ Some s
    → cond (k == number) (is_close step) false ≡ false → Went number (after_session_step r k step) r s (given_step number r k step)
one_step r number k s step there found unended = by_answer (k == number) refl
  where
    by_answer : (b : Bool) → (k == number) ≡ b → Went number (after_session_step r k step) r s (given_step number r k step)
    by_answer true e =
        let same : number ≡ k = sym (eqb-true k number e) in
        let close : is_close step ≡ false = sym (ap (λ b. cond b (is_close step) false) e) ∙ unended in
        subst (Went number (after_session_step r k step) r s) (sym (given_own r number k s step e found))
        (subst (λ j. Went number (after_session_step r j step) r s (own_given r s step)) same (own_step r number s step there found close))
    by_answer false e =
        subst (Went number (after_session_step r k step) r s) (sym (given_other r number k step e)) (other_step r number k s step e there found)

one_line : (r : Replayed) (number : ℕ) (s : OpenScan) (line : Option Line) → IsThere r.log s → find_session number r.sessions ≡ Some s
    → ends_session number line ≡ false → Went number (after_line r line) r s (given_by number r line)
unfolding after_line
one_line r number s None there found unended = stays number r r s refl (begins_refl r.log) there found
one_line r number s (Some Nothing) there found unended = stays number r r s refl (begins_refl r.log) there found
one_line r number s (Some (Step event)) there found unended =
    stays number (after_step r (event_of event)) r s refl (log_grows r.config r.log (event_of event)) there found
one_line r number s (Some (Scan range families)) there found unended = stays number r r s refl (begins_refl r.log) there found
one_line r number s (Some (Session k step)) there found unended = one_step r number k s step there found unended
one_line r number s (Some Status) there found unended = stays number r r s refl (begins_refl r.log) there found

-- the first mutations of a longer history
first_of : (log earlier : List RowChange) → BeginsWith log earlier → (k : ℕ) → k ≤ length earlier → take k log ≡ take k earlier
first_of log earlier b k h = ap (take k) b.whole ∙ take-append-le k earlier b.rest h

joins : (new between old : Replayed) (u t s : OpenScan) (xs ys : List Piece) → HasScanned between old t s xs → HasScanned new between u t ys
    → HasScanned new old u s (xs ++ ys)
joins new between old u t s xs ys a b =
    let answers : ℕ → List Cell = λ k. scan_answer old.config s.range s.families (take k new.log) in
    let first = walks_on (λ k. scan_answer old.config s.range s.families (take k between.log)) answers t.n u.n s.mode s.place t.place s.n a.last xs
    (λ k h. ap (scan_answer old.config s.range s.families) (first_of new.log between.log b.log k (le_trans h a.there))) b.never_falls a.walk in
    let second = subst (λ m. Walks answers u.n m t.place t.n ys u.place b.last) a.mode
    (walks_on (λ k. scan_answer between.config t.range t.families (take k new.log)) answers u.n u.n t.mode t.place u.place t.n b.last ys
    (λ k h. λ i. scan_answer (sym a.config i) (sym a.range i) (sym a.families i) (take k new.log)) (le_refl u.n) b.walk) in
    let bound = walks_bounded (λ k. scan_answer old.config s.range s.families (take k between.log)) t.n s.mode s.place t.place s.n a.last xs a.never_falls a.walk in
    let lower = walks_lower answers u.n s.mode t.place u.place t.n a.last b.last ys bound.1 second in
    record {
      range = b.range ∙ a.range;
      families = b.families ∙ a.families;
      mode = b.mode ∙ a.mode;
      config = b.config ∙ a.config;
      log = begins_trans new.log between.log old.log b.log a.log;
      never_falls = le_trans a.never_falls b.never_falls;
      there = b.there;
      last = lower.0;
      walk = walks_join answers u.n s.mode s.place t.place u.place s.n a.last lower.0 xs ys first lower.2;
    }

along : (r : Replayed) (number : ℕ) (s : OpenScan) (lines : List (List ℕ)) → AreThere r → find_session number r.sessions ≡ Some s → NoneEnds number lines
    → Went number (behind_lines r lines) r s (given_along number r lines)
along r number s [] all found unended =
    stays number r r s refl (begins_refl r.log) (first_has (has_number number) (IsThere r.log) r.sessions s all (sym (find_is number r.sessions) ∙ found)) found
along r number s (line ∷ lines) all found unended =
    let next : Replayed = after_line r (line_of line) in
    let one = one_line r number s (line_of line) (first_has (has_number number) (IsThere r.log) r.sessions s all (sym (find_is number r.sessions) ∙ found)) found unended.0 in
    let rest = along next number one.0 lines (there_line r (line_of line) all) one.1 unended.1 in
    (rest.0, rest.1, joins (behind_lines next lines) next r rest.0 one.0 s (given_by number r (line_of line)) (given_along number next lines) one.2 rest.2)

pub sessions_walk : SessionsWalk
sessions_walk config before lines number s found unended =
    along (behind_lines (replayed_none config) before) number s lines (there_lines (replayed_none config) before tt) found unended

-- ---- what each line says

pub answers_in_order : AnswersStandInOrder
answers_in_order r [] line lines = refl
answers_in_order r (b ∷ bs) line lines =
    let next : Replayed = after_line r (line_of b) in
    ap (λ l. line_answer r (line_of b) ++ l) (answers_in_order next bs line lines)
    ∙ sym (append_assoc (line_answer r (line_of b)) (script_answers next bs)
    (line_answer (behind_lines next bs) (line_of line) ++ script_answers (behind_lines next (bs ++ line ∷ [])) lines))

pub scans_are_whole : ScansAreWhole
unfolding line_answer
scans_are_whole r range families = refl

pub openings_cover : OpeningsCover
unfolding line_answer after_line session_text after_session_step
openings_cover r number range families isolated none =
    let new : OpenScan = opened_scan r number range families isolated in (
      ap (λ (o : Option OpenScan). cond (is_some o) (refusal_line (SessionOpen number)) (opened_line number (length r.log))) none,
      ap (λ (o : Option OpenScan). find_session number (cond (is_some o) r.sessions (r.sessions ++ new ∷ []))) none
          ∙ find_is number (r.sessions ++ new ∷ [])
          ∙ first_added (has_number number) new (eq-eqb number number refl) r.sessions (sym (find_is number r.sessions) ∙ none),
    )

-- what is said of an open session
said : (number : ℕ) (text : OpenScan → List ℕ) (o : Option OpenScan) (s : OpenScan) → o ≡ Some s
    → elim o as (λ z. List ℕ) [ None ↦ refusal_line (NoSession number) | Some u ↦ text u ] ≡ text s
said number text o s h = ap (λ (z : Option OpenScan). elim z as (λ y. List ℕ) [ None ↦ refusal_line (NoSession number) | Some u ↦ text u ]) h

pub renewals_cover : RenewalsCover
unfolding line_answer after_line session_text after_session_step
renewals_cover r number s found = (
  said number (λ u. renewed_line number (length r.log)) (find_session number r.sessions) s found,
  own_changed number (λ u. record u { n = length r.log }) r.sessions s found (numbered number r.sessions s found),
)

pub fetches_say : FetchesSayTheirPieces
unfolding line_answer session_text fetch_pieces
fetches_say r number count s found =
    said number (fetch_text r.config r.log count) (find_session number r.sessions) s found
    ∙ ap (λ l. l ++ rest_line (end_of s.n (session_rest r.config r.log (session_behind r.config r.log count s))))
    (sym (pieces_are s.n (next_entries r.config r.log count s)))

-- ---- the store

session_beside : (r : Replayed) (u : Store) (k : ℕ) (step : SessionStep)
    → after_session_step (record r { store = u }) k step ≡ record (after_session_step r k step) { store = u }
unfolding after_session_step
session_beside r u k (Open range families isolated) = refl
session_beside r u k (Fetch count) = refl
session_beside r u k Renew = refl
session_beside r u k Drop = refl
session_beside r u k Close = refl

-- a line leaves the same but for the store
beside_store : (r : Replayed) (u : Store) (line : Option Line) → (v : Store) × (after_line (record r { store = u }) line ≡ record (after_line r line) { store = v })
unfolding after_line
beside_store r u None = (u, refl)
beside_store r u (Some Nothing) = (u, refl)
beside_store r u (Some (Step event)) = (store_after (rules_of r.config) u (event_of event), refl)
beside_store r u (Some (Scan range families)) = (u, refl)
beside_store r u (Some (Session k step)) = (u, session_beside r u k step)
beside_store r u (Some Status) = (u, refl)

beside_lines : (r : Replayed) (u : Store) (lines : List (List ℕ)) → (v : Store) × (behind_lines (record r { store = u }) lines ≡ record (behind_lines r lines) { store = v })
beside_lines r u [] = (u, refl)
beside_lines r u (line ∷ lines) =
    let one = beside_store r u (line_of line) in
    let rest = beside_lines (after_line r (line_of line)) one.0 lines in
    (rest.0, ap (λ t. behind_lines t lines) one.1 ∙ rest.1)

step_beside : (r : Replayed) (u : Store) (k : ℕ) (step : SessionStep) → session_text (record r { store = u }) k step ≡ session_text r k step
unfolding session_text
step_beside r u k (Open range families isolated) = refl
step_beside r u k (Fetch count) = refl
step_beside r u k Renew = refl
step_beside r u k Drop = refl
step_beside r u k Close = refl

answer_beside : (r : Replayed) (u : Store) (line : Option Line) → asks_store line ≡ false → line_answer (record r { store = u }) line ≡ line_answer r line
unfolding line_answer
answer_beside r u None h = refl
answer_beside r u (Some Nothing) h = refl
answer_beside r u (Some (Step event)) h = absurd (cc)
answer_beside r u (Some (Scan range families)) h = refl
answer_beside r u (Some (Session k step)) h = step_beside r u k step
answer_beside r u (Some Status) h = absurd (cc)

pub steps_change_none : StepsChangeNoAnswer
steps_change_none r e lines line same h =
    let u : Store = store_after (rules_of r.config) r.store e in
    let here : after_step r e ≡ record r { store = u } = ap (λ l. record r { log = l; store = u }) same in
    let rest = beside_lines r u lines in
    ap (λ t. line_answer (behind_lines t lines) line) here
    ∙ ap (λ t. line_answer t line) rest.1
    ∙ answer_beside (behind_lines r lines) rest.0 line h
