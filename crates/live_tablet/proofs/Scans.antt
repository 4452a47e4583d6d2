-- What a scan has given goes on, and is one walk over each log that begins with that of its view.
use Rattle.std.proofs.Common.{◌≡◌, ℕ, ◌≤◌, Bool, true, false, List, [], ◌∷◌, ◌++◌, Option, Some, None, All, length, take, refl, sym, ap, subst, ◌∙◌, le_trans, le_refl, append_assoc, append-nil}
use Rattle.std.proofs.Math.Seq.{take-length}
use Rattle.std.proofs.lemmas.List.{take-append-le}
use Rattle.std.proofs.lemmas.List.Elements.{All-nil, All-append}
use Rattle.tablet_model.specs.Answers.{answer}
use Rattle.tablet_model.specs.Cell.{Cell}
use Rattle.tablet_model.specs.History.{RowChange}
use Rattle.tablet_model.specs.Places.{Start, after}
use Rattle.tablet_model.specs.Stages.{stages}
use Rattle.iter_config.specs.Settings.{Settings}
use Rattle.iter_config.specs.Stages.{stages_of}
use Rattle.tablet_view.specs.Extending.{BeginsWith, Extends}
use Rattle.tablet_view.specs.Snapshot.{Snapshot}
use Rattle.tablet_view.proofs.Logs.{begins_length}
use Rattle.scan_session.specs.ScanCalls.{all_pieces}
use Rattle.scan_session.specs.Sessions.{SessionState, HasWalked, IsSameScan, TakesEnough, answer_over, answers_of, left_of, number_of}
use Rattle.scan_session.specs.Takes.{Mode}
use Rattle.scan_session.specs.Walks.{Walks, end_of}
use Rattle.scan_session.specs.declared.piece.Fetched.{Fetched}
use Rattle.scan_session.specs.declared.piece.Piece.{Piece}
use Rattle.scan_session.proofs.SessionWalks.{staying}
use Rattle.scan_session.proofs.Turns.{fetch_has_walked, no_end, told_end, walked_on}
use Rattle.scan_session.proofs.Walking.{walks_bounded, walks_lower, walks_on}
use Rattle.live_tablet.specs.Scans.{HasScanned, IsScanOver, IsWithin, all_keys, start_over, whole_answer}
use Rattle.live_tablet.proofs.Bounds.{pieces_within}

-- a scan that gave nothing
pub scans_nothing : (view : Snapshot) (mode : Mode) (batch : ℕ) → HasScanned (length view.log) batch (start_over view mode) [] None
scans_nothing view mode batch = record {
  first = view;
  begins = refl;
  walked = staying (start_over view mode);
  within = All-nil (IsWithin mode batch);
  end = no_end (start_over view mode) None refl;
}

all_pushed : (fs : List Fetched) (f : Fetched) → all_pieces (fs ++ f ∷ []) ≡ all_pieces fs ++ f.pieces
all_pushed [] f = append-nil f.pieces
all_pushed (g ∷ fs) f = ap (λ l. g.pieces ++ l) (all_pushed fs f) ∙ sym (append_assoc g.pieces (all_pieces fs) f.pieces)

-- one fetch more
pub scans_on : (new old : SessionState) (least batch : ℕ) (fs gs : List Fetched) (f : Fetched) (was : Option ℕ) → gs ≡ fs ++ f ∷ []
    → HasScanned least batch old (all_pieces fs) was → IsSameScan new old → Extends new.view old.view
    → (l : ℕ) × Walks (answers_of new) (number_of new) new.mode old.place (number_of old) f.pieces new.place l → TakesEnough batch new f.pieces
    → f.ended ≡ end_of (number_of new) (left_of new) → HasScanned least batch new (all_pieces gs) f.ended
scans_on new old least batch fs gs f was e before same extends walk takes ended = record {
  first = before.first;
  begins = before.begins;
  walked = subst (λ m. HasWalked new (start_over before.first m) (all_pieces gs)) (sym same.mode)
      (walked_on new old (start_over before.first old.mode) fs gs f e before.walked (fetch_has_walked new old f.pieces same extends walk));
  within = subst (All (IsWithin new.mode batch)) (sym (ap all_pieces e ∙ all_pushed fs f))
      (All-append (IsWithin new.mode batch) (all_pieces fs) f.pieces (subst (λ m. All (IsWithin m batch) (all_pieces fs)) (sym same.mode) before.within)
      (pieces_within batch new f.pieces takes));
  end = told_end new f.ended ended;
}

-- over a log that begins with that of its view, a session answers over the first mutations what it answers over its own
same_answers : (s : SessionState) (c : Settings) (log : List RowChange) → c ≡ s.view.config → s.range ≡ all_keys → s.families ≡ None
    → BeginsWith log s.view.log → (k : ℕ) → k ≤ number_of s → whole_answer c (take k log) ≡ answers_of s k
same_answers s c log config range families begins k low =
    let logs : take k log ≡ take k s.view.log = rw begins.whole (take-append-le k s.view.log begins.rest low) in
    ap (λ x. answer (stages (stages_of x)) all_keys None (take k log)) config
    ∙ ap (λ r. answer (stages (stages_of s.view.config)) r None (take k log)) (sym range)
    ∙ ap (λ f. answer (stages (stages_of s.view.config)) s.range f (take k log)) (sym families)
    ∙ ap (answer_over s) logs

-- a scan that has ended is a whole one over such a log, and from each lower number on
pub scan_is_over : (s : SessionState) (c : Settings) (log : List RowChange) (batch least low n : ℕ) (pieces : List Piece)
    → HasScanned least batch s pieces (Some n) → low ≤ least → c ≡ s.view.config → BeginsWith log s.view.log
    → IsScanOver c log s.mode batch low pieces n
scan_is_over s c log batch least low n pieces scan lower config begins =
    let walked = scan.walked in
    let first : ℕ = length scan.first.log in
    let same = same_answers s c log config walked.same.range walked.same.families begins in
    let longer : number_of s ≤ length log = begins_length log s.view.log begins in
    let bound = walks_bounded (answers_of s) (number_of s) s.mode Start s.place first walked.last pieces (begins_length s.view.log scan.first.log walked.log) walked.walk in
    let from = walks_lower (answers_of s) (number_of s) s.mode Start s.place first low walked.last pieces (subst (λ k. low ≤ k) scan.begins lower) walked.walk in
    let told = scan.end n refl in
    record {
      place = s.place;
      last = from.0;
      walk = walks_on (answers_of s) (λ k. whole_answer c (take k log)) (number_of s) (length log) s.mode Start s.place low from.0 pieces same longer from.2;
      end = record {
        later = subst (λ k. from.0 ≤ k) (sym told.0) (le_trans from.1 bound.1);
        bound = subst (λ k. k ≤ length log) (sym told.0) longer;
        nothing = ap (λ k. after s.place (whole_answer c (take k log))) told.0
            ∙ ap (after s.place) (same (number_of s) (le_refl (number_of s)) ∙ ap (answer_over s) (take-length s.view.log))
            ∙ told.1;
      };
      within = scan.within;
    }
