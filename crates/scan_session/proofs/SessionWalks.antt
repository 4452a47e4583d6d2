-- What a session's calls in a row give.
use Rattle.std.proofs.Common.{◌≡◌, ℕ, ◌≤◌, List, [], ◌∷◌, ◌++◌, length, take, Option, refl, sym, ap, ◌∙◌, subst, le_refl, append-nil}
use Rattle.std.proofs.Math.Seq.{take-length}
use Rattle.std.proofs.lemmas.List.{take-append-le}
use Rattle.tablet_model.specs.Answers.{answer, scan_of}
use Rattle.tablet_model.specs.Cell.{Cell}
use Rattle.tablet_model.specs.Cuts.{Span, holds}
use Rattle.tablet_model.specs.Families.{in_families, is_in}
use Rattle.tablet_model.specs.History.{RowChange, history_entries}
use Rattle.tablet_model.specs.Markers.{live}
use Rattle.tablet_model.specs.Order.{above}
use Rattle.tablet_model.specs.Places.{Place, after}
use Rattle.tablet_model.specs.Sorted.{Ascends}
use Rattle.tablet_model.specs.Stages.{stage, stages}
use Rattle.tablet_model.proofs.Histories.{history_ascends}
use Rattle.tablet_model.proofs.OneColumn.{Ascends-live}
use Rattle.tablet_model.proofs.Orders.{above_exact}
use Rattle.tablet_model.proofs.Risings.{Ascends-combined, Ascends-filtered, Ascends-versions}
use Rattle.tablet_model.proofs.Sums.{Ascends-filter}
use Rattle.cell_key.specs.Listed.{column_listed, listed_of_columns}
use Rattle.iter_config.specs.Predicates.{keeps}
use Rattle.iter_config.specs.Settings.{Settings}
use Rattle.iter_config.specs.Stages.{stage_list, stage_of, stages_of}
use Rattle.iter_config.specs.declared.iter_spec.IterSpec.{IterSpec}
use Rattle.iter_config.specs.declared.iter_spec.Kind.{Kind}
use Rattle.iter_config.specs.declared.iter_spec.Kind.TheVariants.{Filter, Versions, Combine, WholeRow, Intersecting}
use Rattle.iter_config.proofs.FilterStages.{filter_is}
use Rattle.whole_row.specs.RowLaws.{Ascends-whole_rows}
use Rattle.intersecting.specs.IntersectLaws.{Ascends-intersected}
use Rattle.tablet_view.specs.Extending.{BeginsWith}
use Rattle.tablet_view.proofs.Logs.{begins_length, begins_refl, begins_trans}
use Rattle.scan_session.specs.SessionLaws.{AnswersStandInOrder, StayingWalks, RenewalsWalk, SessionsGoOn, SessionsWalkOverHistories, SessionsAreWhole}
use Rattle.scan_session.specs.Sessions.{SessionState, IsSameScan, answer_over, answers_of, number_of}
use Rattle.scan_session.specs.Walks.{Walks, entries_of_pieces}
use Rattle.scan_session.specs.declared.piece.Piece.{Piece}
use Rattle.scan_session.proofs.Walking.{begin_answer, walks_join, walks_on, walks_lower, walks_bounded}

-- each iterator keeps a list in order
pub kind_ascends : (kind : Kind) (list : List Cell) → Ascends above list → Ascends above (stage (stage_of kind) list)
unfolding stage
kind_ascends (Filter p negate) list up =
    filter_is (λ s. Ascends above (stage s list)) p negate (λ e. Ascends-filtered (keeps p negate) list up) (λ e. Ascends-filtered (keeps p negate) list up)
kind_ascends (Versions max) list up = Ascends-versions max list up
kind_ascends (Combine op columns encoding deletes) list up =
    Ascends-combined (column_listed columns) (listed_of_columns columns) _ list up
kind_ascends WholeRow list up = Ascends-whole_rows list up
kind_ascends (Intersecting terms without) list up = Ascends-intersected terms without list up

all_ascend : (specs : List IterSpec) (list : List Cell) → Ascends above list → Ascends above (stages (stage_list specs) list)
unfolding stages
all_ascend [] list up = up
all_ascend (s ∷ ss) list up = all_ascend ss (stage (stage_of s.kind) list) (kind_ascends s.kind list up)

-- what a scan answers is in order
pub scan_ascends : (c : Settings) (range : Span) (families : Option (List (List ℕ))) (log : List RowChange)
    → Ascends above (answer (stages (stages_of c)) range families log)
unfolding answer scan_of
scan_ascends c range families log =
    Ascends-filter above above_exact (λ e. holds range e.key) (stages (stages_of c) (in_families families (live (history_entries log))))
    (all_ascend c.iterators (in_families families (live (history_entries log)))
    (Ascends-filter above above_exact (is_in families) (live (history_entries log)) (Ascends-live (history_entries log) (history_ascends log))))

pub answers_ascend : AnswersStandInOrder
answers_ascend s log = scan_ascends s.view.config s.range s.families log

pub staying : StayingWalks
staying s = record {
  same = record { config = refl; range = refl; families = refl; mode = refl };
  log = begins_refl s.view.log;
  last = number_of s;
  walk = (refl, refl);
}

pub renewing : RenewalsWalk
renewing s view config log = record {
  same = record { config = config; range = refl; families = refl; mode = refl };
  log = log;
  last = number_of s;
  walk = (refl, refl);
}

-- the first mutations of a longer log are those of the shorter one
first_of : (log earlier : List RowChange) → BeginsWith log earlier → (k : ℕ) → k ≤ length earlier → take k log ≡ take k earlier
first_of log earlier b k h = ap (take k) b.whole ∙ take-append-le k earlier b.rest h

-- the same scan answers alike over one log
same_answers : (new old : SessionState) → IsSameScan new old → (log : List RowChange) → answer_over new log ≡ answer_over old log
same_answers new old s log = λ i. answer (stages (stages_of (s.config i))) (s.range i) (s.families i) log

-- a walk over the log of a session is a walk over a longer log
walk_over : (s : SessionState) (log : List RowChange) (p q : Place) (n l : ℕ) (pieces : List Piece) → BeginsWith log s.view.log
    → Walks (answers_of s) (number_of s) s.mode p n pieces q l → Walks (λ k. answer_over s (take k log)) (length log) s.mode p n pieces q l
walk_over s log p q n l pieces b w =
    walks_on (answers_of s) (λ k. answer_over s (take k log)) (number_of s) (length log) s.mode p q n l pieces
    (λ k h. ap (answer_over s) (first_of log s.view.log b k h)) (begins_length log s.view.log b) w

-- and one of the same scan
walk_of_same : (new old : SessionState) (log : List RowChange) (p q : Place) (n l : ℕ) (pieces : List Piece) → IsSameScan new old
    → Walks (λ k. answer_over old (take k log)) (length log) old.mode p n pieces q l
    → Walks (λ k. answer_over new (take k log)) (length log) new.mode p n pieces q l
walk_of_same new old log p q n l pieces s w =
    subst (λ m. Walks (λ k. answer_over new (take k log)) (length log) m p n pieces q l) (sym s.mode)
    (walks_on (λ k. answer_over old (take k log)) (λ k. answer_over new (take k log)) (length log) (length log) old.mode p q n l pieces
    (λ k h. same_answers new old s (take k log)) (le_refl (length log)) w)

pub going_on : SessionsGoOn
going_on new between old xs ys a b =
    let early = (walks_bounded (answers_of between) (number_of between) between.mode old.place between.place (number_of old) a.last xs
    (begins_length between.view.log old.view.log a.log) a.walk).1 in
    let more = walks_lower (answers_of new) (number_of new) new.mode between.place new.place (number_of between) a.last b.last ys early b.walk in
    record {
      same = record {
        config = b.same.config ∙ a.same.config;
        range = b.same.range ∙ a.same.range;
        families = b.same.families ∙ a.same.families;
        mode = b.same.mode ∙ a.same.mode;
      };
      log = begins_trans new.view.log between.view.log old.view.log b.log a.log;
      last = more.0;
      walk = walks_join (answers_of new) (number_of new) new.mode old.place between.place new.place (number_of old) a.last more.0 xs ys
          (walk_of_same new between new.view.log old.place between.place (number_of old) a.last xs b.same
          (walk_over between new.view.log old.place between.place (number_of old) a.last xs b.log a.walk))
          more.2;
    }

back : (new old : SessionState) → IsSameScan new old → IsSameScan old new
back new old s = record { config = sym s.config; range = sym s.range; families = sym s.families; mode = sym s.mode }

pub over_histories : SessionsWalkOverHistories
over_histories new old pieces history w b = (
  w.last,
  walk_of_same old new history old.place new.place (number_of old) w.last pieces (back new old w.same)
      (walk_over new history old.place new.place (number_of old) w.last pieces b w.walk),
)

pub whole_sessions : SessionsAreWhole
whole_sessions new old pieces up w start nothing at =
    let all : answers_of new (number_of new) ≡ answer_over new new.view.log = ap (answer_over new) (take-length new.view.log) in
    let begun = begin_answer (answers_of new) (number_of new) new.mode new.place (number_of old) (number_of new) w.last pieces
    (up (take (number_of new) new.view.log)) at
    (subst (λ p. Walks (answers_of new) (number_of new) new.mode p (number_of old) pieces new.place w.last) start w.walk) in
    sym (sym all
    ∙ begun
    ∙ ap (λ list. entries_of_pieces pieces ++ after new.place list) all
    ∙ ap (λ list. entries_of_pieces pieces ++ list) nothing
    ∙ append-nil (entries_of_pieces pieces))
