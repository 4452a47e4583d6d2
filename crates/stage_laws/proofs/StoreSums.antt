-- The sum of all parts, step by step.
use Rattle.std.proofs.Common.{◌≡◌, ℕ, List, ◌++◌, sym, ap, ◌∙◌, subst, append_assoc}
use Rattle.tablet_model.specs.Accepted.{AreAccepted, AreDeletable}
use Rattle.tablet_model.specs.Ages.{AreApart, AreNewer, HasPlainMarkers}
use Rattle.tablet_model.specs.Cell.{Cell}
use Rattle.tablet_model.specs.Compactions.{full_compaction, minor_compaction, partial_compaction, partial_stages}
use Rattle.tablet_model.specs.Markers.{live, mark}
use Rattle.tablet_model.specs.Order.{above}
use Rattle.tablet_model.specs.Reading.{AreUnmarkedRead}
use Rattle.tablet_model.specs.Rules.{AreSound, Rules}
use Rattle.tablet_model.specs.Sorted.{Ascends, sorted}
use Rattle.tablet_model.specs.Stages.{Stage, stages}
use Rattle.tablet_model.specs.Store.{File, cells_of, has_id, input_of, files_with, files_without}
use Rattle.tablet_model.specs.Sum.{sum_of}
use Rattle.tablet_model.proofs.Orders.{above_exact}
use Rattle.tablet_model.proofs.Regroup.{sorted_partition, sum_one}
use Rattle.tablet_model.proofs.Sums.{sorted_left, sorted_right}
use Rattle.stage_laws.proofs.Partial.{part}
use Rattle.stage_laws.proofs.Whole.{full, minor_plain}

-- a list added to the last part
pub sum_behind : (xs ys v : List Cell) → sorted above (xs ++ sum_of ys v) ≡ sum_of (sorted above (xs ++ ys)) v
unfolding sum_of
sum_behind xs ys v = sorted_right above above_exact xs (ys ++ v) ∙ ap (sorted above) (sym (append_assoc xs ys v)) ∙ sym (sorted_left above above_exact (xs ++ ys) v)

split : (ids : List ℕ) (files : List File) → sorted above (cells_of (files_with ids files) ++ cells_of (files_without ids files)) ≡ sorted above (cells_of files)
unfolding cells_of files_with files_without
split ids files = sorted_partition above above_exact (λ f. f.cells) (λ f. has_id ids f.id) files

-- a job's files and the others are all files
pub input_and_rest : (ids : List ℕ) (files : List File) (rest : List Cell) → sum_of (input_of ids files) (sorted above (cells_of (files_without ids files) ++ rest)) ≡ sorted above (cells_of files ++ rest)
unfolding sum_of input_of
input_and_rest ids files rest =
    let yes : List Cell = cells_of (files_with ids files) in
    let no : List Cell = cells_of (files_without ids files) in
    sorted_left above above_exact yes (sorted above (no ++ rest))
    ∙ sorted_right above above_exact yes (no ++ rest)
    ∙ ap (sorted above) (sym (append_assoc yes no rest))
    ∙ sym (sorted_left above above_exact (yes ++ no) rest)
    ∙ ap (λ l. sorted above (l ++ rest)) (split ids files)
    ∙ sorted_left above above_exact (cells_of files) rest

pub file_and_rest : (xs new rest : List Cell) → sorted above ((xs ++ new) ++ rest) ≡ sum_of new (sorted above (xs ++ rest))
file_and_rest xs new rest = ap (sorted above) (append_assoc xs new rest) ∙ sum_one xs new rest

-- the three laws, for the stages of a configuration
pub minor_unseen : (c : Rules) → AreSound c → (a x : List Cell) → Ascends above a → AreUnmarkedRead c.base a → AreUnmarkedRead c.base x → HasPlainMarkers c.plain x → AreApart c.plain x a → stages c.base (live (sum_of (minor_compaction c.minor a) x)) ≡ stages c.base (live (sum_of a x))
minor_unseen c law a x up ra rx mx h = at c.base law.minor_first.1 law.accepted ra rx
  where
    at : (ss : List Stage) → c.minor ++ law.minor_first.0 ≡ ss → AreAccepted ss → AreUnmarkedRead ss a → AreUnmarkedRead ss x → stages ss (live (sum_of (stages c.minor (mark a)) x)) ≡ stages ss (live (sum_of a x))
    at ss e = subst (λ ss. AreAccepted ss → AreUnmarkedRead ss a → AreUnmarkedRead ss x → stages ss (live (sum_of (stages c.minor (mark a)) x)) ≡ stages ss (live (sum_of a x))) e (λ acc ra rx. minor_plain c.plain law.plain_columns c.minor law.minor_first.0 a x acc up ra rx mx h)

pub partial_unseen : (c : Rules) → AreSound c → (a x : List Cell) → Ascends above a → AreUnmarkedRead c.base a → AreUnmarkedRead c.base x → AreDeletable c.major x → stages c.base (live (sum_of (partial_compaction c.major a) x)) ≡ stages c.base (live (sum_of a x))
partial_unseen c law a x up ra rx h = at c.base law.major_first.1 law.accepted ra rx
  where
    at : (ss : List Stage) → c.major ++ law.major_first.0 ≡ ss → AreAccepted ss → AreUnmarkedRead ss a → AreUnmarkedRead ss x → stages ss (live (sum_of (stages (partial_stages c.major) (mark a)) x)) ≡ stages ss (live (sum_of a x))
    at ss e = subst (λ ss. AreAccepted ss → AreUnmarkedRead ss a → AreUnmarkedRead ss x → stages ss (live (sum_of (stages (partial_stages c.major) (mark a)) x)) ≡ stages ss (live (sum_of a x))) e (λ acc ra rx. part c.major law.major_first.0 a x acc law.not_newest up ra rx h)

pub whole_unseen : (c : Rules) → AreSound c → (a x : List Cell) → Ascends above a → AreUnmarkedRead c.base a → AreUnmarkedRead c.base x → HasPlainMarkers c.plain a → HasPlainMarkers c.plain x → AreNewer c.plain x a → stages c.base (live (sum_of (full_compaction c.major a) x)) ≡ stages c.base (live (sum_of a x))
whole_unseen c law a x up ra rx ma mx h = at c.base law.major_first.1 law.accepted ra rx
  where
    at : (ss : List Stage) → c.major ++ law.major_first.0 ≡ ss → AreAccepted ss → AreUnmarkedRead ss a → AreUnmarkedRead ss x → stages ss (live (sum_of (stages c.major (live a)) x)) ≡ stages ss (live (sum_of a x))
    at ss e = subst (λ ss. AreAccepted ss → AreUnmarkedRead ss a → AreUnmarkedRead ss x → stages ss (live (sum_of (stages c.major (live a)) x)) ≡ stages ss (live (sum_of a x))) e (λ acc ra rx. full c.plain law.plain_columns c.major law.major_first.0 a x acc up ra rx ma mx h)
