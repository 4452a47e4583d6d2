-- The entries of a history.
use Rattle.std.proofs.Common.{◌≡◌, ℕ, suc, ◌+◌, pos, List, [], ◌∷◌, ◌++◌, length, append-nil, append_assoc, sym, ap, ◌∙◌, arith}
use Rattle.tablet_model.specs.Order.{above}
use Rattle.tablet_model.specs.Sorted.{sorted, Ascends}
use Rattle.tablet_model.specs.Sum.{sum_of}
use Rattle.tablet_model.specs.History.{RowChange, entries_of, entries_from, history_entries}
use Rattle.tablet_model.proofs.Orders.{above_exact}
use Rattle.tablet_model.proofs.Sums.{Ascends-sorted, sorted_left}

pub history_ascends : (h : List RowChange) → Ascends above (history_entries h)
unfolding history_entries
history_ascends h = Ascends-sorted above above_exact (entries_from 0 h)

pub numbered_more : (k : ℕ) (h : List RowChange) (m : RowChange) → entries_from k (h ++ m ∷ []) ≡ entries_from k h ++ entries_of (pos (length h + k + 1)) m
numbered_more k [] m = append-nil (entries_of (pos (k + 1)) m) ∙ ap (λ n. entries_of (pos (n + 1)) m) start
  where
    start : k ≡ 0 + k
    start = omega arith
numbered_more k (x ∷ xs) m =
    ap (λ l. entries_of (pos (k + 1)) x ++ l) (numbered_more (k + 1) xs m ∙ ap (λ n. entries_from (k + 1) xs ++ entries_of (pos (n + 1)) m) step)
    ∙ sym (append_assoc (entries_of (pos (k + 1)) x) (entries_from (k + 1) xs) (entries_of (pos (suc (length xs) + k + 1)) m))
  where
    step : length xs + (k + 1) ≡ suc (length xs) + k
    step = omega arith

pub history_grows : (h : List RowChange) (m : RowChange) → history_entries (h ++ m ∷ []) ≡ sum_of (history_entries h) (entries_of (pos (length h + 1)) m)
unfolding history_entries sum_of
history_grows h m =
    ap (sorted above) (numbered_more 0 h m ∙ ap (λ n. entries_from 0 h ++ entries_of (pos (n + 1)) m) none)
    ∙ sym (sorted_left above above_exact (entries_from 0 h) (entries_of (pos (length h + 1)) m))
  where
    none : length h + 0 ≡ length h
    none = omega arith
