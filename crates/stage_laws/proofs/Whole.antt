-- The laws of compactions, over all columns.
use Rattle.std.proofs.Common.{◌≡◌, ℕ, Option, Bool, true, false, List, [], ◌∷◌, ◌++◌, sym, ap, ◌∙◌, ◌⊎◌, inl, inr}
use Rattle.std.specs.List.{AllByRecursion, filter}
use Rattle.tablet_model.specs.Cell.{Cell, column_of}
use Rattle.tablet_model.specs.Families.{has_family, is_in}
use Rattle.tablet_model.specs.Order.{above, same_column}
use Rattle.tablet_model.specs.Sorted.{Ascends}
use Rattle.tablet_model.specs.Sum.{sum_of}
use Rattle.tablet_model.specs.Markers.{mark, live}
use Rattle.tablet_model.specs.Stages.{Stage, stages}
use Rattle.tablet_model.specs.Accepted.{IsOfColumns, KeepsKeys, AreAccepted}
use Rattle.tablet_model.specs.Reading.{IsReadBy, AreUnmarkedRead}
use Rattle.tablet_model.specs.Ages.{IsApart, AreApart, IsNewer, AreNewer, HasPlainMarkers}
use Rattle.tablet_model.proofs.Orders.{above_exact, exact_columns}
use Rattle.tablet_model.proofs.Sums.{all_filter, all_weaker, Ascends-filter}
use Rattle.tablet_model.proofs.Columns.{of_column, equal_by_columns, column-sum, column-live, column-mark}
use Rattle.tablet_model.proofs.OneColumn.{columns_tie, of_column_in, Ascends-live, Ascends-sum}
use Rattle.stage_laws.proofs.Parts.{column-stages, Ascends-stages, made_all, accepted_keys, accepted_first}
use Rattle.stage_laws.proofs.Restrictions.{live_commutes}
use Rattle.stage_laws.proofs.Marked.{AreSplit, minor_in, full_in, added_in, Beside, beside_newer}

-- the answer of a sum, column by column
column_answer : (ss : List Stage) → AllByRecursion KeepsKeys ss → (c : Cell) (a x : List Cell) → of_column c (stages ss (live (sum_of a x))) ≡ stages ss (live (sum_of (of_column c a) (of_column c x)))
column_answer ss k c a x = column-stages ss k c (live (sum_of a x)) ∙ ap (stages ss) (column-live c (sum_of a x) ∙ ap live (column-sum c a x))

Ascends-answer : (ss : List Stage) → AreAccepted ss → (a x : List Cell) → Ascends above (stages ss (live (sum_of a x)))
Ascends-answer ss acc a x = Ascends-stages ss (made_all ss acc) (live (sum_of a x)) (Ascends-live (sum_of a x) (Ascends-sum a x))

-- answers of two sums that agree in each column
pub equal_answers : (ss : List Stage) → AreAccepted ss → (a b x : List Cell) → ((c : Cell) → stages ss (live (sum_of (of_column c a) (of_column c x))) ≡ stages ss (live (sum_of (of_column c b) (of_column c x)))) → stages ss (live (sum_of a x)) ≡ stages ss (live (sum_of b x))
equal_answers ss acc a b x h = equal_by_columns (stages ss (live (sum_of a x))) (stages ss (live (sum_of b x))) (Ascends-answer ss acc a x) (Ascends-answer ss acc b x) (λ c. column_answer ss (accepted_keys ss acc) c a x ∙ h c ∙ sym (column_answer ss (accepted_keys ss acc) c b x))

pub read_column : (ss : List Stage) (c : Cell) (list : List Cell) → AreUnmarkedRead ss list → AreUnmarkedRead ss (of_column c list)
read_column ss c list h = all_filter (λ e. e.key.deleted ≡ false → AllByRecursion (IsReadBy e) ss) (same_column c) list h

newer_column : (plain : Cell → Bool) (c : Cell) (x a : List Cell) → AreNewer plain x a → AreNewer plain (of_column c x) (of_column c a)
newer_column plain c x a h = all_filter (λ e. plain e ≡ true → AllByRecursion (IsNewer e) (of_column c a)) (same_column c) x (all_weaker (λ e. plain e ≡ true → AllByRecursion (IsNewer e) a) (λ e. plain e ≡ true → AllByRecursion (IsNewer e) (of_column c a)) (λ e k p. all_filter (IsNewer e) (same_column c) a (k p)) x h)

-- in each column
beside_column : (plain : Cell → Bool) → IsOfColumns plain → (c : Cell) (x a : List Cell) → HasPlainMarkers plain x → HasPlainMarkers plain a → AreNewer plain x a → Beside (of_column c x) (of_column c a)
beside_column plain cols c x a mx ma newer = beside_newer plain cols c (of_column c x) (of_column c a) (of_column_in c x) (of_column_in c a) (all_filter (λ e. e.key.deleted ≡ true → plain e ≡ true) (same_column c) x mx) (all_filter (λ e. e.key.deleted ≡ true → plain e ≡ true) (same_column c) a ma) (newer_column plain c x a newer)

apart_column : (c : Cell) (x a : List Cell) → AreSplit x a → AreSplit (of_column c x) (of_column c a)
apart_column c x a h = all_filter (λ m. m.key.deleted ≡ true → AllByRecursion (IsNewer m) (of_column c a) ⊎ AllByRecursion (λ e. IsNewer e m) (of_column c a)) (same_column c) x
    (all_weaker (λ m. m.key.deleted ≡ true → AllByRecursion (IsNewer m) a ⊎ AllByRecursion (λ e. IsNewer e m) a) (λ m. m.key.deleted ≡ true → AllByRecursion (IsNewer m) (of_column c a) ⊎ AllByRecursion (λ e. IsNewer e m) (of_column c a)) (λ m k d. both m (k d)) x h)
  where
    both : (m : Cell) → AllByRecursion (IsNewer m) a ⊎ AllByRecursion (λ e. IsNewer e m) a → AllByRecursion (IsNewer m) (of_column c a) ⊎ AllByRecursion (λ e. IsNewer e m) (of_column c a)
    both m (inl k) = inl (all_filter (IsNewer m) (same_column c) a k)
    both m (inr k) = inr (all_filter (λ e. IsNewer e m) (same_column c) a k)

-- a part that a minor compaction took
minor : (ps qs : List Stage) (a x : List Cell) → AreAccepted (ps ++ qs) → Ascends above a → AreUnmarkedRead (ps ++ qs) a → AreUnmarkedRead (ps ++ qs) x → AreSplit x a → stages (ps ++ qs) (live (sum_of (stages ps (mark a)) x)) ≡ stages (ps ++ qs) (live (sum_of a x))
minor ps qs a x acc up ra rx apart = equal_answers (ps ++ qs) acc (stages ps (mark a)) a x (λ c.
    ap (λ l. stages (ps ++ qs) (live (sum_of l (of_column c x)))) (column-stages ps (accepted_first ps qs acc) c (mark a) ∙ ap (stages ps) (column-mark c a))
    ∙ minor_in ps qs c (of_column c a) (of_column c x) acc (of_column_in c a) (of_column_in c x) (Ascends-filter above above_exact (same_column c) a up) (read_column (ps ++ qs) c a ra) (read_column (ps ++ qs) c x rx) (apart_column c x a apart))

-- in columns where all markers are plain, it is enough to stand apart from the plain entries
split_plain : (plain : Cell → Bool) → IsOfColumns plain → (x a : List Cell) → HasPlainMarkers plain x → AreApart plain x a → AreSplit x a
split_plain plain cols [] a mx h = tt
split_plain plain cols (m ∷ ms) a mx h = ((λ d. go (mx.0 d) (h.0 d)), split_plain plain cols ms a mx.1 h.1)
  where
    go : plain m ≡ true → IsApart plain a m → AllByRecursion (IsNewer m) a ⊎ AllByRecursion (λ e. IsNewer e m) a
    go p (inl n) = inl (all_weaker (λ e. plain e ≡ true → IsNewer m e) (IsNewer m) (λ e k s. k (cols m e s ∙ p) s) a n)
    go p (inr o) = inr (all_weaker (λ e. plain e ≡ true → IsNewer e m) (λ e. IsNewer e m) (λ e k s. k (sym (cols e m s) ∙ p) s) a o)

-- a part that a minor compaction took, beside plain markers
pub minor_plain : (plain : Cell → Bool) → IsOfColumns plain → (ps qs : List Stage) (a x : List Cell) → AreAccepted (ps ++ qs) → Ascends above a → AreUnmarkedRead (ps ++ qs) a → AreUnmarkedRead (ps ++ qs) x → HasPlainMarkers plain x → AreApart plain x a → stages (ps ++ qs) (live (sum_of (stages ps (mark a)) x)) ≡ stages (ps ++ qs) (live (sum_of a x))
minor_plain plain cols ps qs a x acc up ra rx mx apart = minor ps qs a x acc up ra rx (split_plain plain cols x a mx apart)

-- a part that a full compaction took
pub full : (plain : Cell → Bool) → IsOfColumns plain → (ps qs : List Stage) (a x : List Cell) → AreAccepted (ps ++ qs) → Ascends above a → AreUnmarkedRead (ps ++ qs) a → AreUnmarkedRead (ps ++ qs) x → HasPlainMarkers plain a → HasPlainMarkers plain x → AreNewer plain x a → stages (ps ++ qs) (live (sum_of (stages ps (live a)) x)) ≡ stages (ps ++ qs) (live (sum_of a x))
full plain cols ps qs a x acc up ra rx ma mx newer = equal_answers (ps ++ qs) acc (stages ps (live a)) a x (λ c.
    ap (λ l. stages (ps ++ qs) (live (sum_of l (of_column c x)))) (column-stages ps (accepted_first ps qs acc) c (live a) ∙ ap (stages ps) (column-live c a))
    ∙ full_in ps qs c (of_column c a) (of_column c x) acc (of_column_in c a) (of_column_in c x) (Ascends-filter above above_exact (same_column c) a up) (read_column (ps ++ qs) c a ra) (read_column (ps ++ qs) c x rx) (beside_column plain cols c x a mx ma newer))

-- what is newer than two lists of one answer
pub added : (plain : Cell → Bool) → IsOfColumns plain → (ss : List Stage) (u w v : List Cell) → AreAccepted ss → Ascends above u → Ascends above w → AreUnmarkedRead ss u → AreUnmarkedRead ss w → AreUnmarkedRead ss v → HasPlainMarkers plain u → HasPlainMarkers plain w → HasPlainMarkers plain v → AreNewer plain v u → AreNewer plain v w → stages ss (live u) ≡ stages ss (live w) → stages ss (live (sum_of u v)) ≡ stages ss (live (sum_of w v))
added plain cols ss u w v acc uu uw ru rw' rv mu mw mv nu nw same = equal_answers ss acc u w v (λ c.
    added_in ss c (of_column c u) (of_column c w) (of_column c v) acc (of_column_in c u) (of_column_in c w) (of_column_in c v) (Ascends-filter above above_exact (same_column c) u uu) (Ascends-filter above above_exact (same_column c) w uw)
    (read_column ss c u ru) (read_column ss c w rw') (read_column ss c v rv) (beside_column plain cols c v u mv mu nu) (beside_column plain cols c v w mv mw nw)
    (in_column c u ∙ ap (of_column c) same ∙ sym (in_column c w)))
  where
    in_column : (c : Cell) (l : List Cell) → stages ss (live (of_column c l)) ≡ of_column c (stages ss (live l))
    in_column c l = sym (column-stages ss (accepted_keys ss acc) c (live l) ∙ ap (stages ss) (column-live c l))

-- what is live of the families is the families of what is live, as of any list
pub restrict_live : (fam : Cell → Bool) → IsOfColumns fam → (list : List Cell) → Ascends above list → filter fam (live list) ≡ live (filter fam list)
restrict_live fam cols list up = live_commutes fam cols list

-- families are such columns
pub families_columns : (families : Option (List (List ℕ))) → IsOfColumns (is_in families)
families_columns families d e h = ap (λ k. has_family families k.family) (sym (exact_columns (column_of d.key) (column_of e.key) (columns_tie d e h)))
