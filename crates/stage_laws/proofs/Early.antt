-- A part may have been through the first stages, whatever markers stand in it: stages count and join puts alone.
use Rattle.std.proofs.Common.{◌≡◌, not, Bool, true, false, cond, List, [], ◌∷◌, ◌++◌, refl, sym, ap, ◌∙◌}
use Rattle.std.proofs.lemmas.List.Elements.{filter-append}
use Rattle.std.specs.List.{AllByRecursion, filter}
use Rattle.tablet_model.specs.Cell.{Cell}
use Rattle.tablet_model.specs.Order.{above}
use Rattle.tablet_model.specs.Sorted.{sorted, Ascends}
use Rattle.tablet_model.specs.Sum.{sum_of}
use Rattle.tablet_model.specs.Stages.{Stage, stages}
use Rattle.tablet_model.specs.Accepted.{KeepsKeys, AreAccepted}
use Rattle.tablet_model.specs.Reading.{AreRead, AreUnmarkedRead}
use Rattle.tablet_model.proofs.Bools.{false-of-not}
use Rattle.tablet_model.proofs.Combines.{NoMarkers}
use Rattle.tablet_model.proofs.Fronts.{AllMarkers}
use Rattle.tablet_model.proofs.OneColumn.{Ascends-sum}
use Rattle.tablet_model.proofs.Orders.{above_exact}
use Rattle.tablet_model.proofs.Sums.{Ascends-filter, all_weaker, filter_sorted, same_by_parts}
use Rattle.stage_laws.proofs.Compactions.{stages_append_markers}
use Rattle.stage_laws.proofs.Folds.{fold_sum}
use Rattle.stage_laws.proofs.JobsStay.{all_true}
use Rattle.stage_laws.proofs.Parts.{Ascends-stages, accepted_first, accepted_keys, made_all, stages_none}
use Rattle.stage_laws.proofs.Restrictions.{IsOfPuts, markers_of_puts, puts_of_puts, stages_commute}

abbrev is_put : Cell → Bool
is_put e = not e.key.deleted

abbrev is_marker : Cell → Bool
is_marker e = e.key.deleted

-- two puts, or two markers
abbrev same_kind : Cell → Cell → Bool
same_kind c e = cond c.key.deleted (is_marker e) (is_put e)

kind_itself : (c : Cell) → same_kind c c ≡ true
kind_itself c = go c.key.deleted
  where
    go : (d : Bool) → cond d d (not d) ≡ true
    go true = refl
    go false = refl

-- two sorted lists of the same puts and the same markers are equal
equal_by_kinds : (xs ys : List Cell) → Ascends above xs → Ascends above ys → filter is_put xs ≡ filter is_put ys → filter is_marker xs ≡ filter is_marker ys → xs ≡ ys
equal_by_kinds xs ys ux uy puts markers = same_by_parts above above_exact same_kind kind_itself xs ys ux uy (λ c. go c.key.deleted)
  where
    go : (d : Bool) → filter (λ e. cond d (is_marker e) (is_put e)) xs ≡ filter (λ e. cond d (is_marker e) (is_put e)) ys
    go true = markers
    go false = puts

no_markers : (list : List Cell) → NoMarkers (filter is_put list)
no_markers list = all_weaker (λ e. is_put e ≡ true) (λ e. e.key.deleted ≡ false) (λ e h. false-of-not e.key.deleted h) (filter is_put list) (all_true is_put list)

puts_read : (ss : List Stage) (list : List Cell) → AreUnmarkedRead ss list → AreRead ss (filter is_put list)
puts_read ss [] h = tt
puts_read ss (e ∷ es) h = go e.key.deleted refl (puts_read ss es h.1)
  where
    go : (d : Bool) → e.key.deleted ≡ d → AreRead ss (filter is_put es) → AreRead ss (cond (not d) (e ∷ filter is_put es) (filter is_put es))
    go true k r = r
    go false k r = (h.0 k, r)

markers_stay : (ss : List Stage) → AllByRecursion KeepsKeys ss → (ms : List Cell) → AllMarkers ms → stages ss ms ≡ ms
markers_stay ss k ms h = stages_append_markers ss k [] ms h ∙ ap (λ l. l ++ ms) (stages_none ss)

module _ (part : Cell → Bool) (of : IsOfPuts part) (ss : List Stage) (keys : AllByRecursion KeepsKeys ss) where
  -- what stages make of a sum, restricted
  of_sum : (a x : List Cell) → filter part (stages ss (sum_of a x)) ≡ stages ss (sum_of (filter part a) (filter part x))
  unfolding sum_of
  of_sum a x = stages_commute part of ss keys (sorted above (a ++ x)) ∙ ap (stages ss) (filter_sorted above above_exact part (a ++ x) ∙ ap (sorted above) (filter-append part a x))

  -- and where a part went through some before
  of_early : (ps : List Stage) → AllByRecursion KeepsKeys ps → (a x : List Cell) → filter part (stages ss (sum_of (stages ps a) x)) ≡ stages ss (sum_of (stages ps (filter part a)) (filter part x))
  of_early ps first a x = of_sum (stages ps a) x ∙ ap (λ l. stages ss (sum_of l (filter part x))) (stages_commute part of ps first a)

pub run_early : (ps qs : List Stage) (a x : List Cell) → AreAccepted (ps ++ qs) → AreUnmarkedRead (ps ++ qs) a → AreUnmarkedRead (ps ++ qs) x → Ascends above a → stages (ps ++ qs) (sum_of (stages ps a) x) ≡ stages (ps ++ qs) (sum_of a x)
run_early ps qs a x acc ra rx up = equal_by_kinds (stages ss (sum_of (stages ps a) x)) (stages ss (sum_of a x)) (ascends (stages ps a)) (ascends a)
    (of_early is_put puts_of_puts ss keys ps first a x
    ∙ fold_sum ps qs (filter is_put a) (filter is_put x) acc (no_markers a) (no_markers x) (puts_read ss a ra) (puts_read ss x rx) (Ascends-filter above above_exact is_put a up)
    ∙ sym (of_sum is_put puts_of_puts ss keys a x))
    (of_early is_marker markers_of_puts ss keys ps first a x
    ∙ ap (λ l. stages ss (sum_of l (filter is_marker x))) (markers_stay ps first (filter is_marker a) (all_true is_marker a))
    ∙ sym (of_sum is_marker markers_of_puts ss keys a x))
  where
    ss : List Stage
    ss = ps ++ qs

    keys : AllByRecursion KeepsKeys ss
    keys = accepted_keys ss acc

    first : AllByRecursion KeepsKeys ps
    first = accepted_first ps qs acc

    ascends : (b : List Cell) → Ascends above (stages ss (sum_of b x))
    ascends b = Ascends-stages ss (made_all ss acc) (sum_of b x) (Ascends-sum b x)
