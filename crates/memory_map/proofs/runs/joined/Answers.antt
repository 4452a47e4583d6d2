use Rattle.std.proofs.Common.{◌≡◌, ◌-◌, ◌+◌, ◌<◌, ◌++◌, ◌∷◌, [], true, false, nat_eq, drop, length, le_refl, subst, sym, ap, ◌∙◌, rules, arith}
use Rattle.std.proofs.Math.Seq.{drop-length}
use Rattle.std.proofs.lemmas.List.{length-map}
use Rattle.std.specs.List.{flat_map}
use Rattle.std.specs.Arc.{arc_value}
use Rattle.tablet_model.specs.Order.{above}
use Rattle.tablet_model.specs.Sorted.{Ascends, sorted}
use Rattle.memory_map.specs.MapRuns.{lists_of}
use Rattle.memory_map.proofs.Joins.{order_read}
use Rattle.memory_map.proofs.Orders.{lists_from, one_ascends, one_list_more}
use Rattle.memory_map.proofs.runs.joined.Goals as goal
use Rattle.memory_map.proofs.runs.joined.Goals.{then-is_sorted, else-is_sorted}

pub loop-left-init : goal.loop-left-init
loop-left-init c =
    let runs = c.args.runs.now in
    let none : drop (length runs) (lists_of runs) ≡ [] = ap (λ n. drop n (lists_of runs)) (sym (length-map runs (λ x. arc_value x))) ∙ drop-length (lists_of runs) in
    let new : c.append.new.self ≡ c.args.added.now = search (rules, c.in_ok-append.ensures, c.in_ok-entries.ensures) in
    record {
      inside = le_refl (length runs);
      entries = ap (sorted above) (new ∙ sym (ap (λ l. flat_map (λ list. list) l ++ c.args.added.now) none));
      order = λ e.
          let one : nat_eq c.len-is_sorted.result 1 ≡ true = e in
          subst (Ascends above) (sym new) (one_ascends c.args.added.now (grind (arith, one, c.len-is_sorted.ensures.length)));
    }

pub loop-left-preserved : goal.loop-left-preserved
loop-left-preserved c =
    let runs = c.args.runs.now in
    let at = c.loop-left.left - 1 in
    let run = c.index-runs-left.result in
    let inside : at < length runs = omega (arith, c.loop-left.invariant.inside, c.loop-left-test.true) in
    let next : at + 1 ≡ c.loop-left.left = omega (arith, c.loop-left-test.true) in
    let from = lists_from runs at run inside c.index-runs-left.is in
    let here : drop at (lists_of runs) ≡ arc_value run ∷ drop c.loop-left.left (lists_of runs) = from ∙ ap (λ n. arc_value run ∷ drop n (lists_of runs)) next in
    let new : c.append-in-loop-left.new.self ≡ c.loop-left.entries ++ arc_value run = c.in_ok-append-2.ensures ∙ ap (λ l. c.loop-left.entries ++ l) c.deref-in-loop-left.ensures in
    let order = order_read runs at run c.requires inside c.index-runs-left.is in
    record {
      inside = omega (arith, inside);
      entries = ap (sorted above) new
          ∙ one_list_more c.loop-left.entries (arc_value run) c.args.added.now (drop c.loop-left.left (lists_of runs)) c.loop-left.invariant.entries
          ∙ ap (λ l. sorted above (flat_map (λ list. list) l ++ c.args.added.now)) (sym here);
      order = λ e. subst (Ascends above) (sym new) (elim c.if-is_sorted.branch [
        | then-is_sorted w ↦ subst (λ l. Ascends above (c.loop-left.entries ++ l)) w.deref.ensures
            (w.may_follow-is_sorted.ensures (sym w.is_sorted-is ∙ e) (c.loop-left.invariant.order w.if-is_sorted.true) (subst (Ascends above) (sym w.deref.ensures) order))
        | else-is_sorted w ↦ absurd (let never : false ≡ true = sym w.if-is_sorted.false ∙ sym w.is_sorted-is ∙ e in cc)
      ]);
    }

pub returns-clause-run : goal.returns-clause-run
returns-clause-run c =
    let none : c.loop-left.left ≡ 0 = omega (arith, c.loop-left-test.false) in
    c.in_ok-put_in_order.ensures ∙ c.loop-left.invariant.entries ∙ ap (λ n. sorted above (flat_map (λ list. list) (drop n (lists_of c.args.runs.now)) ++ c.args.added.now)) none
