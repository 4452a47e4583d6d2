use Rattle.std.proofs.Common.{◌≡◌, ◌<◌, ◌^◌, ◌++◌, ◌∷◌, [], take, drop, length, ap, subst, sym, ◌∙◌, arith}
use Rattle.std.proofs.lemmas.List.{length-map}
use Rattle.std.specs.Arc.{arc_value}
use Rattle.tablet_model.specs.Sum.{sum_all, sum_of}
use Rattle.memory_map.specs.MapRuns.{lists_of, run_of, AreRuns}
use Rattle.memory_map.proofs.Joins.{joined_runs, joined_sum, length-sum_all, length-sum_of, kept_lists, other_lists, short_sum}
use Rattle.memory_map.proofs.mem_map.MemMap.add.Goals as goal

pub overflow_add-count : goal.overflow_add-count
overflow_add-count c =
    let lists = lists_of c.self.inside.runs.items in
    let short = short_sum lists c.self.invariant.0 in
    let long = length-sum_all lists in
    let count = c.self.invariant.1 in
    omega (arith, c.requires.few, short, long, count)

-- the run that is new
same_run : (c : goal.In_ok-runs) → c.in_ok-run.run' ≡ run_of (drop c.of-kept.result.kept (lists_of c.self.inside.runs.items)) c.args.added.now
same_run c =
    let k = c.of-kept.result.kept in
    let others = other_lists c.self.inside.runs.items c.split_at.result.1.now k (c.split_at.ensures.back ∙ ap (λ l. drop k l) c.deref-2.ensures.value) in
    c.in_ok-run.ensures.run ∙ ap (λ l. run_of l c.args.added.now) others

-- all runs
same_runs : (c : goal.In_ok-runs) → lists_of c.in_ok-runs.runs.items ≡ take c.of-kept.result.kept (lists_of c.self.inside.runs.items)
    ++ run_of (drop c.of-kept.result.kept (lists_of c.self.inside.runs.items)) c.args.added.now ∷ []
same_runs c =
    let k = c.of-kept.result.kept in
    let kept = kept_lists c.self.inside.runs.items c.split_at.result.0.now k (c.split_at.ensures.front ∙ ap (λ l. take k l) c.deref-2.ensures.value) in
    c.in_ok-runs.ensures ∙ (λ i. kept i ++ same_run c i ∷ [])

pub invariant_of-result : goal.invariant_of-result
invariant_of-result c =
    let lists = lists_of c.self.inside.runs.items in
    let new = c.args.added.now in
    let k = c.of-kept.result.kept in
    let of = rw c.deref.ensures.value at c.of-kept.ensures in
    let joined = joined_runs lists k c.of-kept.result.size new c.self.invariant.0 (omega (arith, of.kept, length-map c.self.inside.runs.items (λ r. arc_value r)))
    (omega (arith, of.size, c.len-more.ensures.length)) c.requires.some of.twice (subst (λ run. length run < 2 ^ 62) (same_run c) c.in_ok-run.ensures.short) in
    let sum = ap (λ l. length (sum_all l)) (same_runs c) ∙ ap length (joined_sum lists k new) ∙ length-sum_of (sum_all lists) new in
    (subst AreRuns (sym (same_runs c)) joined, omega (arith, sum, c.self.invariant.1, c.len-more.ensures.length))

pub returns : goal.returns
returns c =
    let lists = lists_of c.self.inside.runs.items in
    ap sum_all (same_runs c) ∙ joined_sum lists c.of-kept.result.kept c.args.added.now ∙ ap (λ l. sum_of l c.args.added.now) c.self.view_is
