use Rattle.std.proofs.Common.{◌≤◌, ◌+◌, ◌^◌, ◌∙◌, length, ap, subst, sym, arith}
use Rattle.tablet_view.specs.LogParts.{all_in}
use Rattle.tablet_view.proofs.RunLists.{places_few, runs_few}
use Rattle.tablet_view.proofs.log.Log.runs.Goals as goal

pub overflow_cast-result : goal.overflow_cast-result
overflow_cast-result c =
    let few = runs_few c.self.inside.runs.items c.self.invariant.0 in
    let n = places_few (length c.self.inside.runs.items) (length (all_in c.self.inside.runs.items)) few (omega (arith, c.self.invariant.1, c.self.invariant.2)) in
    omega (arith, n, c.len.ensures)

pub returns : goal.returns
returns c =
    let few = runs_few c.self.inside.runs.items c.self.invariant.0 in
    let mutations = ap length c.self.view_is in
    subst (λ n. 2 ^ n ≤ length c.args.self.now + 1) (sym (c.len.ensures ∙ c.self.inside.runs.ok.0)) (subst (λ n. 2 ^ length c.self.inside.runs.items ≤ n + 1) mutations few)
