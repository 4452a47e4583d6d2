use Rattle.std.proofs.Common.{rules, ◌≡◌, ◌≤◌, length, Some, arith, sym, ap, subst, map, ◌∙◌}
use Rattle.cell_key.specs.FileNumbers.{AreAscending}
use Rattle.cell_key.proofs.Gathered.{ascends_gathered}
use Rattle.compactor.proofs.Plans.{few_set, none_chosen, some_chosen}
use Rattle.compactor.proofs.planner.plan.Goals as goal

pub returns-then-is_empty : goal.returns-then-is_empty
returns-then-is_empty c =
    let none : length c.set_of-set.result.now ≡ 0 = search rules in
    sym (none_chosen c.args.files.now c.as_slice.result.now c.set_of-set.result.now (c.as_slice.ensures.value ∙ c.by_size-order.ensures) c.set_of-set.ensures none)

pub numbers-requires : goal.numbers-requires
numbers-requires c =
    let few : length c.as_slice.result.now ≤ 64 = c.as_slice.ensures.fits in
    omega (arith, few, few_set c.as_slice.result.now, ap length c.set_of-set.ensures)

pub returns : goal.returns
returns c =
    ap Some c.numbers.ensures
    ∙ some_chosen c.args.files.now c.as_slice.result.now c.set_of-set.result.now (c.as_slice.ensures.value ∙ c.by_size-order.ensures) c.set_of-set.ensures
    (λ none. search rules)

pub invariant_of-result : goal.invariant_of-result
invariant_of-result c = subst AreAscending (sym c.numbers.ensures) (ascends_gathered (map (λ f. f.id) c.set_of-set.result.now))
