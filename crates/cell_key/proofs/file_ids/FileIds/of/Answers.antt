use Rattle.std.proofs.Common.{◌≡◌, [], List, ℕ, subst, sym}
use Rattle.std.specs.List.Sorted.{IsPermutation}
use Rattle.cell_key.specs.FileNumbers.{AreAscending, with_numbers}
use Rattle.cell_key.proofs.Gathered.{ascends_gathered, gathered}
use Rattle.cell_key.proofs.file_ids.FileIds.of.Goals as goal

pub invariant_of-result : goal.invariant_of-result
invariant_of-result c =
    let is : c.dedup.new.self.items ≡ with_numbers c.args.numbers.now [] =
    gathered c.args.numbers.now c.sort_unstable.new.self.items c.dedup.new.self.items
    (subst (λ (xs : List ℕ). IsPermutation xs c.sort_unstable.new.self.items) c.in_ok-ids.ensures.items c.sort_unstable.ensures.permutation)
    c.sort_unstable.ensures.sorted c.dedup.ensures.filtered in
    subst AreAscending (sym is) (ascends_gathered c.args.numbers.now)

pub returns : goal.returns
returns c =
    gathered c.args.numbers.now c.sort_unstable.new.self.items c.dedup.new.self.items
    (subst (λ (xs : List ℕ). IsPermutation xs c.sort_unstable.new.self.items) c.in_ok-ids.ensures.items c.sort_unstable.ensures.permutation)
    c.sort_unstable.ensures.sorted c.dedup.ensures.filtered
