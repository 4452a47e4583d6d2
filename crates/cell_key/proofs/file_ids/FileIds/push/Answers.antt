use Rattle.std.proofs.Common.{ℕ, ◌<◌, List, sym, subst}
use Rattle.std.specs.List.{AllByRecursion}
use Rattle.cell_key.specs.FileNumbers.{AreAscending}
use Rattle.cell_key.proofs.Numbering.{ascends_push}
use Rattle.cell_key.proofs.file_ids.FileIds.push.Goals as goal

pub invariant_of-self-2 : goal.invariant_of-self-2
invariant_of-self-2 c =
    subst AreAscending (sym c.in_ok-push.ensures.items)
    (ascends_push c.self.inside.ids.items c.args.id c.self.invariant (subst (λ (xs : List ℕ). AllByRecursion (λ i. i < c.args.id) xs) (sym c.self.view_is) c.requires))
