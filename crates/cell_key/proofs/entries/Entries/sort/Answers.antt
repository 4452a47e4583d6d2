use Rattle.std.proofs.Common.{rules, ap, ◌∙◌}
use Rattle.std.specs.Ordering.{is_lt}
use Rattle.std.proofs.lemmas.List.Sorted.{answers_always, ranks_by}
use Rattle.tablet_model.specs.Order.{above, cell_cmp}
use Rattle.tablet_model.specs.Sorted.{sorted}
use Rattle.tablet_model.proofs.Orders.{cell_total}
use Rattle.cell_key.proofs.Sorting.{Ascends-sort, sorted-sort}
use Rattle.cell_key.proofs.entries.Entries.sort.Goals as goal

pub returns-clause-sorted : goal.returns-clause-sorted
returns-clause-sorted c =
    sorted-sort _ _ c.sort_by.ensures.permutation
    (c.in_ok-sort_by.ensures.sorted (λ a b. is_lt (cell_cmp a b)) (ranks_by cell_total (λ e. e)) (answers_always _ _ _ (λ f a r g h. search rules)))
    ∙ ap (sorted above) c.self.view_is

pub returns-clause-ascends : goal.returns-clause-ascends
returns-clause-ascends c =
    Ascends-sort _
    (c.in_ok-sort_by.ensures.sorted (λ a b. is_lt (cell_cmp a b)) (ranks_by cell_total (λ e. e)) (answers_always _ _ _ (λ f a r g h. search rules)))
