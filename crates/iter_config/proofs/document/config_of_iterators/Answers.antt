use Rattle.std.proofs.Common.{sym, ◌∙◌}
use Rattle.iter_config.specs.Rules.{own_number, same_name, same_priority}
use Rattle.iter_config.proofs.Repeats.{IsDistinct-from_first_clash}
use Rattle.iter_config.proofs.document.config_of_iterators.Goals as goal

pub in_priority_order-requires-clause-names : goal.in_priority_order-requires-clause-names
in_priority_order-requires-clause-names c =
    IsDistinct-from_first_clash own_number same_name _ (rw c.deref.ensures.value at (sym c.first_repeat.ensures ∙ c.in_default.is))

pub in_priority_order-requires-clause-priorities : goal.in_priority_order-requires-clause-priorities
in_priority_order-requires-clause-priorities c =
    IsDistinct-from_first_clash own_number same_priority _
    (rw c.deref-2.ensures.value at (sym c.first_repeat-2.ensures ∙ c.in_default-first_repeat.is))
