use Rattle.std.proofs.Common.{rules, arith}
use Rattle.std.proofs.lemmas.Bool.Decides.{nat_tests}
use Rattle.std.proofs.lemmas.Cmp.{nat_list_eq_equiv}
use Rattle.std.proofs.lemmas.List.Sorted.{All-permutation, IsNonDecreasingBy-from_sort_by_key, answers_always}
use Rattle.std.proofs.lemmas.Map.Keys.{IsDistinct-IsPermutation}
use Rattle.iter_config.specs.Limits.{AreFields}
use Rattle.iter_config.specs.Rules.{same_name, same_priority}
use Rattle.iter_config.proofs.Ordering.{sorted-sort_by_key}
use Rattle.iter_config.proofs.document.in_priority_order.Goals as goal

pub returns-clause-sorted : goal.returns-clause-sorted
returns-clause-sorted c =
    sorted-sort_by_key (λ s. s.priority) _ _
    (IsNonDecreasingBy-from_sort_by_key (λ s. s.priority) _ c.in_ok-sort_by_key.ensures.sorted (λ a r q k. search rules))
    (c.sort_by_key.ensures.stable (λ s. s.priority) (answers_always _ _ _ (λ f a r g h. search rules)))

pub returns-clause-limits : goal.returns-clause-limits
returns-clause-limits c = All-permutation AreFields _ _ c.sort_by_key.ensures.permutation c.requires.limits

pub returns-clause-names : goal.returns-clause-names
returns-clause-names c = IsDistinct-IsPermutation same_name (λ s t. nat_list_eq_equiv.symm s.name t.name) _ _ c.sort_by_key.ensures.permutation c.requires.names

pub returns-clause-priorities : goal.returns-clause-priorities
returns-clause-priorities c =
    IsDistinct-IsPermutation same_priority (λ s t. grind (arith, nat_tests)) _ _ c.sort_by_key.ensures.permutation c.requires.priorities

pub returns-clause-order : goal.returns-clause-order
returns-clause-order c = IsNonDecreasingBy-from_sort_by_key (λ s. s.priority) _ c.in_ok-sort_by_key.ensures.sorted (λ a r q k. search rules)
