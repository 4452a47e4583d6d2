use Rattle.std.proofs.Common.{◌≡◌, sym, subst, ◌∙◌, ap}
use Rattle.std.specs.List.{insert}
use Rattle.std.specs.List.Sorted.{IsBinarySearchResult}
use Rattle.std.specs.Ordering.{nat_cmp}
use Rattle.std.specs.Result.{MatchResult}
use Rattle.cell_key.specs.FileNumbers.{AreAscending, with_number}
use Rattle.cell_key.proofs.Numbering.{ascends_with, searched_with}
use Rattle.cell_key.proofs.file_ids.FileIds.insert.Goals as goal

new_items : (c : goal.In_ok-insert) → c.insert.new.self.items ≡ with_number c.args.id c.self.inside.ids.items
new_items c = c.in_ok-insert.ensures.items ∙ subst (λ r. MatchResult r (λ i. c.self.inside.ids.items ≡ with_number c.args.id c.self.inside.ids.items) (λ i. insert c.self.inside.ids.items i c.args.id ≡ with_number c.args.id c.self.inside.ids.items)) c.in-Err.is
    (searched_with c.self.inside.ids.items c.args.id c.binary_search.result c.self.invariant (subst (λ xs. IsBinarySearchResult (λ y. nat_cmp y c.args.id) xs c.binary_search.result) c.deref.ensures.value c.binary_search.ensures.position))

present_items : (c : goal.In_default) → c.self.inside.ids.items ≡ with_number c.args.id c.self.inside.ids.items
present_items c = subst (λ r. MatchResult r (λ i. c.self.inside.ids.items ≡ with_number c.args.id c.self.inside.ids.items) (λ i. insert c.self.inside.ids.items i c.args.id ≡ with_number c.args.id c.self.inside.ids.items)) c.in_default.is
    (searched_with c.self.inside.ids.items c.args.id c.binary_search.result c.self.invariant (subst (λ xs. IsBinarySearchResult (λ y. nat_cmp y c.args.id) xs c.binary_search.result) c.deref.ensures.value c.binary_search.ensures.position))

pub invariant_of-self : goal.invariant_of-self
invariant_of-self c = subst AreAscending (sym (new_items c)) (ascends_with c.args.id c.self.inside.ids.items c.self.invariant)

pub returns-in_ok-insert : goal.returns-in_ok-insert
returns-in_ok-insert c = new_items c ∙ ap (with_number c.args.id) c.self.view_is

pub returns-in_default : goal.returns-in_default
returns-in_default c = sym c.self.view_is ∙ present_items c ∙ ap (with_number c.args.id) c.self.view_is
