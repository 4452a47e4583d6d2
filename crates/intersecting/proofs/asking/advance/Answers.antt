use Rattle.std.proofs.Common.{◌≡◌, Some, None, sym, ap, subst, ◌∙◌}
use Rattle.std.specs.Prelude.{option_map}
use Rattle.tablet_model.specs.Sorted.{first}
use Rattle.cell_key.specs.Views.{cell_of}
use Rattle.intersecting.specs.Searches.{place, step_to, under, IsAdvance}
use Rattle.intersecting.proofs.Advances.{stays_is, stays_still, moved_is, nothing_shown}
use Rattle.intersecting.proofs.asking.advance.Goals as goal

pub returns-in-Some-clause-advance : goal.returns-in-Some-clause-advance
returns-in-Some-clause-advance g c =
    let p = place c.args.column.now in
    let term = c.args.term.now in
    let cells = g.S.SortedSource.cells c.args.source.now in
    let n = place c.set.new.self in
    let at_first : first (under c.args.behind p term cells) ≡ Some (cell_of c.in-Some.entry) = ap first (sym (c.in_ok-step.ensures.rest c.in-Ahead.is)) ∙ sym c.top.ensures ∙ ap (option_map cell_of) c.in-Some.is in
    subst (IsAdvance cells term c.args.behind p n) (sym c.in-Ahead.is)
    (moved_is c.args.behind p n term cells (g.met.S.SortedSource.sorted c.args.source.now) (cell_of c.in-Some.entry) at_first (ap (step_to p term) (sym at_first) ∙ sym c.in_ok-step.ensures.step ∙ c.in-Ahead.is)
    (ap (λ o. (place o).key.row) c.set.ensures) (ap (λ o. (place o).key.qualifier) c.set.ensures))

pub returns-in_default-top-clause-advance : goal.returns-in_default-top-clause-advance
returns-in_default-top-clause-advance g c =
    let p = place c.args.column.now in
    let term = c.args.term.now in
    let cells = g.S.SortedSource.cells c.args.source.now in
    let nothing : first (under c.args.behind p term cells) ≡ None = ap first (sym (c.in_ok-step.ensures.rest c.in-Ahead.is)) ∙ sym c.top.ensures ∙ ap (option_map cell_of) c.in_default-top.is in
    absurd (nothing_shown p term (first (under c.args.behind p term cells)) nothing (sym c.in_ok-step.ensures.step ∙ c.in-Ahead.is))

pub returns-in_default-clause-advance : goal.returns-in_default-clause-advance
returns-in_default-clause-advance g c =
    stays_is c.args.behind (place c.args.column.now) c.args.term.now (g.S.SortedSource.cells c.args.source.now) (g.met.S.SortedSource.sorted c.args.source.now) c.in_ok-step.step c.in_ok-step.ensures.step (stays_still c.in_ok-step.step c.in_default.not-Ahead)
