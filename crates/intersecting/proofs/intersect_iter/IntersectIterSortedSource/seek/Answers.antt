use Rattle.std.proofs.Common.{◌≡◌, true, false, [], length, drop, map, sym, subst}
use Rattle.std.specs.List.{AllByRecursion}
use Rattle.iter_contract.specs.Several.{all_steady}
use Rattle.intersecting.specs.Firsts.{at_first}
use Rattle.intersecting.proofs.Elements.{all_as_first}
use Rattle.intersecting.proofs.Lefts.{still_valid}
use Rattle.intersecting.proofs.intersect_iter.IntersectIterSortedSource.seek.Goals as goal

pub returns-clause-valid : goal.returns-clause-valid
returns-clause-valid g c =
    let cells = g.S.SortedSource.cells in
    let steady = g.S.SortedSource.steady in
    let old = c.deref_mut.result.now in
    let new = c.intersect_seek.new.sources in
    still_valid cells steady g.S.SortedSource.valid c.intersect_seek.new.stage new old (drop (length new) c.args.self.now.sources.items) c.args.self.now.sources.len
    c.intersect_seek.ensures.cells c.intersect_seek.ensures.steady c.deref_mut.ensures.len c.intersect_seek.ensures.valid
    (subst (λ xs. AllByRecursion (λ l. l ≡ at_first cells [] xs) (map cells xs)) (sym c.deref_mut.ensures.value) c.requires.1)
    (subst (λ xs. AllByRecursion (λ b. b ≡ at_first steady false xs) (map steady xs)) (sym c.deref_mut.ensures.value) c.requires.2) c.intersect_seek.ensures.fits

pub returns-clause-works : goal.returns-clause-works
returns-clause-works g c first =
    let steady = g.S.SortedSource.steady in
    c.intersect_seek.ensures.works (subst (λ xs. all_steady steady xs ≡ true) (sym c.deref_mut.ensures.value) (all_as_first steady c.args.self.now.sources.items c.requires.2 first))
