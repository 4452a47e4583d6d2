use Rattle.std.proofs.Common.{◌≡◌, ◌++◌, IfOk, ap, sym, subst, ◌∙◌}
use Rattle.std.specs.List.{AllByRecursion}
use Rattle.tablet_model.specs.Order.{above}
use Rattle.tablet_model.specs.Sorted.{Ascends}
use Rattle.sorted_file.specs.declared.version.Version.TheVariants.{Two}
use Rattle.compactor.specs.FileValues.{HasShortValue}
use Rattle.compactor.proofs.Written.{within_all}
use Rattle.compactor.proofs.writing.file_of.Goals as goal

pub push_rest-requires-clause-order : goal.push_rest-requires-clause-order
push_rest-requires-clause-order g c =
    let rest = g.S.SortedSource.rest c.seek.new.self in
    let whole : rest ≡ g.S.SortedSource.cells c.args.source = c.in_ok-seek.ensures.rest ∙ within_all (g.S.SortedSource.cells c.args.source) in
    subst (λ list. Ascends above (list ++ rest)) (sym c.in_ok-builder.ensures) (subst (Ascends above) (sym whole) (g.met.S.SortedSource.sorted c.args.source))

pub push_rest-requires-clause-short : goal.push_rest-requires-clause-short
push_rest-requires-clause-short g c =
    subst (AllByRecursion HasShortValue) (sym (c.in_ok-seek.ensures.rest ∙ within_all (g.S.SortedSource.cells c.args.source))) c.requires.short

pub returns : goal.returns
returns g c =
    let rest = g.S.SortedSource.rest c.seek.new.self in
    let whole : rest ≡ g.S.SortedSource.cells c.args.source = c.in_ok-seek.ensures.rest ∙ within_all (g.S.SortedSource.cells c.args.source) in
    subst (λ list. IfOk c.finish.result (λ file. file ≡ record { version = Two; cells = list })) (c.in_ok-push_rest.ensures ∙ ap (λ list. list ++ rest) c.in_ok-builder.ensures ∙ whole) c.finish.ensures
