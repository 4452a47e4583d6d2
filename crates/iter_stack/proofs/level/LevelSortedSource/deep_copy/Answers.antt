use Rattle.std.proofs.Common.{rules, ◌≡◌, [], map, ◌∙◌, subst}
use Rattle.std.specs.List.{AllByRecursion}
use Rattle.intersecting.specs.Firsts.{at_first}
use Rattle.iter_stack.specs.Levels.{level_cells, level_steady, level_valid}
use Rattle.iter_stack.proofs.NewLevels.{fits_counts, fits_takes, fresh_level}
use Rattle.iter_stack.proofs.level.LevelSortedSource.deep_copy.Goals as goal

pub returns : goal.returns
unfolding level_cells level_steady level_valid
returns g c =
    let source = g.S.SortedSource in
    let self = c.args.self.now in
    let made = c.in_ok-level.ensures in
    let items = c.in_ok-level.level.sources.items in
    let same : source.cells c.in_ok-source.source ≡ at_first source.cells [] self.sources.items = c.in_ok-source.ensures.same_cells ∙ search rules in
    fresh_level source.cells source.rest source.steady source.valid c.in_ok-level.level c.in_ok-stage.ensures
    made.stage (made.cells ∙ same) (made.rest ∙ c.in_ok-source.ensures.unsought) (search rules) made.valid (made.count ∙ search rules)
    (subst (λ list. AllByRecursion (λ one. one ≡ list) (map source.cells items)) same made.copies)
    (fits_takes self.stage _ _ _ _ c.requires.1) (fits_counts self.stage _ _ _ _ c.requires.1)
