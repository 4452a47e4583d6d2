use Rattle.tablet_view.proofs.Parts.{always_steady}
use Rattle.tablet_view.proofs.view_source.ViewSourceSortedSource.seek.Goals as goal

pub returns-clause-works : goal.returns-clause-works
returns-clause-works c = λ steady. c.seek.ensures.works (always_steady c.args.self.now.source.source.sources.items)
