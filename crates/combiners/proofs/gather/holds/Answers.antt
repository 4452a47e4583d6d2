use Rattle.std.proofs.Common.{sym, ◌∙◌}
use Rattle.tablet_model.specs.Cell.{column_of}
use Rattle.cell_key.specs.Views.{key_of}
use Rattle.combiners.proofs.OfColumns.{kept_is}
use Rattle.combiners.proofs.gather.holds.Goals as goal

pub returns-clause-same : goal.returns-clause-same
returns-clause-same c h = kept_is c.args.column.now (column_of (key_of c.args.key)) (sym c.holds.ensures ∙ h)
