use Rattle.std.proofs.Common.{◌∙◌}
use Rattle.iter_config.proofs.Views.{only_keys}
use Rattle.iter_config.proofs.fields.has_only.Goals as goal

pub returns : goal.returns
returns c = c.all_among.ensures ∙ only_keys c.args.names.now c.args.table.now.entries
