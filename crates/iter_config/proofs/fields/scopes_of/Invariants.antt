use Rattle.std.proofs.Common.{◌≡◌, drop}
use Rattle.toml.specs.View.{items_view}
use Rattle.iter_config.specs.Fields.{no_scopes, scopes_from}
use Rattle.iter_config.proofs.fields.scopes_of.Given as goal

abbrev pub invariant-loop-i : goal.invariant-loop-i
invariant-loop-i l = scopes_from l.scopes (items_view (drop l.i l.items.items)) ≡ scopes_from no_scopes (items_view l.items.items)
