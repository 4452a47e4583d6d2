use Rattle.std.proofs.Common.{◌≡◌, ap, false, true}
use Rattle.iter_config.specs.Document.{config_in}
use Rattle.iter_config.proofs.Views.{has_document, no_document}
use Rattle.iter_config.proofs.document.read_config.Goals as goal

pub returns-in-Err : goal.returns-in-Err
returns-in-Err c = ap config_in (no_document c.args.text.now (λ u. c.in-Err.ensures.refused (λ m. let k : false ≡ true = c.if-is_memory.ensures.1 m in cc) u))

pub returns : goal.returns
returns c = rw (has_document c.args.text.now _ c.in-Ok.ensures.ok.0 c.in-Ok.ensures.ok.1) c.config_in.ensures
