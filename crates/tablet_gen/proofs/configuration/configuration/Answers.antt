use Rattle.std.proofs.Common.{◌≡◌, Ok, Err}
use Rattle.iter_config.specs.Document.{config_of}
use Rattle.iter_config.specs.Faults.{fault}
use Rattle.tablet_gen.specs.declared.configuration.TheConstants.{DOCUMENT}
use Rattle.tablet_gen.proofs.Accepted.{accepted}
use Rattle.tablet_gen.proofs.configuration.configuration.Goals as goal

pub unreachable-requires : goal.unreachable-requires
unreachable-requires c =
    let refused : config_of DOCUMENT.now ≡ Err (fault c.in-Err-Refused.field-0-0 c.in-Err-Refused.field-0-1) = rw c.in-Err-Refused.field-0-is at c.in-Err-Refused.ensures in
    cc (accepted, refused)

pub returns-in-Ok : goal.returns-in-Ok
returns-in-Ok c =
    let read : config_of DOCUMENT.now ≡ Ok c.in-Ok.config = c.in-Ok.ensures in
    cc (accepted, read)
