use Rattle.std.proofs.Common.{◌≡◌, ◌++◌, OnOk, subst}
use Rattle.tablet_replay.specs.Status.{status_text}
use Rattle.tablet_replay.specs.TabletParts.{replayed_by}
use Rattle.tablet_replay.proofs.Replaying.{status_is}
use Rattle.tablet_replay.proofs.tablet.Tablet.status.Goals as goal

pub returns : goal.returns
returns c =
    subst (λ t. OnOk c.append_status.result (c.append_status.new.text ≡ c.args.text.now ++ status_text (replayed_by t).store)) c.self.view_is
    (subst (λ l. OnOk c.append_status.result (c.append_status.new.text ≡ c.args.text.now ++ l)) (status_is c.self.inside.core c.in_ok-status.status c.in_ok-status.ensures) c.append_status.ensures)
