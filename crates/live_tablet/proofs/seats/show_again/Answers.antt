use Rattle.std.proofs.Common.{◌≡◌}
use Rattle.tablet_view.specs.Extending.{Extends}
use Rattle.tablet_view.proofs.Orders.{extends_refl}
use Rattle.live_tablet.proofs.Rules.{shows, view_at}
use Rattle.live_tablet.proofs.seats.show_again.Goals as goal

pub publish_as-requires : goal.publish_as-requires
publish_as-requires g c next is =
    let now = c.args.writer.desk.shown.value in
    let e : view_at next ≡ view_at now = rw c.requires at is in
    shows view_at _ _ now next (rw e (extends_refl (view_at now)))
