use Rattle.std.proofs.lemmas.Result.{IfOk-weaker}
use Rattle.std.proofs.Common.{◌≡◌, sym, subst}
use Rattle.std.specs.Arc.{arc_value}
use Rattle.left_right.specs.Sides.{view}
use Rattle.tablet_view.specs.Extending.{Extends}
use Rattle.tablet_view.specs.Snapshot.{Snapshot}
use Rattle.tablet_view.proofs.Orders.{extends_refl}
use Rattle.live_tablet.specs.Rules.{Knows}
use Rattle.live_tablet.proofs.Rules.{shows, looked, view_at}
use Rattle.live_tablet.proofs.seats.look.Goals as goal

pub enter_as-requires : goal.enter_as-requires
enter_as-requires c x = shows view_at _ _ x x (extends_refl (view_at x))

pub returns-in-Ok-clause-seen : goal.returns-in-Ok-clause-seen
returns-in-Ok-clause-seen c =
    let told = c.in-Ok.ensures.1 in
    let x : Snapshot = view_at c.in-Ok.reading.part.value in
    let found = looked x (arc_value c.args.kept.now) (view c.args.reader.place) (view c.in-Ok.reading.place) c.requires told.0 told.1 in
    IfOk-weaker c.try_clone-seen.result (λ a. arc_value a ≡ arc_value c.get.result.now.view) (λ a. Extends (arc_value a) (arc_value c.args.kept.now) × Knows (view c.leave.result.place) (arc_value a))
    (λ a same. rw (same, c.get.ensures, c.leave.ensures.1) found) c.try_clone-seen.ensures
