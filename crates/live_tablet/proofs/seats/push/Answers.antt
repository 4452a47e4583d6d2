use Rattle.std.proofs.Common.{◌≡◌, ◌∙◌, ap, drop}
use Rattle.std.specs.Arc.{arc_value}
use Rattle.live_tablet.proofs.Rules.{shows, view_at, publishes_last, pushed}
use Rattle.live_tablet.proofs.seats.push.Goals.{in-Ok, in-Err}
use Rattle.live_tablet.proofs.seats.push.Goals as goal

pub publish_as-requires : goal.publish_as-requires
publish_as-requires g c next is =
    let now = c.append.new.self.desk.shown.value in
    let e : view_at next ≡ arc_value c.args.next = is ∙ publishes_last (view_at now) _ _ c.args.next c.in-Ok.ensures.pending in
    shows view_at _ _ now next (rw (e, c.append.ensures.desk) c.requires.extends)

pub returns-clause-shown : goal.returns-clause-shown
returns-clause-shown g c = elim c.match-append.branch [
  | in-Ok w ↦
      let was = c.append.new.self.desk.shown.value in
      rw w.result-is (rw (← c.append.ensures.desk) (pushed w.publish_as.result.1 w.publish_as.result.0.desk.shown.value was (arc_value c.args.next) _ _ _
      (publishes_last (view_at was) _ _ c.args.next w.in-Ok.ensures.pending) w.publish_as.ensures.values))
  | in-Err w ↦ rw w.result-is (ap (λ d. d.shown.value) c.append.ensures.desk)
]
