use Rattle.std.proofs.Common.{◌≡◌, ◌∷◌, [], ◌++◌, List, ap, ◌∙◌}
use Rattle.tablet_model.specs.Cell.{Cell}
use Rattle.cell_key.specs.Views.{cell_of}
use Rattle.scan_session.specs.Takes.{Mode, mode_of, take_together}
use Rattle.scan_session.proofs.Running.{run_ends, run_goes_on, rest_goes_on, run_is_all}
use Rattle.scan_session.proofs.run.take_run.Goals.{in-Some+then-may_end, in_default}
use Rattle.scan_session.proofs.run.take_run.Goals as goal

pub loop-next-preserved : goal.loop-next-preserved
loop-next-preserved g c =
    let mode : Mode = mode_of c.args.isolated in
    let all : List Cell = g.S.SortedSource.rest c.args.source.now in
    let list : List Cell = g.S.SortedSource.rest c.loop-next.source in
    let left : List Cell = g.S.SortedSource.rest c.next.new.self in
    let next : Cell = cell_of c.in-Some.next in
    let pushed : c.push.new.self ≡ c.loop-next.run ++ next ∷ [] = c.in_ok-push.ensures ∙ ap (λ e. c.loop-next.run ++ e ∷ []) c.in_ok-of.ensures in
    record {
      valid = c.next.ensures.valid;
      taken = run_goes_on mode c.args.count c.loop-next.run list (take_together mode c.args.count all) c.push.new.self left next
          c.in-Some.ensures c.if-may_end.ensures pushed c.in_ok-next.ensures.rest c.loop-next.invariant.taken;
      left = rest_goes_on c.loop-next.run list all c.push.new.self left next c.in-Some.ensures pushed c.in_ok-next.ensures.rest c.loop-next.invariant.left;
    }

pub returns-clause-run : goal.returns-clause-run
returns-clause-run g c =
    let mode : Mode = mode_of c.args.isolated in
    let list : List Cell = g.S.SortedSource.rest c.loop-next.source in
    let whole : List Cell = take_together mode c.args.count (g.S.SortedSource.rest c.args.source.now) in
    elim c.match-top.branch [
      | in-Some+then-may_end w ↦ run_ends mode c.args.count c.loop-next.run list whole (cell_of w.in-Some.next) w.in-Some.ensures w.if-may_end.ensures c.loop-next.invariant.taken
      | in_default w ↦ run_is_all mode c.args.count c.loop-next.run list whole w.in_default.ensures c.loop-next.invariant.taken
    ]
