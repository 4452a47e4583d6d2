use Rattle.std.proofs.Common.{◌≡◌, false, None, ◌∙◌, ◌<◌, length, arith, subst, sym, List}
use Rattle.std.specs.List.{last_or}
use Rattle.tablet_model.specs.Cell.{Cell}
use Rattle.cell_key.specs.Views.{cell_of}
use Rattle.iter_contract.specs.Following.{is_out_of_order}
use Rattle.sorted_file.proofs.Pushing.{in_order, short_value, one_more}
use Rattle.sorted_file.proofs.file.SortedFile.upgrade.Goals as goal

pub push-requires-clause-order : goal.push-requires-clause-order
push-requires-clause-order c =
    let list = c.args.self.now.cells in
    let e = cell_of c.entry.result in
    subst (λ (built : List Cell). is_out_of_order (last_or None built) e ≡ false) (sym c.loop-spot.invariant.built) (in_order list c.loop-spot.spot.index e c.len.ensures.list c.entry.ensures)

pub push-requires-clause-value : goal.push-requires-clause-value
push-requires-clause-value c =
    let list = c.args.self.now.cells in
    short_value list c.loop-spot.spot.index (cell_of c.entry.result) c.len.ensures.list (omega (arith, c.len.ensures.length)) c.entry.ensures

pub loop-spot-preserved : goal.loop-spot-preserved
loop-spot-preserved c =
    let list = c.args.self.now.cells in
    let i = c.loop-spot.spot.index in
    let inside : i < length list = omega (arith, c.len.ensures.length) in
    record {
      within = omega (arith, inside, c.next-spot.ensures.index);
      spot = c.next-spot.ensures.spot;
      built = c.in_ok-push.ensures ∙ one_more list c.loop-spot.builder i c.next-spot.result.index (cell_of c.entry.result) inside c.entry.ensures c.loop-spot.invariant.built c.next-spot.ensures.index;
    }
