use Rattle.std.proofs.Common.{◌+◌, ◌-◌, ◌≤◌, length, drop, sym, ap, subst, ◌∙◌, arith}
use Rattle.std.specs.List.{filter}
use Rattle.std.proofs.lemmas.List.{length-drop, take_all}
use Rattle.tablet_model.specs.Cuts.{is_before}
use Rattle.cell_key.specs.Ranges.{cut_of}
use Rattle.cell_key.specs.Views.{cell_of}
use Rattle.cell_key.specs.declared.range.Bound.{Bound}
use Rattle.sorted_file.proofs.Blocks.{all_to_end, before_to}
use Rattle.sorted_file.proofs.Walks.{UpTo, nothing_yet, one_more, stopped}
use Rattle.sorted_file.proofs.seeking.end_before.Goals as goal
use Rattle.sorted_file.proofs.seeking.end_before.Goals.{then-from-block, else-from-block}

pub returns-in-Open-clause-before : goal.returns-in-Open-clause-before
returns-in-Open-clause-before c =
    let list = c.args.file.now.cells in
    let from = c.args.from.index in
    ap (λ (b : Bound). filter (λ e. is_before (cut_of b) e.key) (drop from list)) c.in-Open.is ∙ all_to_end (drop from list)
    ∙ sym (take_all (c.len.result - from) (drop from list) (omega (arith, length-drop from list, c.len.ensures.length)))

pub loop-spot-init : goal.loop-spot-init
loop-spot-init c =
    let cut = cut_of c.args.end.now in
    let list = c.args.file.now.cells in
    let from = c.args.from.index in
    let block = c.last_block_before-block in
    elim c.if-from-block.branch [
      | then-from-block w ↦ rw w.spot-is (record {
        order = omega (arith, w.if-from-block.true);
        within = block.ensures.within;
        spot = block.ensures.spot;
        before = before_to cut list from block.result.index (omega (arith, w.if-from-block.true)) block.ensures.passed;
      })
      | else-from-block w ↦ rw w.spot-is (record {
        order = omega arith;
        within = c.requires.within;
        spot = c.requires.spot;
        before = nothing_yet (λ e. is_before cut e.key) list from;
      })
    ]

pub returns-then-not-lies_before-clause-before : goal.returns-then-not-lies_before-clause-before
returns-then-not-lies_before-clause-before c =
    let list = c.args.file.now.cells in
    let at = c.loop-spot.spot.index in
    stopped (cut_of c.args.end.now) list c.args.from.index at (cell_of c.entry.result) c.len-in-loop-spot.ensures.list.ascends (omega (arith, c.len-in-loop-spot.ensures.length)) c.entry.ensures (sym c.lies_before.ensures ∙ c.if-not-lies_before.true) c.loop-spot.invariant.before

pub loop-spot-preserved : goal.loop-spot-preserved
loop-spot-preserved c =
    let list = c.args.file.now.cells in
    let at = c.loop-spot.spot.index in
    let lt : at + 1 ≤ length list = omega (arith, c.len-in-loop-spot.ensures.length) in
    record {
      order = omega (arith, c.next-spot.ensures.index);
      within = omega (arith, c.next-spot.ensures.index);
      spot = c.next-spot.ensures.spot;
      before = subst (UpTo (λ e. is_before (cut_of c.args.end.now) e.key) list c.args.from.index) (sym c.next-spot.ensures.index)
          (one_more (λ e. is_before (cut_of c.args.end.now) e.key) list c.args.from.index at (cell_of c.entry.result) c.loop-spot.invariant.order (omega (arith, lt)) c.entry.ensures (sym c.lies_before.ensures ∙ c.if-not-lies_before.false) c.loop-spot.invariant.before);
    }
