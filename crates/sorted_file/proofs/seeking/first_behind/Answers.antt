use Rattle.std.proofs.Common.{ℕ, ◌+◌, ◌≤◌, length, drop, sym, ap, ◌∙◌, arith}
use Rattle.std.specs.List.{filter}
use Rattle.tablet_model.specs.Cuts.{is_behind}
use Rattle.cell_key.specs.Ranges.{cut_of}
use Rattle.cell_key.specs.Views.{cell_of}
use Rattle.cell_key.specs.declared.range.Bound.{Bound}
use Rattle.sorted_file.proofs.Blocks.{all_from_start, behind_from}
use Rattle.sorted_file.proofs.Walks.{skipped, all_behind}
use Rattle.sorted_file.proofs.seeking.first_behind.Goals as goal

pub returns-in-Open-clause-behind : goal.returns-in-Open-clause-behind
returns-in-Open-clause-behind c =
    let list = c.args.file.now.cells in
    ap (λ (b : Bound). filter (λ e. is_behind (cut_of b) e.key) list) c.in-Open.is ∙ all_from_start list ∙ ap (λ (n : ℕ). drop n list) (sym c.start.ensures.index)

pub loop-spot-init : goal.loop-spot-init
loop-spot-init c =
    let block = c.last_block_before-spot in
    record {
      within = block.ensures.within;
      spot = block.ensures.spot;
      behind = behind_from (cut_of c.args.start.now) c.args.file.now.cells block.result.index block.ensures.passed;
    }

pub returns-then-lies_behind-clause-behind : goal.returns-then-lies_behind-clause-behind
returns-then-lies_behind-clause-behind c =
    let list = c.args.file.now.cells in
    let at = c.loop-spot.spot.index in
    sym c.loop-spot.invariant.behind
    ∙ all_behind (cut_of c.args.start.now) list at (cell_of c.entry.result) c.len.ensures.list.ascends (omega (arith, c.len.ensures.length)) c.entry.ensures (sym c.lies_behind.ensures ∙ c.if-lies_behind.true)

pub loop-spot-preserved : goal.loop-spot-preserved
loop-spot-preserved c =
    let list = c.args.file.now.cells in
    let at = c.loop-spot.spot.index in
    let lt : at + 1 ≤ length list = omega (arith, c.len.ensures.length) in
    record {
      within = omega (arith, c.next-spot.ensures.index);
      spot = c.next-spot.ensures.spot;
      behind = ap (λ (n : ℕ). filter (λ e. is_behind (cut_of c.args.start.now) e.key) (drop n list)) c.next-spot.ensures.index
          ∙ skipped (cut_of c.args.start.now) list at (cell_of c.entry.result) (omega (arith, lt)) c.entry.ensures (sym c.lies_behind.ensures ∙ c.if-lies_behind.false)
          ∙ c.loop-spot.invariant.behind;
    }
