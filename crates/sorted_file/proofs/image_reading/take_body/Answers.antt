use Rattle.std.proofs.Common.{List, ℕ, ◌+◌, ◌-◌, Some, ap, ◌∙◌, arith}
use Rattle.std.specs.Option.{option_map}
use Rattle.cell_key.specs.Views.{cell_of}
use Rattle.byte_fields.specs.Answers.{unread_of}
use Rattle.sorted_file.specs.Reading.{entries_at}
use Rattle.sorted_file.proofs.Loops.{with_front, near_ref, nothing_read, end_fault, ends, entry_fault, goes_on, fewer}
use Rattle.byte_fields.proofs.Fields.{in_bytes}
use Rattle.sorted_file.proofs.Opening.{refused}
use Rattle.sorted_file.proofs.image_reading.take_body.Goals as goal

pub loop-places-init : goal.loop-places-init
loop-places-init c = record {
  few = omega arith;
  bytes = in_bytes c.args.input.rest.now c.requires.bytes;
  read = nothing_read c.args.version c.new-places.result.items c.args.input.at c.args.most (unread_of c.args.input) c.new-places.ensures.items;
}

pub returns-in_err-ends : goal.returns-in_err-ends
returns-in_err-ends c =
    let l = c.loop-places in
    refused _ c.from_residual.result c.in_err-ends.field-0.0 _ c.from_residual.ensures.1
    (end_fault c.args.version l.places.items l.count c.args.most (option_map cell_of l.before) (unread_of l.rest) c.in_err-ends.field-0.0 _ l.invariant.few c.in_err-ends.ensures l.invariant.read)

pub returns-then-ends : goal.returns-then-ends
returns-then-ends c =
    let l = c.loop-places in
    ends c.args.version l.places.items l.count c.args.most (option_map cell_of l.before) (unread_of l.rest) c.in_ok-ends.ends (unread_of c.in_ok-ends.behind) _ l.invariant.few c.in_ok-ends.ensures c.if-ends.true l.invariant.read

pub returns-in_err-entry : goal.returns-in_err-entry
returns-in_err-entry c =
    let l = c.loop-places in
    refused _ c.from_residual-in_err-entry.result c.in_err-entry.field-0.0 _ c.from_residual-in_err-entry.ensures.1
    (entry_fault c.args.version l.places.items l.count c.args.most (option_map cell_of l.before) (unread_of l.rest) c.in_ok-ends.ends (unread_of c.in_ok-ends.behind) c.in_err-entry.field-0.0 _ l.invariant.few c.in_ok-ends.ensures c.if-ends.false c.in_err-entry.ensures l.invariant.read)

pub overflow_add-count : goal.overflow_add-count
overflow_add-count c =
    let l = c.loop-places in
    omega (arith, (fewer c.args.version l.count (option_map cell_of l.before) (unread_of l.rest) (cell_of c.in_ok-entry.entry) (unread_of c.in_ok-entry.behind) l.invariant.bytes (near_ref l.before) c.in_ok-entry.ensures).0)

pub loop-places-smaller : goal.loop-places-smaller
loop-places-smaller c =
    let l = c.loop-places in
    omega (arith, (fewer c.args.version l.count (option_map cell_of l.before) (unread_of l.rest) (cell_of c.in_ok-entry.entry) (unread_of c.in_ok-entry.behind) l.invariant.bytes (near_ref l.before) c.in_ok-entry.ensures).0)

pub loop-places-preserved : goal.loop-places-preserved
loop-places-preserved c =
    let l = c.loop-places in
    let v = c.args.version in
    let less = fewer v l.count (option_map cell_of l.before) (unread_of l.rest) (cell_of c.in_ok-entry.entry) (unread_of c.in_ok-entry.behind) l.invariant.bytes (near_ref l.before) c.in_ok-entry.ensures in
    record {
      few = omega (arith, less.0);
      bytes = less.1;
      read = ap (λ (b : List ℕ). with_front v b (l.count + 1) (Some (cell_of c.in_ok-entry.entry)) c.in_ok-entry.behind.at (entries_at v (c.args.most - (l.count + 1)) (l.count + 1) (Some (cell_of c.in_ok-entry.entry)) (unread_of c.in_ok-entry.behind))) c.in_ok-note_block.ensures
          ∙ goes_on v l.places.items l.count c.args.most (option_map cell_of l.before) (unread_of l.rest) c.in_ok-ends.ends (unread_of c.in_ok-ends.behind) (cell_of c.in_ok-entry.entry) (unread_of c.in_ok-entry.behind) _ l.invariant.few l.invariant.bytes (near_ref l.before) c.in_ok-ends.ensures c.if-ends.false c.in_ok-entry.ensures l.invariant.read;
    }
