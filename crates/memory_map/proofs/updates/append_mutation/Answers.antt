use Rattle.std.proofs.Common.{◌∙◌, ap}
use Rattle.std.proofs.Math.Facts.{to_z-of_z}
use Rattle.tablet_model.specs.History.{entry_of}
use Rattle.cell_key.specs.Mutations.{change_of}
use Rattle.memory_map.proofs.UpdateEntries.{bounds_here, one_more}
use Rattle.memory_map.proofs.updates.append_mutation.Goals as goal

pub entry_of-requires : goal.entry_of-requires
entry_of-requires c =
    let inside = rw c.as_slice-update-items.ensures at c.loop-update-test.true in
    let here = rw c.as_slice-update-items.ensures at c.update-item.is in
    rw c.bytes.ensures (bounds_here c.args.mutation.now c.loop-update.update-index c.update-item.result c.requires inside here)

pub loop-update-preserved : goal.loop-update-preserved
loop-update-preserved c =
    let time = to_z-of_z c.ranges.time in
    let update = c.update-item.result in
    let row = ap (λ row. entry_of row c.args.time (change_of update)) c.bytes.ensures in
    let made = rw time at (c.in_ok-entry.ensures ∙ c.entry_of.ensures) in
    let before = rw time at c.loop-update.invariant in
    rw time (
    c.in_ok-push.ensures
    ∙ one_more (entry_of c.args.mutation.now.row c.args.time) c.args.entries.now c.loop-update.entries c.as_slice-update-items.result.now c.loop-update.update-index update c.in_ok-entry.entry
    c.loop-update-test.true c.update-item.is (made ∙ row) before)
