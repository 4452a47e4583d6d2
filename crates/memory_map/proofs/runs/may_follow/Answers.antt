use Rattle.std.proofs.Common.{◌≡◌, ◌-◌, false, length, Some, arith}
use Rattle.std.proofs.lemmas.Grind.{common_steps}
use Rattle.std.specs.Prelude.{slice_get}
use Rattle.tablet_model.specs.Order.{above}
use Rattle.memory_map.proofs.Orders.{ascend_behind}
use Rattle.memory_map.proofs.runs.may_follow.Goals as goal

pub returns-in-Some-Some : goal.returns-in-Some-Some
unfolding above
returns-in-Some-Some c t a b =
    let last : slice_get c.args.others.now (length c.args.others.now - 1) ≡ Some c.in-Some-Some.last.now = grind (arith, common_steps, c.in-Some-Some.ensures.value, c.as_slice.ensures) in
    let first : slice_get c.args.entries.now 0 ≡ Some c.in-Some-Some.first.now = grind (arith, common_steps, c.in-Some-Some.ensures'.value, c.as_slice-2.ensures) in
    let below : above c.in-Some-Some.last.now c.in-Some-Some.first.now ≡ false = grind (arith, common_steps, c.is_gt.ensures, c.compare_entries.ensures, c.entry.ensures.entry, c.entry-in-Some-Some.ensures.entry, t) in
    ascend_behind c.args.others.now c.args.entries.now c.in-Some-Some.last.now c.in-Some-Some.first.now last first below a b
