use Rattle.std.proofs.Common.{map, refl, ap, ◌∙◌}
use Rattle.cell_key.specs.Mutations.{row_change_of}
use Rattle.tablet_gen.specs.Draws.{state_behind}
use Rattle.tablet_gen.specs.Mutations.{mutations_of}
use Rattle.tablet_gen.proofs.Drawing.{mutations_next, state_next}
use Rattle.tablet_gen.proofs.mutations.mutations_of.Goals as goal

pub loop-init : goal.loop-init
unfolding state_behind mutations_of
loop-init c = record { state = refl; list = ap (λ l. map row_change_of l) c.in_ok-list.ensures }

pub loop-preserved : goal.loop-preserved
loop-preserved c =
    let before = c.loop.invariant in
    let i = c.loop.counter in
    record {
      state = state_next i c.args.start _ _ before.state c.in_ok-next_mutation.ensures.state;
      list = ap (λ l. map row_change_of l) c.in_ok-push.ensures ∙ mutations_next i c.args.start _ c.loop.list c.in_ok-next_mutation.field-0 before.state before.list c.in_ok-next_mutation.ensures.mutation;
    }
