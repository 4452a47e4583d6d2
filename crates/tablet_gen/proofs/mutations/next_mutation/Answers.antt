use Rattle.std.proofs.Common.{◌≡◌, ◌/◌, [], ◌∷◌, ◌++◌, map, ap, ◌∙◌}
use Rattle.cell_key.specs.Mutations.{change_of}
use Rattle.tablet_gen.specs.Draws.{draw, next_state, state_behind}
use Rattle.tablet_gen.specs.Mutations.{change_from, mutation_from, row_of}
use Rattle.tablet_gen.proofs.mutations.next_mutation.Goals as goal

pub returns-clause-mutation : goal.returns-clause-mutation
unfolding mutation_from draw state_behind
returns-clause-mutation c =
    let state = c.args.draws.now.state in
    let one = c.draw-a.ensures.state in
    let two = c.draw-b.ensures.state ∙ ap next_state one in
    let three = c.draw-c.ensures.state ∙ ap next_state two in
    let first : c.draw-a.result ≡ draw 0 state = c.draw-a.ensures.drawn in
    let second : c.draw-b.result ≡ draw 1 state = c.draw-b.ensures.drawn ∙ ap (λ x. next_state x / 65536) one in
    let third : c.draw-c.result ≡ draw 2 state = c.draw-c.ensures.drawn ∙ ap (λ x. next_state x / 65536) two in
    let fourth : c.draw-d.result ≡ draw 3 state = c.draw-d.ensures.drawn ∙ ap (λ x. next_state x / 65536) three in
    let row = c.in_ok-row_of.ensures ∙ ap row_of first in
    let update = c.in_ok-update_of.ensures ∙ (λ i. change_from (second i) (third i) (fourth i)) in
    let updates = c.in_ok-push.ensures ∙ ap (λ l. l ++ c.in_ok-update_of.field-0 ∷ []) c.new-updates.ensures in
    let changes = ap (λ l. map change_of l) updates ∙ ap (λ x. x ∷ []) update in
    λ i. record { row = row i; changes = changes i }

pub returns-clause-state : goal.returns-clause-state
unfolding state_behind
returns-clause-state c =
    c.draw-d.ensures.state ∙ ap next_state (c.draw-c.ensures.state ∙ ap next_state (c.draw-b.ensures.state ∙ ap next_state c.draw-a.ensures.state))
