use Rattle.std.proofs.Common.{rules, ◌≡◌, ◌+◌, [], ap, ◌∙◌}
use Rattle.cell_key.specs.FileNumbers.{with_numbers}
use Rattle.tablet_core.specs.State.{state_of}
use Rattle.tablet_model.specs.Steps.{compact, store_after}
use Rattle.tablet_loader.specs.States.{rules_in}
use Rattle.tablet_loader.proofs.Loads.{same_numbers}
use Rattle.tablet_loader.proofs.loader.Loader.start.Goals as goal

pub returns-clause-load : goal.returns-clause-load
returns-clause-load c =
    let job : c.in_ok-job.job ≡ c.args.self.now.job + 1 = search rules in
    let ids : c.in_ok-files.files ≡ c.args.files.now =
    c.in_ok-files.ensures ∙ ap (λ l. with_numbers l []) c.ids.ensures.ids ∙ same_numbers c.args.files.now c.ids.ensures.ascend in
    let store = c.in_ok-step.ensures.made.store ∙ (λ i. store_after (rules_in c.args.self.now) (state_of c.args.self.now.core) (compact (job i) (ids i))) in
    λ i. record { store = store i; job = job i }
