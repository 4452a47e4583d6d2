use Rattle.std.proofs.Common.{◌≡◌, map, drop}
use Rattle.cell_key.specs.Mutations.{row_change_of}
use Rattle.tablet_steps.specs.ModelSteps.{model_answer_of}
use Rattle.tablet_view.specs.Extending.{Extends}
use Rattle.tablet_loader.specs.Loads.{after_changes, log_with_all}
use Rattle.tablet_loader.specs.States.{load_of, rules_in}
use Rattle.tablet_loader.proofs.Loads.{answers_with}
use Rattle.tablet_loader.proofs.loader.Loader.apply_all.Given as goal

abbrev pub invariant-loop-mutation : goal.invariant-loop-mutation
invariant-loop-mutation l =
    let c = rules_in l.fn.self in
    let all = map row_change_of l.mutations in
    let left = drop l.mutation-index all in
    record {
      load : after_changes c (load_of l.self) left ≡ after_changes c (load_of l.fn.self) all;
      log : log_with_all c l.self.core.view.log left ≡ log_with_all c l.fn.self.core.view.log all;
      answers : answers_with c (map model_answer_of l.answers) l.self.core.view.log left ≡ answers_with c (map model_answer_of l.fn.answers) l.fn.self.core.view.log all;
      extends : Extends l.self.core.view l.fn.self.core.view;
    }
