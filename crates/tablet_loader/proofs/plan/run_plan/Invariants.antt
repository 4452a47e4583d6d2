use Rattle.std.proofs.Common.{◌≡◌, [], map}
use Rattle.std.specs.Arc.{arc_value}
use Rattle.std.specs.Slice.Iter.{chunks_rest, chunks_size}
use Rattle.cell_key.specs.Mutations.{row_change_of}
use Rattle.iter_config.specs.RulesOf.{rules_of}
use Rattle.tablet_steps.specs.ModelSteps.{model_answer_of}
use Rattle.tablet_loader.specs.Loads.{after_chunks, chunks_of, empty_load, log_with_all}
use Rattle.tablet_loader.specs.States.{load_of}
use Rattle.tablet_loader.proofs.Loads.{WillBe, answers_with}
use Rattle.tablet_loader.proofs.plan.run_plan.Given as goal

abbrev pub invariant-loop-mutations : goal.invariant-loop-mutations
invariant-loop-mutations l =
    let c = rules_of (arc_value l.fn.config) in
    let all = map row_change_of l.fn.mutations in
    record {
      will_be : WillBe c l.fn.chunk (load_of l.loader) l.loader.core.view.log (map model_answer_of l.answers) (chunks_rest l.mutations-iterator)
          (after_chunks c empty_load (chunks_of l.fn.chunk all)) (log_with_all c [] all) (answers_with c [] [] all);
      config : l.loader.core.view.config ≡ arc_value l.fn.config;
      size : chunks_size l.mutations-iterator ≡ l.fn.chunk;
    }
