use Rattle.std.proofs.Common.{◌≡◌, map}
use Rattle.std.specs.Slice.Iter.{chunks_rest, chunks_size}
use Rattle.cell_key.specs.Mutations.{row_change_of}
use Rattle.tablet_steps.specs.ModelSteps.{model_answer_of}
use Rattle.tablet_view.specs.Extending.{Extends}
use Rattle.tablet_loader.specs.Loads.{after_chunks, chunks_of, log_with_all}
use Rattle.tablet_loader.proofs.Loads.{WillBe, answers_with}
use Rattle.live_tablet.specs.States.{load_in, rules_of_loader}
use Rattle.live_tablet.proofs.loader.Loader.load_rest.Given as goal

abbrev pub invariant-loop-mutations : goal.invariant-loop-mutations
invariant-loop-mutations g l =
    let first = l.fn.self in
    let c = rules_of_loader first in
    let all = map row_change_of l.fn.mutations in
    record {
      will_be : WillBe c l.fn.chunk (load_in l.self) l.self.core.view.log (map model_answer_of l.answers) (chunks_rest l.mutations-iterator)
          (after_chunks c (load_in first) (chunks_of l.fn.chunk all)) (log_with_all c first.core.view.log all) (answers_with c (map model_answer_of l.fn.answers) first.core.view.log all);
      extends : Extends l.self.core.view first.core.view;
      shown : l.self.published ≡ l.self.core.view;
      tablet : l.self.tablet ≡ first.tablet;
      size : chunks_size l.mutations-iterator ≡ l.fn.chunk;
    }
