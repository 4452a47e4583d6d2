use Rattle.std.proofs.Common.{◌≡◌, map, ap, ◌∙◌, arith}
use Rattle.std.specs.Arc.{arc_value}
use Rattle.std.specs.Slice.Iter.{chunks_rest, chunks_size}
use Rattle.cell_key.specs.Mutations.{row_change_of}
use Rattle.iter_config.specs.RulesOf.{rules_of}
use Rattle.tablet_core.specs.State.{CoreState}
use Rattle.tablet_steps.specs.ModelSteps.{model_answer_of}
use Rattle.tablet_loader.specs.Loads.{after_chunk, after_chunks, after_jobs, chunks_of, log_with_all}
use Rattle.tablet_loader.specs.States.{load_of}
use Rattle.tablet_loader.proofs.Loads.{answers_with, is_now, none_loaded, will_be_still}
use Rattle.tablet_loader.proofs.plan.run_plan.Goals as goal

pub loop-mutations-init : goal.loop-mutations-init
loop-mutations-init c =
    let r = rules_of (arc_value c.args.config) in
    let rest : chunks_rest c.into_iter-mutations-iterator.result ≡ c.args.mutations.now =
    ap chunks_rest c.into_iter-mutations-iterator.ensures.into_iter_gives ∙ c.chunks-mutations-items.ensures.rest ∙ c.as_slice.ensures in
    let log = ap (λ (k : CoreState). k.view.log) c.in_ok-loader.ensures.core in
    let load = none_loaded c.in_ok-loader.loader (arc_value c.args.config) c.in_ok-loader.ensures.core c.in_ok-loader.ensures.job in
    record {
      will_be = record {
        load_is = (λ i. after_chunks r (load i) (chunks_of c.args.chunk (map row_change_of (rest i))));
        log_is_so = (λ i. log_with_all r (log i) (map row_change_of (rest i)));
        answers_are = (λ i. answers_with r (map model_answer_of (c.new-answers.ensures i)) (log i) (map row_change_of (rest i)));
      };
      config = ap (λ (k : CoreState). k.view.config) c.in_ok-loader.ensures.core;
      size = ap chunks_size c.into_iter-mutations-iterator.ensures.into_iter_gives ∙ c.chunks-mutations-items.ensures.size;
    }

pub loop-mutations-preserved : goal.loop-mutations-preserved
loop-mutations-preserved c =
    let before = c.loop-mutations.loader in
    let config = ap rules_of c.loop-mutations.invariant.config in
    let chunk = map row_change_of c.in-Some.mutations.now in
    let steps = c.in-Some.ensures.steps in
    record {
      will_be = will_be_still (rules_of (arc_value c.args.config)) c.args.chunk (chunks_size c.loop-mutations.mutations-iterator)
          (load_of before) _ before.core.view.log _ (map model_answer_of c.loop-mutations.answers) _
          (chunks_rest c.loop-mutations.mutations-iterator) c.in-Some.mutations.now (chunks_rest c.next.new.self) _ _ _
          (omega (arith, c.requires)) c.loop-mutations.invariant.size steps.1.0 steps.1.1 steps.1.2
          (c.in_ok-load_chunk.ensures.load ∙ ap (λ r. after_chunk r (load_of before) chunk) config)
          (c.in_ok-load_chunk.ensures.log ∙ ap (λ r. log_with_all r before.core.view.log chunk) config)
          (c.in_ok-load_chunk.ensures.answers ∙ ap (λ r. answers_with r (map model_answer_of c.loop-mutations.answers) before.core.view.log chunk) config)
          c.loop-mutations.invariant.will_be;
      config = c.in_ok-load_chunk.ensures.extends.config ∙ c.loop-mutations.invariant.config;
      size = steps.0 ∙ c.loop-mutations.invariant.size;
    }

pub returns-clause-store : goal.returns-clause-store
returns-clause-store c =
    let loaded = is_now _ _ _ _ _ _ _ _ _ c.in-None.ensures.steps.1.0 c.loop-mutations.invariant.will_be in
    ap (λ l. l.store) (c.in_ok-finish_jobs.ensures.load ∙ (λ i. after_jobs (rules_of (c.loop-mutations.invariant.config i)) (loaded.0 i)))

pub returns-clause-log : goal.returns-clause-log
returns-clause-log c =
    let loaded = is_now _ _ _ _ _ _ _ _ _ c.in-None.ensures.steps.1.0 c.loop-mutations.invariant.will_be in
    c.in_ok-finish_jobs.ensures.log ∙ loaded.1

pub returns-clause-config : goal.returns-clause-config
returns-clause-config c = c.in_ok-finish_jobs.ensures.extends.config ∙ c.loop-mutations.invariant.config

pub returns-clause-answers : goal.returns-clause-answers
returns-clause-answers c =
    let loaded = is_now _ _ _ _ _ _ _ _ _ c.in-None.ensures.steps.1.0 c.loop-mutations.invariant.will_be in
    loaded.2
