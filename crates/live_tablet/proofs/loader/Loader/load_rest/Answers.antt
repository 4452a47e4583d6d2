use Rattle.std.proofs.Common.{◌≡◌, map, refl, ap, ◌∙◌, arith}
use Rattle.std.specs.Slice.Iter.{chunks_rest, chunks_size}
use Rattle.cell_key.specs.Mutations.{row_change_of}
use Rattle.iter_config.specs.RulesOf.{rules_of}
use Rattle.tablet_steps.specs.ModelSteps.{model_answer_of}
use Rattle.tablet_view.proofs.Orders.{extends_refl, extends_trans}
use Rattle.tablet_loader.specs.Loads.{after_chunk, after_chunks, after_jobs, chunks_of, log_with_all}
use Rattle.tablet_loader.proofs.Loads.{answers_with, is_now, will_be_still}
use Rattle.live_tablet.specs.States.{load_in, rules_of_loader}
use Rattle.live_tablet.proofs.Runs.{on_ok}
use Rattle.live_tablet.proofs.loader.Loader.load_rest.Goals as goal

pub loop-mutations-init : goal.loop-mutations-init
loop-mutations-init g c =
    let first = c.args.self.now in
    let r = rules_of_loader first in
    let rest : chunks_rest c.into_iter-mutations-iterator.result ≡ c.args.mutations.now =
    ap chunks_rest c.into_iter-mutations-iterator.ensures.into_iter_gives ∙ c.chunks-mutations-items.ensures.rest in
    record {
      will_be = record {
        load_is = (λ i. after_chunks r (load_in first) (chunks_of c.args.chunk (map row_change_of (rest i))));
        log_is_so = (λ i. log_with_all r first.core.view.log (map row_change_of (rest i)));
        answers_are = (λ i. answers_with r (map model_answer_of c.args.answers.now) first.core.view.log (map row_change_of (rest i)));
      };
      extends = extends_refl first.core.view;
      shown = c.requires.shown;
      tablet = refl;
      size = ap chunks_size c.into_iter-mutations-iterator.ensures.into_iter_gives ∙ c.chunks-mutations-items.ensures.size;
    }

pub loop-mutations-preserved : goal.loop-mutations-preserved
loop-mutations-preserved g c =
    let before = c.loop-mutations.self in
    let kept = c.loop-mutations.invariant in
    let made = c.in_ok-load_chunk.ensures in
    let config = ap rules_of kept.extends.config in
    let chunk = map row_change_of c.in-Some.mutations.now in
    let steps = c.in-Some.ensures.steps in
    record {
      will_be = will_be_still (rules_of_loader c.args.self.now) c.args.chunk (chunks_size c.loop-mutations.mutations-iterator)
          (load_in before) _ before.core.view.log _ (map model_answer_of c.loop-mutations.answers) _
          (chunks_rest c.loop-mutations.mutations-iterator) c.in-Some.mutations.now (chunks_rest c.next.new.self) _ _ _
          (omega (arith, c.requires.chunk)) kept.size steps.1.0 steps.1.1 steps.1.2
          (made.load ∙ ap (λ r. after_chunk r (load_in before) chunk) config)
          (made.log ∙ ap (λ r. log_with_all r before.core.view.log chunk) config)
          (made.answers ∙ ap (λ r. answers_with r (map model_answer_of c.loop-mutations.answers) before.core.view.log chunk) config)
          kept.will_be;
      extends = extends_trans _ _ _ made.extends kept.extends;
      shown = made.published;
      tablet = made.tablet ∙ kept.tablet;
      size = steps.0 ∙ kept.size;
    }

pub returns : goal.returns
returns g c =
    let kept = c.loop-mutations.invariant in
    let loaded = is_now _ _ _ _ _ _ _ _ _ c.in-None.ensures.steps.1.0 kept.will_be in
    let r = c.finish.result in
    let made = c.finish.ensures in
    record {
      load = on_ok r (λ h. h ∙ (λ i. after_jobs (rules_of (kept.extends.config i)) (loaded.0 i))) made.load;
      log = on_ok r (λ h. h ∙ loaded.1) made.log;
      answers = on_ok r (λ h. loaded.2) made.log;
      extends = on_ok r (λ h. extends_trans _ _ _ h kept.extends) made.extends;
      published = made.published;
      tablet = on_ok r (λ h. h ∙ kept.tablet) made.tablet;
    }
