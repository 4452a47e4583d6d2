use Rattle.std.proofs.Common.{◌≡◌, ◌+◌, ◌++◌, [], ◌∷◌, Some, drop, map, refl, sym, ap, ◌∙◌}
use Rattle.std.proofs.lemmas.List.{map-append}
use Rattle.cell_key.specs.Mutations.{row_change_of}
use Rattle.iter_config.specs.RulesOf.{rules_of}
use Rattle.tablet_core.specs.State.{state_of}
use Rattle.tablet_model.specs.Steps.{apply, store_after}
use Rattle.tablet_steps.specs.ModelSteps.{model_answer_of}
use Rattle.tablet_view.specs.Snapshot.{store_of}
use Rattle.tablet_view.proofs.Orders.{extends_trans}
use Rattle.tablet_loader.specs.Loads.{after_step, answer_to, log_with}
use Rattle.tablet_loader.specs.States.{load_of, rules_in}
use Rattle.tablet_loader.proofs.Loads.{answer_is, answers_next, answers_with, changes_from, load_next, log_is, log_next}
use Rattle.tablet_loader.proofs.loader.Loader.apply_all.Goals as goal

pub loop-mutation-preserved : goal.loop-mutation-preserved
unfolding state_of store_of
loop-mutation-preserved c =
    let rules = rules_in c.args.self.now in
    let all = map row_change_of c.args.mutations.now in
    let i = c.loop-mutation.mutation-index in
    let m = row_change_of c.mutation-item.result in
    let before = c.loop-mutation.self in
    let h = before.core.view.log in
    let made = c.in_ok-apply.ensures.made in
    let config = ap rules_of c.loop-mutation.invariant.extends.config in
    let left : drop i all ≡ m ∷ drop (i + 1) all =
    changes_from c.args.mutations.now i c.mutation-item.result c.loop-mutation-test.true ∙ ap (λ x. row_change_of x ∷ drop (i + 1) all) (sym c.mutation-item.is) in
    let load : load_of (record { core = c.apply.new.core; job = before.job }) ≡ after_step rules (load_of before) (apply m) =
    (λ j. record { store = (made.store ∙ ap (λ r. store_after r (state_of before.core) (apply m)) config) j; job = before.job }) in
    let log : c.apply.new.core.view.log ≡ log_with rules h m =
    made.log ∙ log_is (rules_in before) (state_of before.core) h m refl ∙ ap (λ r. log_with r h m) config in
    let answer : model_answer_of c.in_ok-apply.field-0 ≡ Some (answer_to rules h m) =
    c.in_ok-apply.ensures.answer ∙ ap Some (answer_is (rules_in before) (state_of before.core) h m refl ∙ ap (λ r. answer_to r h m) config) in
    let pushed : c.push.new.self ≡ c.loop-mutation.answers ++ c.in_ok-apply.field-0 ∷ [] = c.in_ok-push.ensures in
    let more : map model_answer_of c.push.new.self ≡ map model_answer_of c.loop-mutation.answers ++ model_answer_of c.in_ok-apply.field-0 ∷ [] =
    ap (λ l. map model_answer_of l) pushed ∙ map-append model_answer_of c.loop-mutation.answers (c.in_ok-apply.field-0 ∷ []) in
    record {
      load = load_next rules (load_of before) _ _ m (drop i all) (drop (i + 1) all) load left c.loop-mutation.invariant.load;
      log = log_next rules h _ _ m (drop i all) (drop (i + 1) all) log left c.loop-mutation.invariant.log;
      answers = ap (λ given. answers_with rules given c.apply.new.core.view.log (drop (i + 1) all)) more
          ∙ answers_next rules _ _ _ h _ m (drop i all) (drop (i + 1) all) log answer left c.loop-mutation.invariant.answers;
      extends = extends_trans _ _ _ made.extends c.loop-mutation.invariant.extends;
    }
