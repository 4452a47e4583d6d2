-- Turns of a core are steps of the store of lists.
use Rattle.std.proofs.Common.{List, [], ◌∷◌, refl, sym, ap, ◌∙◌}
use Rattle.iter_config.specs.RulesOf.{rules_of}
use Rattle.tablet_core.specs.State.{CoreState, state_of}
use Rattle.tablet_core.specs.Turns.{FollowsStore, HasTaken, Turn, answers_to, answers_told, events_told, log_behind, store_behind, told, without_memory}

pub cores_follow : (ts : List Turn) (k l : CoreState) → HasTaken ts k l → FollowsStore ts k l
unfolding answers_to answers_told events_told log_behind store_behind
cores_follow [] k l same = record {
  store = ap state_of same;
  log = ap (λ x. x.view.log) same;
  answers = refl;
  config = ap (λ x. x.view.config) same;
}
cores_follow (told e a ∷ ts) k l (m, (answer, s), rest) =
    let r : FollowsStore ts m l = cores_follow ts m l rest in
    record {
      store = r.store ∙ (λ n. store_behind (rules_of (s.config n)) (s.store n) (events_told ts));
      log = r.log ∙ (λ n. log_behind (rules_of (s.config n)) (s.store n) (s.log n) (events_told ts));
      answers = λ n. answer n ∷ (r.answers ∙ (λ i. answers_to (rules_of (s.config i)) (s.store i) (events_told ts))) n;
      config = r.config ∙ s.config;
    }
cores_follow (without_memory e ∷ ts) k l (m, (free, same), rest) =
    let r : FollowsStore ts m l = cores_follow ts m l rest in
    record {
      store = r.store ∙ (λ n. store_behind (rules_of (same n).view.config) (state_of (same n)) (events_told ts));
      log = r.log ∙ (λ n. log_behind (rules_of (same n).view.config) (state_of (same n)) (same n).view.log (events_told ts));
      answers = r.answers ∙ (λ n. answers_to (rules_of (same n).view.config) (state_of (same n)) (events_told ts));
      config = r.config ∙ ap (λ x. x.view.config) same;
    }
