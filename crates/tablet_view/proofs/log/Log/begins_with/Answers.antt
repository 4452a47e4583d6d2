use Rattle.std.proofs.Common.{◌≡◌, length, take, map, sym, subst, ◌∙◌}
use Rattle.std.proofs.lemmas.List.{length-map}
use Rattle.tablet_view.specs.Extending.{BeginsWith}
use Rattle.tablet_view.specs.LogParts.{all_in, mutation_in}
use Rattle.tablet_view.proofs.Logs.{begins_first, first_begins}
use Rattle.tablet_view.proofs.log.Log.begins_with.Goals as goal

pub returns-then-self-other : goal.returns-then-self-other
returns-then-self-other c =
    let f = mutation_in c.args.config.now in
    let ms = map f (all_in c.self.inside.runs.items) in
    let ns = map f (all_in c.other.inside.runs.items) in
    let count : c.other.inside.count ≡ length ns = c.other.invariant.1 ∙ sym (length-map (all_in c.other.inside.runs.items) f) in
    let here : take c.other.inside.count (map f (all_in c.deref.result.now)) ≡ take (length ns) ms = λ i. take (count i) (map f (all_in (c.deref.ensures.value i))) in
    let there : take c.other.inside.count (map f (all_in c.deref-then-self-other.result.now)) ≡ take (length ns) ns = λ i. take (count i) (map f (all_in (c.deref-then-self-other.ensures.value i))) in (
      λ t. subst (λ l. BeginsWith (map f l) (map f c.args.other.now)) c.self.view_is (subst (λ l. BeginsWith ms (map f l)) c.other.view_is (begins_first ms ns (sym here ∙ c.begin_alike.ensures.0 t ∙ there))),
      λ b. c.begin_alike.ensures.1 (here ∙ first_begins ms ns (subst (λ l. BeginsWith (map f l) ns) (sym c.self.view_is) (subst (λ l. BeginsWith (map f c.args.self.now) (map f l)) (sym c.other.view_is) b)) ∙ sym there),
    )
