use Rattle.std.proofs.Common.{◌≡◌, ℕ, true, false, ◌∷◌, ◌++◌, [], List, take, map, Some, ap, refl, sym, ◌∙◌, option_map}
use Rattle.std.specs.Prelude.{slice_get}
use Rattle.std.proofs.lemmas.Option.{slice_get-map}
use Rattle.tablet_model.specs.Cell.{Cell}
use Rattle.iter_config.specs.Settings.{Settings}
use Rattle.tablet_view.specs.LogParts.{all_in, mutation_in}
use Rattle.tablet_view.proofs.RunLists.{same_at, take_step}
use Rattle.tablet_view.proofs.log.begin_alike.Goals as goal

-- the mutation at a place
there : (c : Settings) (xs : List (List Cell)) (i : ℕ) (x : List Cell) → slice_get xs i ≡ Some x → slice_get (map (mutation_in c) xs) i ≡ Some (mutation_in c x)
there c xs i x h = slice_get-map (mutation_in c) xs i ∙ ap (λ o. option_map (mutation_in c) o) h

pub loop-i-preserved : goal.loop-i-preserved
loop-i-preserved c =
    let ms = map (mutation_in c.args.config.now) (all_in c.args.runs.now) in
    let ns = map (mutation_in c.args.config.now) (all_in c.args.others.now) in
    let same = c.if-not-same_mutation.ensures.0 refl in
    take_step ms c.loop-i.i _ (there c.args.config.now (all_in c.args.runs.now) c.loop-i.i _ c.mutation_at.ensures)
    ∙ ap (λ l. l ++ mutation_in c.args.config.now c.mutation_at.result.now ∷ []) c.loop-i.invariant
    ∙ ap (λ m. take c.loop-i.i ns ++ m ∷ []) same
    ∙ sym (take_step ns c.loop-i.i _ (there c.args.config.now (all_in c.args.others.now) c.loop-i.i _ c.mutation_at-in-loop-i.ensures))

pub returns-then-not-same_mutation : goal.returns-then-not-same_mutation
returns-then-not-same_mutation c = (
  λ t. absurd (let never : false ≡ true = t in cc),
  λ h. c.if-not-same_mutation.ensures.1 (same_at (map (mutation_in c.args.config.now) (all_in c.args.runs.now)) (map (mutation_in c.args.config.now) (all_in c.args.others.now)) c.args.count c.loop-i.i _ _ c.loop-i-test.true
      (there c.args.config.now (all_in c.args.runs.now) c.loop-i.i _ c.mutation_at.ensures) (there c.args.config.now (all_in c.args.others.now) c.loop-i.i _ c.mutation_at-in-loop-i.ensures) h),
)
