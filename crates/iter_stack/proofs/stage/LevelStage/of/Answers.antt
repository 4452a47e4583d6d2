use Rattle.std.proofs.Common.{rules, sym, ap, ◌∙◌, subst}
use Rattle.std.specs.Prelude.{IfOk}
use Rattle.tablet_model.specs.Stages.{stage}
use Rattle.iter_config.specs.Predicates.{keeps}
use Rattle.iter_config.specs.Stages.{stage_of}
use Rattle.iter_config.specs.declared.iter_spec.Kind.{Kind}
use Rattle.iter_stack.specs.LevelStages.{IsFresh}
use Rattle.iter_stack.specs.Places.{kind_steady, KindCounts, KindTakes}
use Rattle.iter_stack.proofs.Alike.{fresh_bottom, filters_alike}
use Rattle.iter_stack.proofs.stage.LevelStage.of.Goals as goal

pub returns-in_ok-predicate-in-Filter : goal.returns-in_ok-predicate-in-Filter
returns-in_ok-predicate-in-Filter c =
    subst (λ (k : Kind). IsFresh (stage (stage_of k)) (kind_steady k) (KindTakes k) (KindCounts k) c.dropping.result) (sym c.in-Filter.is)
    (fresh_bottom c.dropping.ensures (filters_alike c.in-Filter.predicate c.in-Filter.negate c.new-in-Filter.result (c.new-in-Filter.ensures ∙ ap (λ p. keeps p c.in-Filter.negate) (search rules))))

pub returns-in-Combine : goal.returns-in-Combine
unfolding stage
returns-in-Combine c =
    subst (λ (k : Kind). IfOk c.combiner.result (IsFresh (stage (stage_of k)) (kind_steady k) (KindTakes k) (KindCounts k))) (sym c.in-Combine.is) c.combiner.ensures
