use Rattle.std.proofs.Common.{◌≡◌, [], length, rules, ap, sym, ◌∙◌, arith}
use Rattle.std.specs.Arc.{arc_value}
use Rattle.tablet_model.specs.History.{history_entries}
use Rattle.script_text.specs.Grammar.{line_of}
use Rattle.script_text.specs.Lines.{lines_of}
use Rattle.tablet_core.specs.State.{CoreState}
use Rattle.tablet_replay.specs.Packing.{history_after, history_behind}
use Rattle.tablet_replay.proofs.Packs.{none_in}
use Rattle.tablet_replay.proofs.Scripts.{lines_few}
use Rattle.tablet_replay.proofs.packing.loaded.Goals as goal

pub loop-line-init : goal.loop-line-init
loop-line-init c =
    let config : arc_value c.in_ok-new.field-0 ≡ c.args.config = search rules in
    let lines : c.into_iter-line-iterator.result ≡ lines_of c.args.script.now = search rules in
    let none : c.in_ok-core.core.view.log ≡ [] = ap (λ (k : CoreState). k.view.log) c.in_ok-core.ensures in
    record {
      config = ap (λ (k : CoreState). k.view.config) c.in_ok-core.ensures ∙ config;
      log = (λ i. history_behind c.args.config (none i) (lines i));
      memory = (
        ap (λ (k : CoreState). k.view.files) c.in_ok-core.ensures,
        ap (λ (k : CoreState). k.view.frozen) c.in_ok-core.ensures,
        ap (λ (k : CoreState). k.view.memory) c.in_ok-core.ensures ∙ none_in ∙ ap history_entries (sym none),
      );
      few = omega (arith, ap (λ (k : CoreState). k.view.version) c.in_ok-core.ensures, ap length lines);
    }

pub take_line-requires-clause-version : goal.take_line-requires-clause-version
take_line-requires-clause-version c =
    omega (arith, c.loop-line.invariant.few, lines_few c.args.script.now)

pub take_line-requires-clause-memory : goal.take_line-requires-clause-memory
take_line-requires-clause-memory c = c.loop-line.invariant.memory

pub loop-line-preserved : goal.loop-line-preserved
loop-line-preserved c =
    let line = line_of c.in-Some.line.now in
    let old = c.loop-line.core.view in
    record {
      config = c.in_ok-take_line.ensures.config ∙ c.loop-line.invariant.config;
      log = ap (λ h. history_behind c.args.config h c.next.new.self) (c.in_ok-take_line.ensures.log ∙ ap (λ specs. history_after specs old.log line) c.loop-line.invariant.config)
          ∙ ap (history_behind c.args.config old.log) (sym c.in-Some.ensures.steps)
          ∙ c.loop-line.invariant.log;
      memory = c.in_ok-take_line.ensures.memory;
      few = omega (arith, c.loop-line.invariant.few, ap length c.in-Some.ensures.steps, c.in_ok-take_line.ensures.version_rises_by_one_at_most);
    }
