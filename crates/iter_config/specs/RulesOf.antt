-- What a configuration asks of a store. All of this is this project's own.
use Rattle.std.specs.Prelude.{not, List, filter}
use Rattle.tablet_model.specs.Rules.{Rules}
use Rattle.tablet_model.specs.Stages.{stages}
use Rattle.iter_config.specs.Columns.{is_timed, refuses_delete}
use Rattle.iter_config.specs.Rules.{in_base, is_combiner}
use Rattle.iter_config.specs.Settings.{Settings}
use Rattle.iter_config.specs.Stages.{stage_list}
use Rattle.iter_config.specs.declared.iter_spec.IterSpec.{IterSpec}

-- the iterators that scans alone run
abbrev pub scans_alone : List IterSpec → List IterSpec
scans_alone specs = filter (λ s. not (in_base s)) specs

-- the rules of a configuration: compactions run the iterators of their scope, and the tablet gives the times of all families but those
-- whose puts bring their own
unfoldable pub rules_of : Settings → Rules
rules_of c = record {
  base = stage_list (filter in_base c.iterators);
  minor = stage_list (filter (λ s. s.scopes.minc) c.iterators);
  major = stage_list (filter (λ s. s.scopes.majc) c.iterators);
  scan_combiners = stage_list (filter (λ s. is_combiner s.kind) (scans_alone c.iterators));
  scan_rest = stages (stage_list (scans_alone c.iterators));
  plain = λ e. not (is_timed c e.key.family);
  may_delete = λ e. not (refuses_delete c e.key.family e.key.qualifier);
}
