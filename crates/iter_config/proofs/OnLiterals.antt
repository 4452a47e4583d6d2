-- What an answer unfolds to compute the configuration of a literal.
use Rattle.std.specs.Prelude.{⊤}
use Rattle.std.specs.Str.{is_utf8, chars}
use Rattle.toml.proofs.OnLiterals.{toml_on_literals}
use Rattle.tablet_model.specs.Sorted.{put, sorted}
use Rattle.iter_config.specs.Combiners.{combiner_of, deletes_of, encoding_of, op_of}
use Rattle.iter_config.specs.Document.{config_of_iterators, config_of_members, in_order}
use Rattle.iter_config.specs.Fields.{scopes_in, with_scope}
use Rattle.iter_config.specs.Filters.{family_test, filter_of, grep_test, qualifier_test, test_of, times_test, visibility_test}
use Rattle.iter_config.specs.Iterators.{iterator_of, kind_of, versions_of}
use Rattle.iter_config.specs.Names.{column_at}

unfoldable pub config_on_literals : ⊤
unfolding toml_on_literals is_utf8 chars with_scope scopes_in column_at family_test qualifier_test visibility_test grep_test times_test test_of filter_of op_of encoding_of deletes_of combiner_of versions_of kind_of iterator_of config_of_members put sorted in_order config_of_iterators
config_on_literals = tt
