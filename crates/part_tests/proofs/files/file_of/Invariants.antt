use Rattle.std.proofs.Common.{◌≡◌}
use Rattle.std.specs.Option.{option_map}
use Rattle.cell_key.specs.Views.{cell_of}
use Rattle.sorted_file.specs.Lists.{last_of}
use Rattle.part_tests.proofs.files.file_of.Given as goal

abbrev pub invariant-loop-entry : goal.invariant-loop-entry
invariant-loop-entry l = last_of l.builder ≡ option_map cell_of l.before
