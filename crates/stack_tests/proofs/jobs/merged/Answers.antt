use Rattle.std.proofs.Common.{List, [], ◌∷◌}
use Rattle.std.specs.Prelude.{⊤}
use Rattle.std.specs.List.{AllByRecursion}
use Rattle.compactor.specs.declared.part_cursor.PartCursor.{PartCursor}
use Rattle.stack_tests.proofs.jobs.merged.Goals as goal

-- the parts of each cursor fit together
all_valid : (parts : List PartCursor) → AllByRecursion (λ _. ⊤) parts
all_valid [] = tt
all_valid (part ∷ parts) = (tt, all_valid parts)

pub new-requires : goal.new-requires
new-requires c = all_valid _
