-- Behind the last iterator of a configuration none is left, and nothing changes.
use Rattle.std.proofs.Common.{◌≡◌, ◌≤◌, ◌+◌, ℕ, Bool, List, length, arith}
use Rattle.std.proofs.lemmas.Option.{slice_get_past}
use Rattle.tablet_model.specs.Cell.{Cell}
use Rattle.iter_config.specs.declared.iter_spec.IterSpec.{IterSpec}
use Rattle.iter_stack.specs.Places.{four_made, steady_by_four}
use Rattle.iter_stack.specs.declared.usage.Usage.{Usage}

pub made_past : (usage : Usage) (specs : List IterSpec) (i : ℕ) → length specs ≤ i → (list : List Cell) → four_made usage specs i list ≡ list
made_past usage specs i past list = simp (slice_get_past specs i past, slice_get_past specs (i + 1) (omega arith), slice_get_past specs (i + 2) (omega arith), slice_get_past specs (i + 3) (omega arith))

pub steady_past : (usage : Usage) (specs : List IterSpec) (i : ℕ) → length specs ≤ i → (source : Bool) → steady_by_four usage specs i source ≡ source
steady_past usage specs i past source = simp (slice_get_past specs i past, slice_get_past specs (i + 1) (omega arith), slice_get_past specs (i + 2) (omega arith), slice_get_past specs (i + 3) (omega arith))
