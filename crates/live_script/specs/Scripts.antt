-- What a script is for `live`: its mutations, in their order, and what each of its lines is. All of this is this project's own.
use Rattle.std.specs.Prelude.{ℕ, List, [], ◌∷◌, map, flat_map, Option, Some, None}
use Rattle.tablet_model.specs.History.{RowChange}
use Rattle.cell_key.specs.Mutations.{row_change_of}
use Rattle.cell_key.specs.declared.mutation.Mutation.{Mutation}
use Rattle.script_text.specs.Grammar.{line_of}
use Rattle.script_text.specs.declared.line.Line.{Line}
use Rattle.script_text.specs.declared.line.Line.TheVariants as line
use Rattle.tablet_steps.specs.declared.event.Event.TheVariants.{Apply}
use Rattle.live_script.specs.declared.script.LineKind.{LineKind}
use Rattle.live_script.specs.declared.script.LineKind.TheVariants as kind

-- what a reading is; None is a line without one
unfoldable pub kind_of : Option Line → LineKind
kind_of None = kind.Unread
kind_of (Some line.Nothing) = kind.Nothing
kind_of (Some (line.Step (Apply m))) = kind.Mutation
kind_of (Some _) = kind.Other

-- the mutation of a reading, if it is one
unfoldable pub mutations_in : Option Line → List RowChange
mutations_in (Some (line.Step (Apply m))) = row_change_of m ∷ []
mutations_in _ = []

-- that of a mutation, if it is one
abbrev pub changes_in : Option Mutation → List RowChange
changes_in None = []
changes_in (Some m) = row_change_of m ∷ []

-- what each of some lines is
abbrev pub kinds_of : List (List ℕ) → List LineKind
kinds_of lines = map (λ line. kind_of (line_of line)) lines

-- the mutations of some lines
abbrev pub mutations_of : List (List ℕ) → List RowChange
mutations_of = flat_map (λ line. mutations_in (line_of line))
