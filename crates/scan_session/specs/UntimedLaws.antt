-- The laws of scans where no family is timed, as statements: this project's own theorems. Without timed families the tablet gives each
-- mutation a time of its own, so the keys of entries are all different, and what walks and fetches promise of such keys holds.
use Rattle.std.specs.Prelude.{◌≡◌, ℕ, ◌≤◌, List, [], Option, length, take}
use Rattle.tablet_model.specs.Answers.{answer}
use Rattle.tablet_model.specs.Cuts.{Span}
use Rattle.tablet_model.specs.History.{RowChange}
use Rattle.tablet_model.specs.Ingest.{IsHistory}
use Rattle.tablet_model.specs.Places.{Place, after}
use Rattle.tablet_model.specs.Stages.{stages}
use Rattle.iter_config.specs.RulesOf.{rules_of}
use Rattle.iter_config.specs.Settings.{Settings}
use Rattle.iter_config.specs.Stages.{stages_of}
use Rattle.scan_session.specs.Keys.{KeysDiffer, KeysRise}
use Rattle.scan_session.specs.Takes.{Mode, plain, take_together}
use Rattle.scan_session.specs.Walks.{Walks, entries_of_pieces}
use Rattle.scan_session.specs.declared.piece.Piece.{Piece}

-- a history of a configuration that times no family
abbrev pub IsUntimedHistory : Settings → List RowChange → Type 0
IsUntimedHistory c h = (c.timed ≡ []) × IsHistory (rules_of c) h

-- no two entries of an answer have one key
abbrev pub UntimedAnswersDiffer : Type 0
UntimedAnswersDiffer = (c : Settings) (range : Span) (families : Option (List (List ℕ))) (h : List RowChange) → IsUntimedHistory c h
    → KeysDiffer (answer (stages (stages_of c)) range families h)

-- each key of a walk over such a history is greater than those before it, across numbers of mutations too
abbrev pub UntimedKeysRise : Type 0
UntimedKeysRise = (c : Settings) (range : Span) (families : Option (List (List ℕ))) (h : List RowChange) → IsUntimedHistory c h
    → (mode : Mode) (p q : Place) (n l : ℕ) (pieces : List Piece)
    → Walks (λ k. answer (stages (stages_of c)) range families (take k h)) (length h) mode p n pieces q l
    → KeysRise (entries_of_pieces pieces)

-- and a plain fetch of m takes the first m entries of what is left
abbrev pub UntimedEntriesAreCounted : Type 0
UntimedEntriesAreCounted = (c : Settings) (range : Span) (families : Option (List (List ℕ))) (h : List RowChange) → IsUntimedHistory c h
    → (m : ℕ) (p : Place) → 1 ≤ m
    → take_together plain m (after p (answer (stages (stages_of c)) range families h)) ≡ take m (after p (answer (stages (stages_of c)) range families h))
