-- What a scan of a snapshot's entries reads, and what it answers.
use Rattle.std.proofs.Common.{◌≡◌, ℕ, ◌+◌, ◌<◌, List, [], ◌∷◌, Option, sym, ap, ◌∙◌, arith}
use Rattle.tablet_model.specs.Answers.{answer, scan_of}
use Rattle.tablet_model.specs.Cuts.{Span, within}
use Rattle.tablet_model.specs.Families.{in_families, is_in}
use Rattle.tablet_model.specs.History.{history_entries}
use Rattle.tablet_model.specs.Markers.{live}
use Rattle.tablet_model.specs.Reading.{AreUnmarkedRead}
use Rattle.tablet_model.specs.Rules.{IsStorable}
use Rattle.tablet_model.specs.Stages.{stages}
use Rattle.tablet_model.specs.Stands.{AreBelow, Stands}
use Rattle.tablet_model.specs.Store.{File, all_of, frozen_of, parts_of}
use Rattle.tablet_model.proofs.Sums.{all_filter, all_weaker}
use Rattle.stage_laws.proofs.Standing.{Ascends-all, all_storable}
use Rattle.stage_laws.proofs.StandingSteps.{stores_answer}
use Rattle.stage_laws.proofs.Whole.{families_columns, restrict_live}
use Rattle.iter_config.specs.RulesOf.{rules_of}
use Rattle.iter_config.specs.Stages.{stages_of}
use Rattle.iter_config.proofs.Prefixes.{scans_run_all}
use Rattle.iter_config.proofs.Soundness.{sound}
use Rattle.iter_stack.specs.Usages.{usage_cells}
use Rattle.iter_stack.specs.declared.usage.Usage.TheVariants.{Scan}
use Rattle.compactor.proofs.Stored.{storable_read}
use Rattle.tablet_view.specs.Snapshot.{IsStanding, Snapshot, entries_in, store_of}
use Rattle.tablet_view.proofs.Standing.{numbered_next}

-- all values are read
pub snapshot_read : (v : Snapshot) (families : Option (List (List ℕ))) → IsStanding v → AreUnmarkedRead (stages_of v.config) (in_families families (entries_in v))
snapshot_read v families h = storable_read v.config (in_families families (entries_in v))
    (all_filter (IsStorable (rules_of v.config)) (is_in families) (entries_in v) (all_storable (rules_of v.config) (store_of v 0 []) v.log h.parts))

-- a number above those of all files
next_number : List File → ℕ
next_number [] = 0
next_number (f ∷ fs) = f.id + 1 + next_number fs

below_next : (files : List File) → AreBelow (next_number files) files
unfolding next_number
below_next [] = tt
below_next (f ∷ fs) = (omega arith, all_weaker (λ g. g.id < next_number fs) (λ g. g.id < f.id + 1 + next_number fs) (λ g lt. omega arith) fs (below_next fs))

-- with a next number, and without jobs, the parts are a store that stands
stands : (v : Snapshot) → IsStanding v → Stands (rules_of v.config) (store_of v (next_number v.files) []) v.log
unfolding store_of
stands v h = record {
  in_parts = numbered_next v (next_number v.files) h;
  in_jobs = record { below = below_next v.files; files_there = tt; own_numbers = tt; files_apart = tt; others_newer = tt };
}

-- a stack for scans answers over them what the log answers
pub snapshot_answers : (v : Snapshot) (families : Option (List (List ℕ))) → IsStanding v → (range : Span)
    → within range (usage_cells v.config Scan (in_families families (entries_in v))) ≡ answer (stages (stages_of v.config)) range families v.log
unfolding usage_cells scan_of answer store_of all_of parts_of frozen_of
snapshot_answers v families h range =
    ap (λ list. within range (stages (stages_of v.config) list)) (sym (restrict_live (is_in families) (families_columns families) (entries_in v) (Ascends-all (store_of v 0 []))))
    ∙ ap (within range) (sym (scans_run_all v.config (in_families families (live (entries_in v))) h.config))
    ∙ stores_answer (rules_of v.config) (store_of v (next_number v.files) []) v.log range families (sound v.config h.config) (stands v h)
    ∙ ap (within range) (scans_run_all v.config (in_families families (live (history_entries v.log))) h.config)
