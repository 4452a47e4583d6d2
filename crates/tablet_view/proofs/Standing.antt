-- Each next snapshot stands for its log.
use Rattle.std.proofs.Common.{◌≡◌, ℕ, Bool, true, false, List, [], ◌∷◌, ◌++◌, None, unwrap_or, inl, inr, refl, sym, ap, length-append}
use Rattle.tablet_model.specs.Cell.{Cell}
use Rattle.tablet_model.specs.Compactions.{minor_compaction}
use Rattle.tablet_model.specs.History.{RowChange}
use Rattle.tablet_model.specs.Stands.{AreBelow, StandsInParts}
use Rattle.tablet_model.specs.Steps.{made_by, without_job}
use Rattle.tablet_model.specs.Store.{empty_store, frozen_of, files_without}
use Rattle.stage_laws.proofs.Standing.{stands_applied, stands_flushed, stands_frozen}
use Rattle.stage_laws.proofs.StandingJobs.{stands_replaced}
use Rattle.stage_laws.proofs.StandingSteps.{empty_stands, parts_same}
use Rattle.iter_config.specs.Order.{IsConfig}
use Rattle.iter_config.specs.RulesOf.{rules_of}
use Rattle.iter_config.specs.Settings.{Settings}
use Rattle.iter_config.proofs.Soundness.{sound}
use Rattle.tablet_view.specs.Snapshot.{IsMajorOf, IsStanding, OthersAreNewer, Snapshot, after_apply, empty_snapshot, after_flush, after_freeze, refused_by, after_major, store_of}

pub standing_empty : (config : Settings) → IsConfig config → IsStanding (empty_snapshot config)
unfolding store_of empty_store
standing_empty config h = record { config = h; parts = parts_same (rules_of config) empty_store (store_of (empty_snapshot config) 0 []) [] refl refl refl refl (empty_stands (rules_of config) (sound config h)).in_parts }

pub standing_applied : (v : Snapshot) (m : RowChange) → refused_by v m ≡ None → IsStanding v → IsStanding (after_apply v m)
unfolding store_of
standing_applied v m ok h = record {
  config = h.config;
  parts = parts_same (rules_of v.config) _ (store_of (after_apply v m) 0 []) (v.log ++ m ∷ []) (sym (length-append v.log (m ∷ []))) refl refl refl
      (stands_applied (rules_of v.config) (store_of v 0 []) v.log m (sound v.config h.config) ok h.parts);
}

pub standing_frozen : (v : Snapshot) → v.frozen ≡ None → IsStanding v → IsStanding (after_freeze v)
unfolding store_of
standing_frozen v none h = record { config = h.config; parts = stands_frozen (rules_of v.config) (store_of v 0 []) v.log none h.parts }

-- the number of the next file is no matter of the parts
pub numbered_next : (v : Snapshot) (next : ℕ) → IsStanding v → StandsInParts (rules_of v.config) (store_of v next []) v.log
unfolding store_of
numbered_next v next h = parts_same (rules_of v.config) (store_of v 0 []) (store_of v next []) v.log refl refl refl refl h.parts

pub standing_flushed : (v : Snapshot) (id : ℕ) (cells : List Cell) → AreBelow id v.files
    → cells ≡ minor_compaction (rules_of v.config).minor (unwrap_or v.frozen []) → IsStanding v → IsStanding (after_flush v id cells)
unfolding store_of frozen_of
standing_flushed v id cells below made h = record {
  config = h.config;
  parts = parts_same (rules_of v.config) _ (store_of (after_flush v id cells) 0 []) v.log refl (ap (λ l. v.files ++ record { id = id; cells = l } ∷ []) (sym made)) refl refl
      (stands_flushed (rules_of v.config) (store_of v id []) v.log (sound v.config h.config) below (numbered_next v id h));
}

-- where a job's file comes in the place of its inputs
replaced_by : (v : Snapshot) (ids : List ℕ) (id : ℕ) (cells : List Cell) (full : Bool) → AreBelow id v.files → (full ≡ true → OthersAreNewer v ids)
    → made_by (rules_of v.config) (store_of v id []) (record { job = 0; full = full; ids = ids }) ≡ cells → IsStanding v → IsStanding (after_major v ids id cells)
unfolding store_of without_job
replaced_by v ids id cells full below newer made h = record {
  config = h.config;
  parts = parts_same (rules_of v.config) _ (store_of (after_major v ids id cells) 0 []) v.log refl (ap (λ l. files_without ids v.files ++ record { id = id; cells = l } ∷ []) made) refl refl
      (stands_replaced (rules_of v.config) (store_of v id []) v.log (record { job = 0; full = full; ids = ids }) (sound v.config h.config) below newer (numbered_next v id h));
}

pub standing_replaced : (v : Snapshot) (ids : List ℕ) (id : ℕ) (cells : List Cell) → AreBelow id v.files → IsMajorOf v ids cells → IsStanding v → IsStanding (after_major v ids id cells)
unfolding store_of made_by
standing_replaced v ids id cells below (inl made) h = replaced_by v ids id cells false below (λ e. absurd (let k : false ≡ true = e in cc)) (sym made) h
standing_replaced v ids id cells below (inr made) h = replaced_by v ids id cells true below (λ e. made.1) (sym made.0) h
