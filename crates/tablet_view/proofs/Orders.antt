-- `Extends` is an order, and each step extends a snapshot.
use Rattle.std.proofs.Common.{◌≡◌, ℕ, ◌+◌, ◌<◌, ◌≤◌, List, [], ◌∷◌, ◌++◌, length, refl, sym, ◌∙◌, le_refl, arith, append-nil}
use Rattle.tablet_model.specs.Cell.{Cell}
use Rattle.tablet_model.specs.History.{RowChange}
use Rattle.tablet_view.specs.Extending.{Extends}
use Rattle.tablet_view.specs.Snapshot.{Snapshot, after_apply, after_flush, after_freeze, after_major}
use Rattle.tablet_view.proofs.Logs.{begins_length, begins_refl, begins_trans}

pub extends_refl : (v : Snapshot) → Extends v v
extends_refl v = record { config = refl; log = begins_refl v.log; version = le_refl v.version; rises = λ h. absurd (omega arith) }

rises_trans : (lv lu lw v u w : ℕ) → lu ≤ lv → lw ≤ lu → u ≤ v → w ≤ u → (lu < lv → u < v) → (lw < lu → w < u) → lw < lv → w < v
rises_trans lv lu lw v u w a b c d e f h = grind arith

pub extends_trans : (v u w : Snapshot) → Extends v u → Extends u w → Extends v w
extends_trans v u w a b = record {
  config = a.config ∙ b.config;
  log = begins_trans v.log u.log w.log a.log b.log;
  version = omega (arith, a.version, b.version);
  rises = rises_trans (length v.log) (length u.log) (length w.log) v.version u.version w.version (begins_length v.log u.log a.log) (begins_length u.log w.log b.log) a.version b.version a.rises b.rises;
}

one_more : (n : ℕ) → n < n + 1
one_more n = omega arith

-- a step that leaves the configuration, and puts mutations behind the log at most
extends_step : (v : Snapshot) (more : List RowChange) (u : Snapshot) → u.config ≡ v.config → u.log ≡ v.log ++ more → u.version ≡ v.version + 1 → Extends u v
extends_step v more u c l n = record {
  config = c;
  log = record { rest = more; whole = l };
  version = omega (arith, n);
  rises = λ h. omega (arith, n);
}

pub extends_applied : (v : Snapshot) (m : RowChange) → Extends (after_apply v m) v
extends_applied v m = extends_step v (m ∷ []) (after_apply v m) refl refl refl

pub extends_frozen : (v : Snapshot) → Extends (after_freeze v) v
extends_frozen v = extends_step v [] (after_freeze v) refl (sym (append-nil v.log)) refl

pub extends_flushed : (v : Snapshot) (id : ℕ) (cells : List Cell) → Extends (after_flush v id cells) v
extends_flushed v id cells = extends_step v [] (after_flush v id cells) refl (sym (append-nil v.log)) refl

pub extends_replaced : (v : Snapshot) (ids : List ℕ) (id : ℕ) (cells : List Cell) → Extends (after_major v ids id cells) v
extends_replaced v ids id cells = extends_step v [] (after_major v ids id cells) refl (sym (append-nil v.log)) refl
