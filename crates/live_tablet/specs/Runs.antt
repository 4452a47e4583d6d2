-- What the scanners of a run give. All of this is this project's own.
use Rattle.std.specs.Prelude.{◌≡◌, ℕ, ◌+◌, List, [], ◌∷◌, All, length, ⊤}
use Rattle.tablet_model.specs.History.{RowChange}
use Rattle.iter_config.specs.Settings.{Settings}
use Rattle.atomic_table.specs.Seated.{TableId}
use Rattle.scan_session.specs.ScanCalls.{all_pieces}
use Rattle.live_tablet.specs.Scanners.{ScannerState, mode_of_number}
use Rattle.live_tablet.specs.Scans.{IsScanOver}
use Rattle.live_tablet.specs.declared.running.ScannerWalks.{ScannerWalks}

-- what the scanner of a number gave beside the loader is a whole scan over the first mutations of a log, from `least` of them on, and what
-- it gave at the end is one over all of them
pub record AreWalksOf (c : Settings) (log : List RowChange) (least batch number : ℕ) (w : ScannerWalks) : Type 0 where
  pub beside : IsScanOver c log (mode_of_number number) batch least (all_pieces w.beside.fetches) w.beside.end
  pub last : IsScanOver c log (mode_of_number number) batch (length log) (all_pieces w.last.fetches) w.last.end

-- so are those of scanners that are numbered from a number on
abbrev pub AreNumberedWalks : Settings → List RowChange → ℕ → ℕ → ℕ → List ScannerWalks → Type 0
AreNumberedWalks c log least batch number [] = ⊤
AreNumberedWalks c log least batch number (w ∷ ws) = AreWalksOf c log least batch number w × AreNumberedWalks c log least batch (number + 1) ws

-- scanners belong to a tablet
abbrev pub AreOfTablet : TableId → List ScannerState → Type 0
AreOfTablet tablet scanners = All (λ s. s.reader.tablet ≡ tablet) scanners
