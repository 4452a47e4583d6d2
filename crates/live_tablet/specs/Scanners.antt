-- What contracts see of a scanner. All of this is this project's own.
use Rattle.std.specs.Prelude.{◌≡◌, ℕ, ◌%◌, eqb}
use Rattle.scan_session.specs.Takes.{Mode, mode_of}
use Rattle.live_tablet.specs.Scans.{ScanState, IsSameScanOf}
use Rattle.live_tablet.specs.States.{ReaderState}

-- a scanner: its number, its reader and its scan
pub record ScannerState : Type 0 where
  pub number : ℕ
  pub reader : ReaderState
  pub scan : ScanState

-- even scanners are isolated, odd ones plain
abbrev pub mode_of_number : ℕ → Mode
mode_of_number number = mode_of (eqb (number % 2) 0)

-- it is the same scanner as before, of the same tablet and with the same scan
pub record IsSameScanner (new old : ScannerState) : Type 0 where
  pub number : new.number ≡ old.number
  pub tablet : new.reader.tablet ≡ old.reader.tablet
  pub scan : IsSameScanOf new.scan old.scan
