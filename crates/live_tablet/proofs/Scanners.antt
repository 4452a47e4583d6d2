-- A scanner stays the same while it scans.
use Rattle.std.proofs.Common.{◌≡◌, refl, ◌∙◌}
use Rattle.live_tablet.specs.Scanners.{ScannerState, IsSameScanner}
use Rattle.live_tablet.specs.Scans.{ScanState, IsSameScanOf}

scan_refl : (s : ScanState) → IsSameScanOf s s
scan_refl s = record { mode = refl; batch = refl; least = refl; failed = λ h. h }

scan_trans : (a b c : ScanState) → IsSameScanOf a b → IsSameScanOf b c → IsSameScanOf a c
scan_trans a b c x y = record { mode = x.mode ∙ y.mode; batch = x.batch ∙ y.batch; least = x.least ∙ y.least; failed = λ h. y.failed (x.failed h) }

pub same_refl : (s : ScannerState) → IsSameScanner s s
same_refl s = record { number = refl; tablet = refl; scan = scan_refl s.scan }

pub same_trans : (a b c : ScannerState) → IsSameScanner a b → IsSameScanner b c → IsSameScanner a c
same_trans a b c x y = record { number = x.number ∙ y.number; tablet = x.tablet ∙ y.tablet; scan = scan_trans a.scan b.scan c.scan x.scan y.scan }
