use Rattle.live_tablet.specs.Scanners.{IsSameScanner}
use Rattle.live_tablet.proofs.scanner.Scanner.run.Given as goal

abbrev pub invariant-loop : goal.invariant-loop
invariant-loop g l = IsSameScanner l.self l.fn.self
