-- The numbers that a process ends with. They are this project's own.
use Rattle.std.specs.Prelude.{ℕ}
use Rattle.tablet_cli.specs.declared.status.Status.{Status}
use Rattle.tablet_cli.specs.declared.status.Status.TheVariants.{Done, Usage, BadConfig, ReadFault, WriteFault, NoMemory, TooLong, BadImage}

-- 0 for a run that is done, and from 2 on the others, since 1 is what a process that fails otherwise ends with
abbrev pub status_number : Status → ℕ
status_number Done = 0
status_number Usage = 2
status_number BadConfig = 3
status_number ReadFault = 4
status_number WriteFault = 5
status_number NoMemory = 6
status_number TooLong = 7
status_number BadImage = 8
