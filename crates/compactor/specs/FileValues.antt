-- Which values a file takes. This project's own.
use Rattle.std.specs.Prelude.{◌≤◌, length}
use Rattle.tablet_model.specs.Cell.{Cell}
use Rattle.sorted_file.specs.Lists.{longest_value}

-- the value of an entry is within the bound of a file
abbrev pub HasShortValue : Cell → Type 0
HasShortValue e = length e.value ≤ longest_value e.key.deleted
