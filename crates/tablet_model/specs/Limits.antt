-- How much of what a tablet takes. All limits are this project's own.
use Rattle.std.specs.Prelude.{ℕ}

-- the bytes of a row, a family, a qualifier or a visibility, at most
abbrev pub max_part : ℕ
max_part = 1024

-- the bytes of a value, at most
abbrev pub max_value : ℕ
max_value = 65536

-- the changes of a mutation, at most
abbrev pub max_changes : ℕ
max_changes = 100

-- the mutations of a log, at most
abbrev pub max_mutations : ℕ
max_mutations = 524288

-- the files of a store, at most, where a frozen part is written
abbrev pub max_files : ℕ
max_files = 64

-- the names of a list in a configuration or a scan, at most
abbrev pub max_names : ℕ
max_names = 64
