-- The lines that answer the lines of sessions. All of this is this project's own.
use Rattle.std.specs.Prelude.{ℕ, List, ◌++◌, Option, Some, None, codes}
use Rattle.std.specs.Fmt.{decimal}
use Rattle.script_text.specs.Answers.{end_line}

-- a session was opened on a view of the first n mutations
abbrev pub opened_line : ℕ → ℕ → List ℕ
opened_line session n = codes "open s" ++ decimal session ++ codes " " ++ decimal n ++ codes "\n"

-- it moved to such a view
abbrev pub renewed_line : ℕ → ℕ → List ℕ
renewed_line session n = codes "renew s" ++ decimal session ++ codes " " ++ decimal n ++ codes "\n"

-- its stack was torn down
abbrev pub dropped_line : ℕ → List ℕ
dropped_line session = codes "drop s" ++ decimal session ++ codes "\n"

-- it has ended
abbrev pub closed_line : ℕ → List ℕ
closed_line session = codes "close s" ++ decimal session ++ codes "\n"

-- how a fetch closes: with the number at which nothing is left, or that there is more
abbrev pub rest_line : Option ℕ → List ℕ
rest_line (Some n) = end_line n
rest_line None = codes "more\n"
