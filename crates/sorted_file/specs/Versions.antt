-- The versions of an image, and what is different between them. All of this is this project's own.
use Rattle.std.specs.Prelude.{ℕ, ◌%◌, Bool, false, ◌==◌, not, List, [], ◌∷◌}
use Rattle.sorted_file.specs.declared.version.Version.{Version}
use Rattle.sorted_file.specs.declared.version.Version.TheVariants.{One, Two}

-- the number of a version
abbrev pub version_number : Version → ℕ
version_number One = 1
version_number Two = 2

-- what stands behind the last entry, in the place of an entry's first field: a row's length, or the number of shared parts
abbrev pub end_mark : Version → List ℕ
end_mark One = 0 ∷ 0 ∷ []
end_mark Two = 255 ∷ []

-- the number of parts that an entry shares; it isn't written in version 1
abbrev pub same_bytes : Version → ℕ → List ℕ
same_bytes One same = []
same_bytes Two same = same ∷ []

-- whether an entry with n entries before it may share parts with the last of them: in version 2, if no block begins with it
abbrev pub has_neighbour : Version → ℕ → Bool
has_neighbour One n = false
has_neighbour Two n = not (n % 64 == 0)
