-- Readers that stay the same while they read. All of this is this project's own.
use Rattle.std.specs.Prelude.{ℕ, ◌<◌, List, length, slice_index_or}

-- each of some readers is the same as before, by a relation of a reader now to the reader then
abbrev pub AreSame : {S : Type 0} → (S → S → Type 0) → List S → List S → Type 0
AreSame {S} same new old = (k : ℕ) (d : S) → k < length old → same (slice_index_or new k d) (slice_index_or old k d)
