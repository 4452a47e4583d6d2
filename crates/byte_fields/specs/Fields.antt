-- How fields of bytes are written and read, one behind the other. All of this is this project's own.
use Rattle.std.specs.Prelude.{ℕ, ◌+◌, Bool, if◌then◌else◌, nat_lt, List, ◌++◌, length, take, drop, Result, Ok, Err}
use Rattle.byteorder.specs.Endian.{big_bytes, big_number}

-- the readings in a row of a `do` block: the first error ends it
infixl 10 ◌>>=◌
abbrev pub ◌>>=◌ : {E A B : Type 0} → Result A E → (A → Result B E) → Result B E
(Ok x) >>= next = next x
(Err error) >>= next = Err error

-- what is not read yet: its place in the bytes, and the bytes from there on
pub record Unread : Type 0 where
  pub at : ℕ
  pub rest : List ℕ

-- what follows n bytes
abbrev pub behind : ℕ → Unread → Unread
behind n u = record { at = u.at + n; rest = drop n u.rest }

-- a field of n bytes; the error of one that is cut is its place
unfoldable pub bytes_at : ℕ → Unread → Result (List ℕ × Unread) ℕ
bytes_at n u = if nat_lt (length u.rest) n then Err u.at else Ok (take n u.rest, behind n u)

-- a field that is a number of n bytes
unfoldable pub number_at : ℕ → Unread → Result (ℕ × Unread) ℕ
number_at n u = do
  bytes ← bytes_at n u
  Ok (big_number n bytes.0, bytes.1)

-- a reading whose error says more than its place
abbrev pub with_error : {E A : Type 0} → (ℕ → E) → Result A ℕ → Result A E
with_error error (Ok x) = Ok x
with_error error (Err at) = Err (error at)

-- an error that is its place
abbrev pub its_place : ℕ → ℕ
its_place at = at

-- some bytes behind their length, which is a number of n bytes
abbrev pub sized_bytes : ℕ → List ℕ → List ℕ
sized_bytes n bytes = big_bytes n (length bytes) ++ bytes

-- how they are read: `cut` is the error of a field that is cut, `bad` that of a length that may not be
abbrev pub sized_at : {E : Type 0} → (ℕ → E) → (ℕ → E) → ℕ → (ℕ → Bool) → Unread → Result (List ℕ × Unread) E
sized_at cut bad n is_bad u = do
  size ← with_error cut (number_at n u)
  if is_bad size.0 then Err (bad u.at) else with_error cut (bytes_at size.0 size.1)
