-- Draws by a linear congruential generator of modulus 2^31. Its numbers are those of the C standard's example of `rand`.
use Rattle.std.specs.Prelude.{ℕ, zero, suc, ◌+◌, ◌*◌, ◌/◌, ◌%◌}

-- the state behind another
abbrev pub next_state : ℕ → ℕ
next_state x = (1103515245 * x + 12345) % 2147483648

-- the state behind so many draws from a start
unfoldable pub state_behind : ℕ → ℕ → ℕ
state_behind zero start = start
state_behind (suc n) start = next_state (state_behind n start)

-- the draw from a start behind n others
unfoldable pub draw : ℕ → ℕ → ℕ
draw n start = state_behind (suc n) start / 65536
