-- A search by halving for the last index of 64 at which a test holds.
use Rattle.std.specs.Prelude.{ℕ, ◌+◌, ◌*◌, Bool, if◌then◌else◌}

-- one step: half as far on, if the test holds there
unfoldable pub halved : (ℕ → Bool) → ℕ → ℕ → ℕ
halved P at half = if P (at + half) then at + half else at

-- two steps, the second by half as far
abbrev pub twice_halved : (ℕ → Bool) → ℕ → ℕ → ℕ
twice_halved P at half = halved P (halved P at (2 * half)) half

abbrev pub six_times : (ℕ → Bool) → ℕ
six_times P = halved P (halved P (halved P (halved P (halved P (halved P 0 32) 16) 8) 4) 2) 1
