-- The bits of a number.
use Rattle.std.specs.Prelude.{ℕ, ◌/◌, ◌%◌, ◌^◌, Bool, ◌==◌}

-- whether bit i of a number is one; bit 0 is the lowest
abbrev pub bit : ℕ → ℕ → Bool
bit m i = (m / 2 ^ i) % 2 == 1
