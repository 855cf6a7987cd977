-- A row: sixteen words of 64 bits that keep a set of worlds of up to ten conditions.
use Rattle.std.specs.Prelude.{◌≡◌, ℕ, ◌^◌, ◌<◌, ◌≤◌, false, List}
use Rattle.map_bank.specs.Numbers.{in_words}

-- no bit beyond the worlds of n conditions is one, so that rows are the same exactly where their sets are
abbrev pub Tidy : ℕ → List ℕ → Type 0
Tidy n words = (k : ℕ) → 2 ^ n ≤ k → k < 1024 → in_words words k ≡ false
