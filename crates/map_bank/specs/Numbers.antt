-- The number of a world, and a set of worlds kept as words of 64 bits.
use Rattle.std.specs.Prelude.{ℕ, zero, suc, ◌+◌, ◌-◌, ◌*◌, ◌/◌, ◌%◌, Bool, cond, not, List, pos, negsuc, ◌==◌, slice_index}
use Rattle.worlds.specs.Worlds.{World, Literal}
use Rattle.worlds.specs.Sets.{Worlds}
use Rattle.map_bank.specs.Bits.{bit}

-- the number of a world: condition p is true where bit p - 1 is one
abbrev pub number : (n : ℕ) → World n → ℕ
number zero w = 0
number (suc n) w = cond w.0 1 0 + 2 * number n w.1

-- the world of n conditions that has a number
abbrev pub world_of : (n : ℕ) → ℕ → World n
world_of zero k = tt
world_of (suc n) k = ((k % 2 == 1), world_of n (k / 2))

-- whether a literal is so in the world of a number, by the number's bits
abbrev pub number_holds : ℕ → Literal → Bool
number_holds k (pos p) = bit k (p - 1)
number_holds k (negsuc m) = not (bit k m)

-- whether the set that words of 64 bits keep has world number k: bit k % 64 of word k / 64
abbrev pub in_words : List ℕ → ℕ → Bool
in_words words k = bit (slice_index words (k / 64)) (k % 64)

-- the set of worlds that words keep
abbrev pub set_of : (n : ℕ) → List ℕ → Worlds n
set_of n words = λ w. in_words words (number n w)
