-- What an outcome does to worlds, by their numbers.
use Rattle.std.specs.Prelude.{◌≡◌, ℕ, zero, suc, ◌+◌, ◌*◌, ◌^◌, ◌<◌, Bool, true, false, cond, ◌&&◌, ◌||◌, List, length, pos, ◌==◌, nat_lt, slice_index, slice_index_or}
use Rattle.worlds.specs.declared.step.Effect.{Effect}
use Rattle.worlds.specs.Worlds.{World, value, world_by, Literal, opposite, same_literal, meets}
use Rattle.worlds.specs.Steps.{Outcome, after}
use Rattle.worlds.specs.Meaning.{listed}
use Rattle.map_bank.specs.Bits.{bit}
use Rattle.map_bank.specs.Numbers.{number, world_of, in_words}

-- the world with one literal made so
abbrev pub made : (n : ℕ) → Literal → World n → World n
made n l w = world_by n (λ p. cond (same_literal (pos p) l) true (cond (same_literal (opposite (pos p)) l) false (value n w p)))

-- the masks tell, of each world of word k, which effects it meets
abbrev pub Masked : ℕ → List Effect → List ℕ → Type 0
Masked k effects masks =
    (i : ℕ) (d : Effect) → i < length effects → (n : ℕ) (w : World n) (b : ℕ) → b < 64 → number n w ≡ 64 * k + b →
    bit (slice_index masks i) b ≡ meets n w (listed (slice_index_or effects i d).conditions)

-- whether words have world number j, and an outcome turns that world into number x
abbrev pub gives : (n : ℕ) → Outcome → List ℕ → ℕ → ℕ → Bool
gives n o words x j = (nat_lt j (2 ^ n) && in_words words j) && x == number n (after n o (world_of n j))

-- whether one of m numbers from a start on passes a test
unfoldable pub some_from : ℕ → ℕ → (ℕ → Bool) → Bool
some_from start zero test = false
some_from start (suc m) test = some_from start m test || test (start + m)
