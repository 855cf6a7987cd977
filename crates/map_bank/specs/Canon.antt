-- The one tidy row of a set of worlds.
use Rattle.std.specs.Prelude.{ℕ, zero, suc, ◌+◌, ◌*◌, ◌^◌, Bool, cond, ◌&&◌, List, [], ◌∷◌, nat_lt}
use Rattle.worlds.specs.Sets.{Worlds}
use Rattle.map_bank.specs.Numbers.{world_of}

-- the number whose bit k is one exactly where a test passes, for k below m
unfoldable pub word_by : ℕ → (ℕ → Bool) → ℕ
word_by zero test = 0
word_by (suc m) test = cond (test 0) 1 0 + 2 * word_by m (λ k. test (suc k))

-- so many words of 64 bits: bit b of word j is one exactly where the test passes at 64j + b
unfoldable pub words_by : ℕ → (ℕ → Bool) → List ℕ
words_by zero test = []
words_by (suc count) test = word_by 64 test ∷ words_by count (λ k. test (64 + k))

-- the row of a set of worlds of n conditions: bit k % 64 of word k / 64 is one exactly where k is the number of one of
-- its worlds
unfoldable pub row_of : (n : ℕ) → Worlds n → List ℕ
row_of n s = words_by 16 (λ k. nat_lt k (2 ^ n) && s (world_of n k))
