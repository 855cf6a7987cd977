-- Rows that lie one after another in a list of words.
use Rattle.std.specs.Prelude.{◌≡◌, ℕ, zero, suc, ◌+◌, ◌-◌, ◌^◌, ◌<◌, false, List, [], length, drop, slice_index_or}
use Rattle.std.specs.Simd.{first_chunks}
use Rattle.std.proofs.Common.{refl, ap}
use Rattle.map_bank.specs.Numbers.{in_words}

-- the first rows of a list of words: sixteen words each
abbrev pub rows_of : ℕ → List ℕ → List (List ℕ)
rows_of count words = first_chunks 16 count words

-- they are as many as are asked for
pub length_rows : (count : ℕ) (words : List ℕ) → length (rows_of count words) ≡ count
length_rows zero words = refl
length_rows (suc count) words = ap suc (length_rows count (drop 16 words))

-- every row is tidy: no bit beyond the worlds of n conditions is one
abbrev pub AllTidy : ℕ → List (List ℕ) → Type 0
AllTidy n rows = (i k : ℕ) → k < 1024 - 2 ^ n → in_words (slice_index_or rows i []) (2 ^ n + k) ≡ false
