-- The rule of a table of truth words: bit b of the word at place 16(p - 1) + k is bit p - 1 of the number 64k + b.
use Rattle.std.specs.Prelude.{ℕ, zero, suc, ◌+◌, ◌*◌, ◌/◌, ◌%◌, Bool, true, ◌&&◌, List, [], ◌∷◌}
use Rattle.worlds.specs.Sets.{same_value}
use Rattle.map_bank.specs.Bits.{bit}

-- whether the lowest m bits of the word at a place are as the rule has them
abbrev pub word_right : ℕ → ℕ → ℕ → Bool
word_right place word zero = true
word_right place word (suc b) = same_value (bit word b) (bit (64 * (place % 16) + b) (place / 16)) && word_right place word b

-- whether all words of a list are, where the first stands at a place
abbrev pub words_right : ℕ → List ℕ → Bool
words_right place [] = true
words_right place (word ∷ words) = word_right place word 64 && words_right (suc place) words
