-- The rule of the table of truth words, at all of its places by one test that antt computes.
-- Assumes nothing.
use Rattle.std.specs.Prelude.{◌≡◌, ℕ, zero, suc, ◌+◌, ◌-◌, ◌*◌, ◌/◌, ◌%◌, ◌<◌, ◌≤◌, true, List, [], ◌∷◌, length, slice_index}
use Rattle.std.proofs.Common.{sym, ◌∙◌, ap₂, subst, inl, inr, add-zero, zero-add, add-suc, suc-add, arith}
use Rattle.std.proofs.lemmas.Bool.{and_parts, cases_lt}
use Rattle.worlds.specs.Sets.{same_value}
use Rattle.map_bank.specs.Bits.{bit}
use Rattle.map_bank.specs.TruthTable.{word_right, words_right}
use Rattle.map_bank.proofs.SameLaws.{same_value_is}

bit_right : (place word m : ℕ) → word_right place word m ≡ true → (b : ℕ) → b < m → bit word b ≡ bit (64 * (place % 16) + b) (place / 16)
bit_right place word zero right b h = absurd (omega arith)
bit_right place word (suc m) right b h =
    let parts = and_parts (same_value (bit word m) (bit (64 * (place % 16) + m) (place / 16))) (word_right place word m) right in
    elim (cases_lt b m) [
      | inl below ↦ bit_right place word m parts.1 b below
      | inr here ↦
          let last : m ≡ b = omega arith in
          subst (λ (x : ℕ). bit word x ≡ bit (64 * (place % 16) + x) (place / 16)) last
          (same_value_is (bit word m) (bit (64 * (place % 16) + m) (place / 16)) parts.0)
    ]

word_at : (words : List ℕ) (place : ℕ) → words_right place words ≡ true → (i : ℕ) → i < length words → word_right (place + i) (slice_index words i) 64 ≡ true
word_at [] place right i h = absurd (omega arith)
word_at (word ∷ words) place right zero h =
    subst (λ (x : ℕ). word_right x word 64 ≡ true) (sym (add-zero place))
    (and_parts (word_right place word 64) (words_right (suc place) words) right).0
word_at (word ∷ words) place right (suc i) h =
    subst (λ (x : ℕ). word_right x (slice_index words i) 64 ≡ true) (suc-add place i ∙ sym (add-suc place i))
    (word_at words (suc place) (and_parts (word_right place word 64) (words_right (suc place) words) right).1 i (omega arith))

-- in a table that passes the test, each bit of word k of condition p is bit p - 1 of the number that the bit stands for
pub truth_at : (words : List ℕ) → words_right 0 words ≡ true → length words ≡ 160 → (p k : ℕ) → 1 ≤ p → p ≤ 10 → k < 16 → (b : ℕ) → b < 64 → bit (slice_index words (16 * (p - 1) + k)) b ≡ bit (64 * k + b) (p - 1)
truth_at words right long p k low high hk b hb =
    let column : (16 * (p - 1) + k) % 16 ≡ k = omega arith in
    let row : (16 * (p - 1) + k) / 16 ≡ p - 1 = omega arith in
    let word : word_right (16 * (p - 1) + k) (slice_index words (16 * (p - 1) + k)) 64 ≡ true =
    subst (λ (x : ℕ). word_right x (slice_index words (16 * (p - 1) + k)) 64 ≡ true) (zero-add (16 * (p - 1) + k))
    (word_at words 0 right (16 * (p - 1) + k) (omega arith)) in
    bit_right (16 * (p - 1) + k) (slice_index words (16 * (p - 1) + k)) 64 word b hb
    ∙ ap₂ (λ (x y : ℕ). bit (64 * x + b) y) column row
