-- A tidy row is the one row of its set, so that rows are the same exactly where their sets are.
-- Assumes nothing.
use Rattle.std.specs.Prelude.{◌≡◌, ℕ, zero, suc, ◌+◌, ◌*◌, ◌/◌, ◌%◌, ◌^◌, ◌<◌, Bool, true, false, not, ◌&&◌, List, length, nat_lt, slice_index, slice_index_or, refl}
use Rattle.std.proofs.Common.{sym, ◌∙◌, ap, subst, inl, inr, pow-suc, zero-add, arith}
use Rattle.std.proofs.Math.Path.{fun_ext}
use Rattle.std.proofs.lemmas.List.{ext_get_or}
use Rattle.std.proofs.lemmas.Bool.{cases_lt, lt-ltb, le-ltb, not-true, not-false, both_ways}
use Rattle.worlds.specs.Worlds.{some_world}
use Rattle.worlds.specs.Sets.{Worlds, same_set, same_value}
use Rattle.worlds.proofs.Compatible.{some_world_from, cannot_pass}
use Rattle.map_bank.specs.Bits.{bit}
use Rattle.map_bank.specs.Canon.{word_by, words_by, row_of}
use Rattle.map_bank.specs.Numbers.{world_of, in_words, set_of}
use Rattle.map_bank.specs.Rows.{Tidy}
use Rattle.map_bank.proofs.BitLaws.{bit_lowest, bit_above, same_bits}
use Rattle.map_bank.proofs.NumberLaws.{number_of_world, lowest_digit, digits_above, digit_below}
use Rattle.map_bank.proofs.SameLaws.{same_value_is}

bit_by : (m : ℕ) (test : ℕ → Bool) (i : ℕ) → i < m → bit (word_by m test) i ≡ test i
unfolding word_by
bit_by zero test i h = absurd (omega arith)
bit_by (suc m) test zero h = bit_lowest (word_by (suc m) test) ∙ lowest_digit (test 0) (word_by m (λ k. test (suc k)))
bit_by (suc m) test (suc i) h =
    bit_above (word_by (suc m) test) i ∙ ap (λ (x : ℕ). bit x i) (digits_above (test 0) (word_by m (λ k. test (suc k))))
    ∙ bit_by m (λ k. test (suc k)) i (omega arith)

by_lt : (m : ℕ) (test : ℕ → Bool) → word_by m test < 2 ^ m
unfolding word_by
by_lt zero test = omega arith
by_lt (suc m) test =
    subst (λ (x : ℕ). word_by (suc m) test < x) (sym (pow-suc 2 m)) (digit_below (test 0) (word_by m (λ k. test (suc k))) (2 ^ m) (by_lt m (λ k. test (suc k))))

length_by : (count : ℕ) (test : ℕ → Bool) → length (words_by count test) ≡ count
unfolding words_by
length_by zero test = refl
length_by (suc count) test = ap suc (length_by count (λ k. test (64 + k)))

at_by : (count : ℕ) (test : ℕ → Bool) (j : ℕ) → j < count → (b : ℕ) → b < 64 → (slice_index (words_by count test) j < 2 ^ 64) × (bit (slice_index (words_by count test) j) b ≡ test (64 * j + b))
unfolding words_by
at_by zero test j h b hb = absurd (omega arith)
at_by (suc count) test zero h b hb = (by_lt 64 test, bit_by 64 test b hb ∙ ap test (sym (zero-add b)))
at_by (suc count) test (suc j) h b hb =
    let rest = at_by count (λ k. test (64 + k)) j (omega arith) b hb in
    let further : 64 + (64 * j + b) ≡ 64 * suc j + b = omega arith in
    (rest.0, rest.1 ∙ ap test further)

-- whether the set of a row has world number k
abbrev has_number : (n : ℕ) → List ℕ → ℕ → Bool
has_number n row k = nat_lt k (2 ^ n) && set_of n row (world_of n k)

-- a bit of a word, as the row has it under the number of its world
pub in_row : (row : List ℕ) (j b : ℕ) → b < 64 → in_words row (64 * j + b) ≡ bit (slice_index row j) b
in_row row j b hb =
    let q : (64 * j + b) / 64 ≡ j = omega arith in
    let r : (64 * j + b) % 64 ≡ b = omega arith in
    ap (λ (x : ℕ). bit (slice_index row x) ((64 * j + b) % 64)) q ∙ ap (λ (x : ℕ). bit (slice_index row j) x) r

bit_is : (n : ℕ) (row : List ℕ) → Tidy n row → (j b : ℕ) → j < 16 → b < 64 → has_number n row (64 * j + b) ≡ bit (slice_index row j) b
bit_is n row tidy j b hj hb =
    elim (cases_lt (64 * j + b) (2 ^ n)) [
      | inl low ↦
          ap (λ (x : Bool). x && set_of n row (world_of n (64 * j + b))) (lt-ltb (64 * j + b) (2 ^ n) low)
          ∙ ap (in_words row) (number_of_world n (64 * j + b) low) ∙ in_row row j b hb
      | inr high ↦
          ap (λ (x : Bool). x && set_of n row (world_of n (64 * j + b))) (le-ltb (64 * j + b) (2 ^ n) high)
          ∙ sym (tidy (64 * j + b) high (omega arith)) ∙ in_row row j b hb
    ]

-- a tidy row is the row of its set
pub row_is_of : (n : ℕ) (row : List ℕ) → length row ≡ 16 → ((i : ℕ) → slice_index row i < 2 ^ 64) → Tidy n row → row ≡ row_of n (set_of n row)
unfolding row_of
row_is_of n row long fits tidy =
    let test : ℕ → Bool = has_number n row in
    let same : (j : ℕ) → j < 16 → slice_index row j ≡ slice_index_or (words_by 16 test) j 0 =
    λ j hj. same_bits (slice_index row j) (slice_index (words_by 16 test) j) (fits j) (at_by 16 test j hj 0 (omega arith)).0 (λ b hb. sym ((at_by 16 test j hj b hb).1 ∙ bit_is n row tidy j b hj hb)) in
    ext_get_or 0 row (words_by 16 test) (long ∙ sym (length_by 16 test)) (λ j h. same j (subst (λ (k : ℕ). j < k) long h))

-- ## Rows of one set

-- sets that the test takes for the same are equal
pub same_set_is : (n : ℕ) (s t : Worlds n) → same_set n s t ≡ true → s ≡ t
same_set_is n s t same =
    let none : some_world n (λ w. not (same_value (s w) (t w))) ≡ false = not-true _ same in
    fun_ext (λ w. same_value_is (s w) (t w)
    (not-false _ (cannot_pass (not (same_value (s w) (t w))) (λ other. both_ways _ none (some_world_from n (λ v. not (same_value (s v) (t v))) w other)))))

-- tidy rows of one set are the same
pub rows_same : (n : ℕ) (a b : List ℕ) → length a ≡ 16 → length b ≡ 16 → ((i : ℕ) → slice_index a i < 2 ^ 64) → ((i : ℕ) → slice_index b i < 2 ^ 64) → Tidy n a → Tidy n b → same_set n (set_of n a) (set_of n b) ≡ true → a ≡ b
rows_same n a b long-a long-b fits-a fits-b tidy-a tidy-b same =
    row_is_of n a long-a fits-a tidy-a ∙ ap (row_of n) (same_set_is n (set_of n a) (set_of n b) same) ∙ sym (row_is_of n b long-b fits-b tidy-b)
