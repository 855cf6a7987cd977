-- A world and its number: each gives the other back, and the number's bits are the world's values.
-- Assumes nothing.
use Rattle.std.specs.Prelude.{◌≡◌, ℕ, zero, suc, ◌+◌, ◌-◌, ◌*◌, ◌/◌, ◌%◌, ◌^◌, ◌<◌, ◌≤◌, Bool, true, false, cond, not, pos, negsuc, ◌==◌, nat_eq, nat_le, nat_lt, refl}
use Rattle.std.proofs.Common.{sym, ◌∙◌, ap, ap₂, subst, pow-suc, lt_of_lt_of_le, arith, pow_mono}
use Rattle.std.proofs.lemmas.Bool.{ne_eqb, cond-false, ltb-true, and_parts}
use Rattle.std.proofs.lemmas.Bool.Decides.{nat_tests}
use Rattle.worlds.specs.Worlds.{World, value, some_world, Literal, holds, speaks_within}
use Rattle.worlds.proofs.Compatible.{some_world_from, the_world}
use Rattle.map_bank.specs.Bits.{bit}
use Rattle.map_bank.specs.Numbers.{number, world_of, number_holds}
use Rattle.map_bank.proofs.BitLaws.{bit_lowest, bit_above, bit_zero}

-- ## One condition and the rest

-- the lowest digit of a world's number is its first value, and the digits above are the number of the rest
pub lowest_digit : (b : Bool) (k : ℕ) → ((cond b 1 0 + 2 * k) % 2 == 1) ≡ b
lowest_digit true k = let one : (1 + 2 * k) % 2 ≡ 1 = omega arith in ap (λ (x : ℕ). nat_eq x 1) one
lowest_digit false k = let none : (0 + 2 * k) % 2 ≡ 0 = omega arith in ap (λ (x : ℕ). nat_eq x 1) none

pub digits_above : (b : Bool) (k : ℕ) → (cond b 1 0 + 2 * k) / 2 ≡ k
digits_above true k = omega arith
digits_above false k = omega arith

-- a number is its lowest digit and twice the rest
digits_joined : (k : ℕ) → cond (k % 2 == 1) 1 0 + 2 * (k / 2) ≡ k
digits_joined k = grind (arith, nat_tests)

pub digit_below : (b : Bool) (k m : ℕ) → k < m → cond b 1 0 + 2 * k < m * 2
digit_below true k m h = omega arith
digit_below false k m h = omega arith

-- ## Back and forth

pub number_lt : (n : ℕ) (w : World n) → number n w < 2 ^ n
number_lt zero w = omega arith
number_lt (suc n) w =
    subst (λ (x : ℕ). number (suc n) w < x) (sym (pow-suc 2 n)) (digit_below w.0 (number n w.1) (2 ^ n) (number_lt n w.1))

pub world_of_number : (n : ℕ) (w : World n) → world_of n (number n w) ≡ w
world_of_number zero w = refl
world_of_number (suc n) w =
    let rest : world_of n (number (suc n) w / 2) ≡ w.1 =
    ap (world_of n) (digits_above w.0 (number n w.1)) ∙ world_of_number n w.1 in
    ap₂ (λ (b : Bool) (v : World n). (b, v)) (lowest_digit w.0 (number n w.1)) rest

pub number_of_world : (n k : ℕ) → k < 2 ^ n → number n (world_of n k) ≡ k
number_of_world zero k h = omega arith
number_of_world (suc n) k h =
    let twice : 2 ^ suc n ≡ 2 ^ n * 2 = pow-suc 2 n in
    let rest : number n (world_of n (k / 2)) ≡ k / 2 = number_of_world n (k / 2) (omega arith) in
    ap (λ (x : ℕ). cond (k % 2 == 1) 1 0 + 2 * x) rest ∙ digits_joined k

-- where a world has at most ten conditions, its number is below 1024
pub number_below : (n : ℕ) (w : World n) → n ≤ 10 → number n w < 1024
number_below n w h = lt_of_lt_of_le (number_lt n w) (pow_mono h)

-- ## The values of a world are its number's bits

pub value_bit_suc : (n : ℕ) (w : World n) (m : ℕ) → value n w (suc m) ≡ bit (number n w) m
value_bit_suc zero w m = sym (bit_zero m)
value_bit_suc (suc n) w zero =
    sym (bit_lowest (number (suc n) w) ∙ lowest_digit w.0 (number n w.1))
value_bit_suc (suc n) w (suc m) =
    let other : nat_eq (suc (suc m)) 1 ≡ false = ne_eqb (suc (suc m)) 1 (λ e. omega arith) in
    let before : suc (suc m) - 1 ≡ suc m = omega arith in
    cond-false (suc (suc m) == 1) w.0 (value n w.1 (suc (suc m) - 1)) other
    ∙ ap (value n w.1) before ∙ value_bit_suc n w.1 m
    ∙ ap (λ (x : ℕ). bit x m) (sym (digits_above w.0 (number n w.1))) ∙ sym (bit_above (number (suc n) w) m)

-- a condition past n is false, and so is the bit, since a world's number ends below it
pub value_bit : (n : ℕ) (w : World n) (p : ℕ) → 1 ≤ p → value n w p ≡ bit (number n w) (p - 1)
value_bit n w p low =
    let next : suc (p - 1) ≡ p = omega arith in
    subst (λ (q : ℕ). value n w q ≡ bit (number n w) (p - 1)) next (value_bit_suc n w (p - 1))

-- a literal of one of m conditions is so in a world exactly where it is by the number's bits
pub holds_bits : (m n : ℕ) (w : World n) (l : Literal) → speaks_within m l ≡ true → holds n w l ≡ number_holds (number n w) l
holds_bits m n w (pos p) within =
    value_bit n w p (ltb-true 0 p (and_parts (nat_lt 0 p) (nat_le p m) within).0)
holds_bits m n w (negsuc p) within = ap not (value_bit_suc n w p)

-- ## Some world passes a test exactly where some number's world does

pub some_number : (n : ℕ) (test : World n → Bool) → some_world n test ≡ true → (k : ℕ) × (k < 2 ^ n) × (test (world_of n k) ≡ true)
some_number n test some =
    let found = the_world n test some in
    (number n found.0, number_lt n found.0, ap test (world_of_number n found.0) ∙ found.1)

pub number_some : (n : ℕ) (test : World n → Bool) (k : ℕ) → test (world_of n k) ≡ true → some_world n test ≡ true
number_some n test k passes = some_world_from n test (world_of n k) passes
