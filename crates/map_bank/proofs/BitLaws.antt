-- The bits of what the operations on words give, and that words with the same bits are equal.
-- Assumes nothing.
use Rattle.std.specs.Prelude.{◌≡◌, ℕ, zero, suc, ◌-◌, ◌*◌, ◌/◌, ◌%◌, ◌^◌, ◌<◌, Bool, false, cond, not, ◌&&◌, ◌||◌, ◌==◌, nat_eq, refl}
use Rattle.std.proofs.Common.{sym, ◌∙◌, ap, subst, div-one, pow-suc, one-add, arith, shr-shr}
use Rattle.std.proofs.Math.Nat.{zero-div}
use Rattle.std.proofs.Math.Dec.{eqb-suc-suc}
use Rattle.std.specs.Int.Bits.{bit_and, bit_or, bit_xor}
use Rattle.std.proofs.lemmas.Nat.{and_shr, or_shr, xor_shr, and_mod, or_mod, xor_mod, and_mask}
use Rattle.std.proofs.lemmas.Bool.{ne_eqb}
use Rattle.std.proofs.lemmas.Bool.Decides.{nat_tests}
use Rattle.map_bank.specs.Bits.{bit}

-- ## One binary digit

-- whether a number is odd
abbrev odd : ℕ → Bool
odd m = m % 2 == 1

digit_and : (a b : ℕ) → a < 2 → b < 2 → (bit_and a b == 1) ≡ (a == 1 && b == 1)
digit_and zero zero ha hb = refl
digit_and zero (suc zero) ha hb = refl
digit_and zero (suc (suc b)) ha hb = absurd (omega arith)
digit_and (suc zero) zero ha hb = refl
digit_and (suc zero) (suc zero) ha hb = refl
digit_and (suc zero) (suc (suc b)) ha hb = absurd (omega arith)
digit_and (suc (suc a)) b ha hb = absurd (omega arith)

digit_or : (a b : ℕ) → a < 2 → b < 2 → (bit_or a b == 1) ≡ (a == 1 || b == 1)
digit_or zero zero ha hb = refl
digit_or zero (suc zero) ha hb = refl
digit_or zero (suc (suc b)) ha hb = absurd (omega arith)
digit_or (suc zero) zero ha hb = refl
digit_or (suc zero) (suc zero) ha hb = refl
digit_or (suc zero) (suc (suc b)) ha hb = absurd (omega arith)
digit_or (suc (suc a)) b ha hb = absurd (omega arith)

digit_xor : (a b : ℕ) → a < 2 → b < 2 → (bit_xor a b == 1) ≡ cond (a == 1) (not (b == 1)) (b == 1)
digit_xor zero zero ha hb = refl
digit_xor zero (suc zero) ha hb = refl
digit_xor zero (suc (suc b)) ha hb = absurd (omega arith)
digit_xor (suc zero) zero ha hb = refl
digit_xor (suc zero) (suc zero) ha hb = refl
digit_xor (suc zero) (suc (suc b)) ha hb = absurd (omega arith)
digit_xor (suc (suc a)) b ha hb = absurd (omega arith)

below_two : (a : ℕ) → a % 2 < 2
below_two a = omega arith

odd_and : (a b : ℕ) → odd (bit_and a b) ≡ (odd a && odd b)
odd_and a b = ap (λ (x : ℕ). nat_eq x 1) (and_mod a b 1) ∙ digit_and (a % 2) (b % 2) (below_two a) (below_two b)

odd_or : (a b : ℕ) → odd (bit_or a b) ≡ (odd a || odd b)
odd_or a b = ap (λ (x : ℕ). nat_eq x 1) (or_mod a b 1) ∙ digit_or (a % 2) (b % 2) (below_two a) (below_two b)

odd_xor : (a b : ℕ) → odd (bit_xor a b) ≡ cond (odd a) (not (odd b)) (odd b)
odd_xor a b = ap (λ (x : ℕ). nat_eq x 1) (xor_mod a b 1) ∙ digit_xor (a % 2) (b % 2) (below_two a) (below_two b)

-- ## The bits of `a & b`, `a | b` and `a ^ b`

pub bit_of_and : (a b i : ℕ) → bit (bit_and a b) i ≡ (bit a i && bit b i)
bit_of_and a b i = ap odd (and_shr a b i) ∙ odd_and (a / 2 ^ i) (b / 2 ^ i)

pub bit_of_or : (a b i : ℕ) → bit (bit_or a b) i ≡ (bit a i || bit b i)
bit_of_or a b i = ap odd (or_shr a b i) ∙ odd_or (a / 2 ^ i) (b / 2 ^ i)

pub bit_of_xor : (a b i : ℕ) → bit (bit_xor a b) i ≡ cond (bit a i) (not (bit b i)) (bit b i)
bit_of_xor a b i = ap odd (xor_shr a b i) ∙ odd_xor (a / 2 ^ i) (b / 2 ^ i)

-- ## Bit 0, and the bits above it

pub bit_lowest : (m : ℕ) → bit m 0 ≡ (m % 2 == 1)
bit_lowest m = ap odd (div-one m)

pub bit_above : (m i : ℕ) → bit m (suc i) ≡ bit (m / 2) i
bit_above m i =
    ap odd (sym (shr-shr m 1 i ∙ ap (λ (x : ℕ). m / 2 ^ x) (one-add i)))

pub bit_zero : (i : ℕ) → bit 0 i ≡ false
bit_zero i = ap odd (zero-div (2 ^ i))

-- ## One bit alone

-- half of the next power, and that the next power is even
half_power : (k : ℕ) → 2 ^ suc k / 2 ≡ 2 ^ k
half_power k = let twice : 2 ^ suc k ≡ 2 ^ k * 2 = pow-suc 2 k in omega arith

even_power : (k : ℕ) → 2 ^ suc k % 2 ≡ 0
even_power k = let twice : 2 ^ suc k ≡ 2 ^ k * 2 = pow-suc 2 k in omega arith

pub bit_power : (j i : ℕ) → bit (2 ^ j) i ≡ (i == j)
bit_power zero zero = refl
bit_power zero (suc i) = bit_above 1 i ∙ bit_zero i ∙ sym (ne_eqb (suc i) 0 (λ e. omega arith))
bit_power (suc j) zero = bit_lowest (2 ^ suc j) ∙ ap (λ (x : ℕ). nat_eq x 1) (even_power j) ∙ sym (ne_eqb 0 (suc j) (λ e. omega arith))
bit_power (suc j) (suc i) =
    bit_above (2 ^ suc j) i ∙ ap (λ (x : ℕ). bit x i) (half_power j) ∙ bit_power j i ∙ sym (eqb-suc-suc i j)

-- ## The complement

odd_turns : (k m : ℕ) → m < k * 2 → odd (k * 2 - 1 - m) ≡ not (odd m)
odd_turns k m h = grind (arith, nat_tests)

half_turns : (k m : ℕ) → m < 2 ^ suc k → (2 ^ suc k - 1 - m) / 2 ≡ 2 ^ k - 1 - m / 2
half_turns k m h = let twice : 2 ^ suc k ≡ 2 ^ k * 2 = pow-suc 2 k in omega arith

half_below : (k m : ℕ) → m < 2 ^ suc k → m / 2 < 2 ^ k
half_below k m h = let twice : 2 ^ suc k ≡ 2 ^ k * 2 = pow-suc 2 k in omega arith

lowest_turns : (k m : ℕ) → m < 2 ^ suc k → odd (2 ^ suc k - 1 - m) ≡ not (odd m)
lowest_turns k m h =
    let twice : 2 ^ suc k ≡ 2 ^ k * 2 = pow-suc 2 k in
    ap (λ (x : ℕ). odd (x - 1 - m)) twice ∙ odd_turns (2 ^ k) m (subst (λ (x : ℕ). m < x) twice h)

-- the bits of the complement of a word of k bits
pub bit_complement_at : (k m i : ℕ) → m < 2 ^ k → i < k → bit (2 ^ k - 1 - m) i ≡ not (bit m i)
bit_complement_at zero m i hm hi = absurd (omega arith)
bit_complement_at (suc k) m zero hm hi =
    bit_lowest (2 ^ suc k - 1 - m) ∙ lowest_turns k m hm ∙ ap not (sym (bit_lowest m))
bit_complement_at (suc k) m (suc i) hm hi =
    bit_above (2 ^ suc k - 1 - m) i ∙ ap (λ (x : ℕ). bit x i) (half_turns k m hm)
    ∙ bit_complement_at k (m / 2) i (half_below k m hm) (omega arith) ∙ ap not (sym (bit_above m i))

-- the bits of `!m`
pub bit_complement : (m i : ℕ) → m < 2 ^ 64 → i < 64 → bit (2 ^ 64 - 1 - m) i ≡ not (bit m i)
bit_complement m i hm hi = bit_complement_at 64 m i hm hi

-- ## Words with the same bits are equal

same_lowest : (a b : ℕ) → odd a ≡ odd b → a % 2 ≡ b % 2
same_lowest a b same = grind (arith, nat_tests)

pub same_bits_at : (k a b : ℕ) → a < 2 ^ k → b < 2 ^ k → ((i : ℕ) → i < k → bit a i ≡ bit b i) → a ≡ b
same_bits_at zero a b ha hb same = omega arith
same_bits_at (suc k) a b ha hb same =
    let lowest : a % 2 ≡ b % 2 = same_lowest a b (sym (bit_lowest a) ∙ same 0 (omega arith) ∙ bit_lowest b) in
    let above : a / 2 ≡ b / 2 = same_bits_at k (a / 2) (b / 2) (half_below k a ha) (half_below k b hb)
    (λ i hi. sym (bit_above a i) ∙ same (suc i) (omega arith) ∙ bit_above b i) in
    omega arith

pub same_bits : (a b : ℕ) → a < 2 ^ 64 → b < 2 ^ 64 → ((i : ℕ) → i < 64 → bit a i ≡ bit b i) → a ≡ b
same_bits a b ha hb same = same_bits_at 64 a b ha hb same

-- ## The test of a bit

-- what `x >> b & 1` is
pub shift_and_one : (x b : ℕ) → bit_and (x / 2 ^ b) 1 ≡ (x / 2 ^ b) % 2
shift_and_one x b = and_mask (x / 2 ^ b) 1

-- `x >> b & 1 == 1` tests bit b
pub shift_test : (x b : ℕ) → (bit_and (x / 2 ^ b) 1 == 1) ≡ bit x b
shift_test x b = ap (λ (y : ℕ). nat_eq y 1) (shift_and_one x b)

-- ## One bit put

-- `x | 1 << j` has bit j, and each other bit as x has it
pub bit_put : (x j i : ℕ) → bit (bit_or x (2 ^ j)) i ≡ (bit x i || i == j)
bit_put x j i = bit_of_or x (2 ^ j) i ∙ ap (λ (b : Bool). bit x i || b) (bit_power j i)
