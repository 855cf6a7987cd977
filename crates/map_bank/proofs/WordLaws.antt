-- Words of bits as sets of worlds: a world put in, and the worlds that meet literals.
-- Assumes nothing.
use Rattle.std.proofs.Common.{◌≡◌, ℕ, suc, ◌+◌, ◌-◌, ◌*◌, ◌/◌, ◌%◌, ◌^◌, ◌<◌, ◌≤◌, Bool, true, false, not, ◌&&◌, ◌||◌, eqb, ltb, leb, List, [], ◌∷◌, length, get_or, drop, set, pos, negsuc, nat_abs, sym, ap, ◌∙◌, subst, inl, inr, add-one, arith, drop-cons, get_or-set_other, get_or-set_same}
use lib.Bits.{bit_and, bit_or}
use lib.Signed.{lt_z}
use lib.Seq.{drop-length}
use Rattle.std.proofs.Math.Bool.{or-false, and-true, and_assoc}
use Rattle.std.proofs.lemmas.Bool.{cases_eq, and_parts, ltb-true, ltb-false, ne_eqb}
use Rattle.std.proofs.lemmas.Bool.Decides.{nat_tests}
use Rattle.worlds.specs.Worlds.{World, Literal, holds, meets, speaks_within}
use Rattle.worlds.specs.Tickets.{every}
use Rattle.map_bank.specs.Bits.{bit}
use Rattle.map_bank.specs.Numbers.{number, number_holds, in_words}
use Rattle.map_bank.proofs.BitLaws.{bit_of_and, bit_zero, bit_put, bit_complement}
use Rattle.map_bank.proofs.NumberLaws.{holds_bits}

-- ## A world put into a set

-- the words after `words[world / 64] |= 1 << (world % 64)`
abbrev pub with_world : List ℕ → ℕ → List ℕ
with_world words world = set words (world / 64) (bit_or (get_or words (world / 64) 0) (2 ^ (world % 64)))

-- numbers with one quotient are the same where their remainders are
same_in_word : (k world : ℕ) → k / 64 ≡ world / 64 → eqb (k % 64) (world % 64) ≡ eqb k world
same_in_word k world same = grind (arith, nat_tests)

pub in_with_world : (words : List ℕ) (world : ℕ) → world / 64 < length words → (k : ℕ) → in_words (with_world words world) k ≡ (in_words words k || eqb k world)
in_with_world words world within k =
    let put : ℕ = bit_or (get_or words (world / 64) 0) (2 ^ (world % 64)) in
    elim (cases_eq (k / 64) (world / 64)) [
      | inl same ↦
          let here : get_or (with_world words world) (k / 64) 0 ≡ bit_or (get_or words (k / 64) 0) (2 ^ (world % 64)) =
          subst (λ (q : ℕ). get_or (with_world words world) q 0 ≡ bit_or (get_or words q 0) (2 ^ (world % 64))) (sym same)
          (get_or-set_same words (world / 64) put 0 within) in
          ap (λ (x : ℕ). bit x (k % 64)) here ∙ bit_put (get_or words (k / 64) 0) (world % 64) (k % 64)
          ∙ ap (λ (b : Bool). in_words words k || b) (same_in_word k world same)
      | inr other ↦
          let none : eqb k world ≡ false = ne_eqb k world (λ e. other (ap (λ (x : ℕ). x / 64) e)) in
          ap (λ (x : ℕ). bit x (k % 64)) (get_or-set_other words (world / 64) (k / 64) put 0 other)
          ∙ sym (or-false (in_words words k)) ∙ ap (λ (b : Bool). in_words words k || b) (sym none)
    ]

-- ## The worlds in which a literal is so

-- the complement of a condition's truth word has the worlds in which the condition is false
pub denied_holds : (l : Literal) (k truth : ℕ) → speaks_within 10 l ≡ true → lt_z (pos 0) l ≡ false → truth < 2 ^ 64 → ((b : ℕ) → b < 64 → bit truth b ≡ bit (64 * k + b) (nat_abs l - 1)) → (b : ℕ) → b < 64 → bit (2 ^ 64 - 1 - truth) b ≡ number_holds (64 * k + b) l
denied_holds (pos p) k truth within denied small right b hb =
    let some : 0 < p = ltb-true 0 p (and_parts (ltb 0 p) (leb p 10) within).0 in
    let none : p ≤ 0 = ltb-false 0 p denied in
    absurd (omega arith)
denied_holds (negsuc m) k truth within denied small right b hb =
    let before : suc m - 1 ≡ m = omega arith in
    bit_complement truth b small hb ∙ ap not (right b hb ∙ ap (bit (64 * k + b)) before)

-- ## The worlds that meet a list

-- every bit of `u64::MAX` is one
bit_all : (b : ℕ) → b < 64 → bit (2 ^ 64 - 1) b ≡ true
bit_all b hb = bit_complement 0 b (omega arith) hb ∙ ap not (bit_zero b)

-- what passes a test from a place on: the element at the place, and those after it
pub every_from : {X : Type 0} (test : X → Bool) (xs : List X) (i : ℕ) (d : X) → i < length xs → every test (drop i xs) ≡ true → (test (get_or xs i d) ≡ true) × (every test (drop (suc i) xs) ≡ true)
every_from {X} test xs i d h all =
    and_parts (test (get_or xs i d)) (every test (drop (suc i) xs))
    (subst (λ (ys : List X). every test ys ≡ true) (drop-cons xs i d h) all)

-- a world meets a list where its bit in word k is one and it meets the rest of the list
abbrev Masks : ℕ → ℕ → List Literal → List Literal → Type 0
Masks mask k list rest =
    (n : ℕ) (w : World n) (b : ℕ) → b < 64 → number n w ≡ 64 * k + b → meets n w list ≡ (bit mask b && meets n w rest)

masks_none : (k : ℕ) (list : List Literal) → Masks (2 ^ 64 - 1) k list list
masks_none k list n w b hb is = ap (λ (x : Bool). x && meets n w list) (sym (bit_all b hb))

masks_more : (mask more k : ℕ) (list rest : List Literal) (l : Literal) → speaks_within 10 l ≡ true → Masks mask k list (l ∷ rest) → ((b : ℕ) → b < 64 → bit more b ≡ number_holds (64 * k + b) l) → Masks (bit_and mask more) k list rest
masks_more mask more k list rest l within before right n w b hb is =
    let so : holds n w l ≡ bit more b =
    holds_bits 10 n w l within ∙ ap (λ (m : ℕ). number_holds m l) is ∙ sym (right b hb) in
    before n w b hb is ∙ ap (λ (x : Bool). bit mask b && (x && meets n w rest)) so
    ∙ sym (and_assoc (bit mask b) (bit more b) (meets n w rest))
    ∙ ap (λ (x : Bool). x && meets n w rest) (sym (bit_of_and mask more b))

masks_all : (mask k : ℕ) (list : List Literal) → Masks mask k list [] → (n : ℕ) (w : World n) (b : ℕ) → b < 64 → number n w ≡ 64 * k + b → bit mask b ≡ meets n w list
masks_all mask k list masks n w b hb is = sym (masks n w b hb is ∙ and-true (bit mask b))

-- word k after the first i literals of a list: their worlds, and the literals left to come are of conditions 1 to 10
abbrev pub MasksFirst : ℕ → ℕ → List Literal → ℕ → Type 0
MasksFirst mask k list i = (every (speaks_within 10) (drop i list) ≡ true) × Masks mask k list (drop i list)

pub first_none : (k : ℕ) (list : List Literal) → every (speaks_within 10) list ≡ true → MasksFirst (2 ^ 64 - 1) k list 0
first_none k list within = (within, masks_none k list)

pub first_more : (mask more k : ℕ) (list : List Literal) (i : ℕ) → i < length list → MasksFirst mask k list i → ((b : ℕ) → b < 64 → bit more b ≡ number_holds (64 * k + b) (get_or list i (pos 0))) → MasksFirst (bit_and mask more) k list (i + 1)
first_more mask more k list i h first right =
    let within = every_from (speaks_within 10) list i (pos 0) h first.0 in
    let here : Masks mask k list (get_or list i (pos 0) ∷ drop (suc i) list) =
    subst (λ (rest : List Literal). Masks mask k list rest) (drop-cons list i (pos 0) h) first.1 in
    subst (MasksFirst (bit_and mask more) k list) (sym (add-one i))
    (within.1, masks_more mask more k list (drop (suc i) list) (get_or list i (pos 0)) within.0 here right)

pub first_all : (mask k : ℕ) (list : List Literal) (i : ℕ) → i ≡ length list → MasksFirst mask k list i → (n : ℕ) (w : World n) (b : ℕ) → b < 64 → number n w ≡ 64 * k + b → bit mask b ≡ meets n w list
first_all mask k list i end first =
    let rest : drop i list ≡ [] = ap (λ (j : ℕ). drop j list) end ∙ drop-length list in
    masks_all mask k list (subst (λ (ls : List Literal). Masks mask k list ls) rest first.1)
