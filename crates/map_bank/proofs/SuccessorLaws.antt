-- The worlds that outcomes give from a set, by their numbers.
-- Assumes nothing.
use Rattle.std.proofs.Common.{◌≡◌, ℕ, zero, suc, ◌+◌, ◌-◌, ◌*◌, ◌/◌, ◌%◌, ◌^◌, ◌<◌, ◌≤◌, Bool, true, false, cond, not, ◌&&◌, ◌||◌, eqb, ltb, leb, List, [], ◌∷◌, map, length, get_or, drop, pos, negsuc, nat_abs, sym, refl, ap, ◌∙◌, subst, ap₂, inl, inr, lt_of_lt_of_le, lt_of_le_of_lt, add-zero, add_assoc, add-suc, add-one, arith, pow_mono}
use lib.Bits.{bit_and, bit_or, and_le_l, or_lt}
use lib.Dec.{eqb-suc-suc}
use lib.ListN.{length-map}
use lib.Seq.{drop-length}
use lib.IntN.{neg_ℤ-neg_ℤ}
use lib.Signed.{lt_z}
use Rattle.std.proofs.lemmas.Nat.{pow_below, one_shl}
use Rattle.std.proofs.lemmas.Bool.{cases_eq, both_ways, not-true, true≢false, false≢true, eqb-true, eq-eqb, ltb-true, ltb-false, lt-ltb, leb-true, and_parts, and_from, and_left, and_right, or_cases, or_from, or_left, or_right}
use Rattle.worlds.specs.declared.step.Effect as code_effect
use Rattle.worlds.specs.declared.step.Outcome as code_outcome
use Rattle.worlds.specs.Meaning.{effect_of, outcome_of, listed}
use Rattle.worlds.specs.Worlds.{World, value, world_by, Literal, opposite, same_literal, meets, speaks_within, consistent}
use Rattle.worlds.specs.Steps.{Effect, Outcome, brings, after}
use Rattle.worlds.specs.Sets.{same_world, may_give, successor}
use Rattle.worlds.specs.Tickets.{every, lawful_list, lawful_effect, clashes_later, apart, lawful_outcome}
use Rattle.worlds.proofs.Compatible.{same_tests, cannot_pass, same_literal_is, value_rest, value_by}
use Rattle.worlds.proofs.TakeHold.{brought_by, met_clash, clashes_in}
use Rattle.map_bank.specs.Bits.{bit}
use Rattle.map_bank.specs.Numbers.{number, world_of, in_words, set_of}
use Rattle.map_bank.specs.Successors.{made, Masked, gives, some_from}
use Rattle.map_bank.proofs.BitLaws.{bit_of_and, bit_zero, bit_put, bit_power, bit_complement, same_bits_at, shift_test}
use Rattle.map_bank.proofs.NumberLaws.{number_lt, world_of_number, number_of_world, some_number, number_some, value_bit_suc}
use Rattle.map_bank.proofs.SameLaws.{same_world_self, same_world_is}
use Rattle.map_bank.proofs.TicketLaws.{every_more, speaks_wider, all_speak_wider}
use Rattle.std.proofs.Math.Bool.{or-false, or_assoc}

-- ## Worlds by rules

-- rules that agree on conditions 1 to n give one world
by_same : (n : ℕ) (f g : ℕ → Bool) → ((m : ℕ) → suc m ≤ n → f (suc m) ≡ g (suc m)) → world_by n f ≡ world_by n g
by_same zero f g same = refl
by_same (suc n) f g same =
    ap₂ (λ (b : Bool) (v : World n). (b, v))
    (same 0 (omega arith))
    (by_same n (λ p. f (suc p)) (λ p. g (suc p)) (λ m h. same (suc m) (omega arith)))

-- a world is the one by its own values
by_values : (n : ℕ) (v : World n) → world_by n (value n v) ≡ v
by_values zero v = refl
by_values (suc n) v =
    ap (λ (u : World n). (v.0, u))
    (by_same n (λ p. value (suc n) v (suc p)) (value n v.1) (λ m h. value_rest n v.0 v.1 m) ∙ by_values n v.1)

-- ## One literal made so

or_chosen : (x e : Bool) → (x || e) ≡ cond e true x
or_chosen true true = refl
or_chosen true false = refl
or_chosen false true = refl
or_chosen false false = refl

and_chosen : (x e : Bool) → (x && not e) ≡ cond e false x
and_chosen true true = refl
and_chosen true false = refl
and_chosen false true = refl
and_chosen false false = refl

-- the bits of a changed world's number are the values that the change gives
made_bits : (n : ℕ) (l : Literal) (w : World n) (i : ℕ) → i < n → cond (same_literal (pos (suc i)) l) true (cond (same_literal (negsuc i) l) false (bit (number n w) i)) ≡ bit (number n (made n l w)) i
made_bits n l w i h =
    ap (λ (x : Bool). cond (same_literal (pos (suc i)) l) true (cond (same_literal (negsuc i) l) false x)) (sym (value_bit_suc n w i))
    ∙ sym (value_by n (λ p. cond (same_literal (pos p) l) true (cond (same_literal (opposite (pos p)) l) false (value n w p))) i h)
    ∙ value_bit_suc n (made n l w) i

-- `world | 1 << p`
made_true : (n p : ℕ) (w : World n) → suc p ≤ n → bit_or (number n w) (2 ^ p) ≡ number n (made n (pos (suc p)) w)
made_true n p w h =
    same_bits_at n _ _ (or_lt n _ _ (number_lt n w) (pow_below p n h)) (number_lt n _)
    (λ i hi.
    bit_put (number n w) p i ∙ or_chosen (bit (number n w) i) (eqb i p)
    ∙ ap (λ (e : Bool). cond e true (bit (number n w) i)) (sym (eqb-suc-suc i p))
    ∙ made_bits n (pos (suc p)) w i hi)

-- `world & !(1 << m)`
made_false : (n m : ℕ) (w : World n) → n ≤ 10 → suc m ≤ n → bit_and (number n w) (2 ^ 64 - 1 - 2 ^ m) ≡ number n (made n (negsuc m) w)
made_false n m w small h =
    same_bits_at n _ _ (lt_of_le_of_lt (and_le_l _ _) (number_lt n w)) (number_lt n _)
    (λ i hi.
    bit_of_and (number n w) (2 ^ 64 - 1 - 2 ^ m) i
    ∙ ap (λ (b : Bool). bit (number n w) i && b) (bit_complement (2 ^ m) i (pow_below m 64 (omega arith)) (omega arith) ∙ ap not (bit_power m i))
    ∙ and_chosen (bit (number n w) i) (eqb i m)
    ∙ made_bits n (negsuc m) w i hi)

-- the power that the code shifts to
shifted : (size p : ℕ) → size ≡ suc p → p < 64 → (1 * 2 ^ (size - 1)) % 2 ^ 64 ≡ 2 ^ p
shifted size p is h =
    let before : size - 1 ≡ p = omega arith in
    ap (λ (q : ℕ). (1 * 2 ^ q) % 2 ^ 64) before ∙ one_shl p 64 h

-- what the code gives for a literal that says its condition is true
pub changed_true : (l : Literal) (size world : ℕ) → lt_z (pos 0) l ≡ true → size ≡ nat_abs l → (n : ℕ) (w : World n) → n ≤ 10 → speaks_within n l ≡ true → number n w ≡ world → bit_or world ((1 * 2 ^ (size - 1)) % 2 ^ 64) ≡ number n (made n l w)
changed_true (pos zero) size world so is n w small within number_is = absurd (false≢true within)
changed_true (pos (suc p)) size world so is n w small within number_is =
    let inside : suc p ≤ n = leb-true (suc p) n (and_parts (ltb 0 (suc p)) (leb (suc p) n) within).1 in
    ap₂ bit_or (sym number_is) (shifted size p is (omega arith)) ∙ made_true n p w inside
changed_true (negsuc m) size world so is n w small within number_is = absurd (false≢true so)

-- and for one that says it is false
pub changed_false : (l : Literal) (size world : ℕ) → lt_z (pos 0) l ≡ false → size ≡ nat_abs l → (n : ℕ) (w : World n) → n ≤ 10 → speaks_within n l ≡ true → number n w ≡ world → bit_and world (2 ^ 64 - 1 - (1 * 2 ^ (size - 1)) % 2 ^ 64) ≡ number n (made n l w)
changed_false (pos zero) size world denied is n w small within number_is = absurd (false≢true within)
changed_false (pos (suc p)) size world denied is n w small within number_is =
    let none : suc p ≤ 0 = ltb-false 0 (suc p) denied in
    absurd (omega arith)
changed_false (negsuc m) size world denied is n w small within number_is =
    let inside : suc m ≤ n = leb-true (suc m) n within in
    ap₂ (λ (x y : ℕ). bit_and x (2 ^ 64 - 1 - y)) (sym number_is) (shifted size m is (omega arith)) ∙ made_false n m w small inside

-- ## The effects of an outcome, one after another

-- the world in which, from v on, the results of all effects that w meets have taken hold
abbrev later_rule : (n : ℕ) → Outcome → World n → World n → ℕ → Bool
later_rule n es w v p = cond (brings n es w (pos p)) true (cond (brings n es w (opposite (pos p))) false (value n v p))

abbrev pub later : (n : ℕ) → Outcome → World n → World n → World n
later n es w v = world_by n (later_rule n es w v)

pub later_none : (n : ℕ) (w v : World n) → later n [] w v ≡ v
later_none n w v = by_values n v

-- an effect that is not met changes nothing
pub later_skip : (n : ℕ) (e : Effect) (es : Outcome) (w v : World n) → meets n w e.conditions ≡ false → later n (e ∷ es) w v ≡ later n es w v
later_skip n e es w v unmet =
    ap (λ (b : Bool). world_by n (λ p. cond ((b && same_literal (pos p) e.result) || brings n es w (pos p)) true (cond ((b && same_literal (opposite (pos p)) e.result) || brings n es w (opposite (pos p))) false (value n v p)))) unmet

-- of two results for one condition that do not contradict each other, the order does not matter
any_order : (sp sn bp bn x : Bool) → (sp ≡ true → bn ≡ false) → (sn ≡ true → bp ≡ false) → cond (sp || bp) true (cond (sn || bn) false x) ≡ cond bp true (cond bn false (cond sp true (cond sn false x)))
any_order true sn true bn x no-bn no-bp = refl
any_order true sn false true x no-bn no-bp = absurd (true≢false (no-bn refl))
any_order true sn false false x no-bn no-bp = refl
any_order false true true bn x no-bn no-bp = absurd (true≢false (no-bp refl))
any_order false true false true x no-bn no-bp = refl
any_order false true false false x no-bn no-bp = refl
any_order false false true bn x no-bn no-bp = refl
any_order false false false true x no-bn no-bp = refl
any_order false false false false x no-bn no-bp = refl

-- no later effect that is met brings the opposite of what an effect that is met brings
not_against : (n : ℕ) (e : Effect) (es : Outcome) (w : World n) → apart n (e ∷ es) ≡ true → meets n w e.conditions ≡ true → brings n es w (opposite e.result) ≡ false
not_against n e es w fine met =
    let parts = and_parts (not (clashes_later n e es)) (apart n es) fine in
    cannot_pass _
    (λ brought.
    let found = brought_by n es w (opposite e.result) brought in
    let back : opposite found.0.result ≡ e.result = ap opposite found.3 ∙ neg_ℤ-neg_ℤ e.result in
    both_ways _ (not-true _ parts.0)
    (clashes_in n e es found.0 found.1 (met_clash n w e found.0 met found.2 back)))

-- an effect that is met makes its result so before the rest
pub later_take : (n : ℕ) (e : Effect) (es : Outcome) (w v : World n) → apart n (e ∷ es) ≡ true → meets n w e.conditions ≡ true → later n (e ∷ es) w v ≡ later n es w (made n e.result v)
later_take n e es w v fine met =
    let l : Literal = e.result in
    let against : brings n es w (opposite l) ≡ false = not_against n e es w fine met in
    let rule : ℕ → Bool = λ p. cond (same_literal (pos p) l) true (cond (same_literal (opposite (pos p)) l) false (value n v p)) in
    ap (λ (b : Bool). world_by n (λ p. cond ((b && same_literal (pos p) l) || brings n es w (pos p)) true (cond ((b && same_literal (opposite (pos p)) l) || brings n es w (opposite (pos p))) false (value n v p)))) met
    ∙ by_same n (λ p. cond (same_literal (pos p) l || brings n es w (pos p)) true (cond (same_literal (opposite (pos p)) l || brings n es w (opposite (pos p))) false (value n v p))) (later_rule n es w (made n l v))
    (λ m h.
    any_order (same_literal (pos (suc m)) l) (same_literal (negsuc m) l) (brings n es w (pos (suc m))) (brings n es w (negsuc m)) (value n v (suc m))
    (λ same. subst (λ (k : Literal). brings n es w (opposite k) ≡ false) (sym (same_literal_is (pos (suc m)) l same)) against)
    (λ same. subst (λ (k : Literal). brings n es w (opposite k) ≡ false) (sym (same_literal_is (negsuc m) l same)) against)
    ∙ ap (λ (x : Bool). cond (brings n es w (pos (suc m))) true (cond (brings n es w (negsuc m)) false x)) (sym (value_by n rule m h)))

-- ## The effects that the code keeps

-- what all of a list pass, the element at a place passes
every_at : {X Y : Type 0} (test : Y → Bool) (f : X → Y) (xs : List X) (i : ℕ) (d : X) → i < length xs → every test (map f xs) ≡ true → test (f (get_or xs i d)) ≡ true
every_at test f [] i d h all = absurd (omega arith)
every_at test f (x ∷ xs) zero d h all = (and_parts (test (f x)) (every test (map f xs)) all).0
every_at test f (x ∷ xs) (suc i) d h all =
    every_at test f xs i d (omega arith) (and_parts (test (f x)) (every test (map f xs)) all).1

-- the conditions of a lawful effect, and its result, speak of conditions 1 to n
pub conditions_within : (n : ℕ) (e : Effect) → lawful_effect n e ≡ true → every (speaks_within n) e.conditions ≡ true
conditions_within n e fine =
    let list = (and_parts (lawful_list n 4 e.conditions) (speaks_within n e.result) fine).0 in
    let lists = (and_parts (leb (length e.conditions) 4) (every (speaks_within n) e.conditions && consistent e.conditions) list).1 in
    (and_parts (every (speaks_within n) e.conditions) (consistent e.conditions) lists).0

pub result_within : (n : ℕ) (e : Effect) → lawful_effect n e ≡ true → speaks_within n e.result ≡ true
result_within n e fine = (and_parts (lawful_list n 4 e.conditions) (speaks_within n e.result) fine).1

pub effect_at : (n : ℕ) (effects : List code_effect.Effect) (i : ℕ) (d : code_effect.Effect) → i < length effects → every (lawful_effect n) (map effect_of effects) ≡ true → lawful_effect n (effect_of (get_or effects i d)) ≡ true
effect_at n effects i d h all = every_at (lawful_effect n) effect_of effects i d h all

-- the masks of the first effects are right
abbrev pub MaskedFirst : ℕ → ℕ → List code_effect.Effect → List ℕ → Type 0
MaskedFirst many k effects masks =
    (i : ℕ) (d : code_effect.Effect) → i < many → i < length effects → (n : ℕ) (w : World n) (b : ℕ) → b < 64 → number n w ≡ 64 * k + b →
    bit (get_or masks i 0) b ≡ meets n w (listed (get_or effects i d).conditions)

-- ## The effects that the code takes

-- the world that has taken some of an outcome's effects: the rest has yet to take hold
abbrev TakenRest : ℕ → List code_effect.Effect → List code_effect.Effect → ℕ → Type 0
TakenRest world effects rest next =
    (n : ℕ) (w : World n) → n ≤ 10 → every (lawful_effect n) (map effect_of effects) ≡ true → apart n (map effect_of effects) ≡ true → number n w ≡ world →
    (v : World n) × (next ≡ number n v) × (apart n (map effect_of rest) ≡ true) × (later n (map effect_of rest) w v ≡ after n (map effect_of effects) w)

rest_skip : (world next : ℕ) (effects rest : List code_effect.Effect) (e : code_effect.Effect) → TakenRest world effects (e ∷ rest) next → ((n : ℕ) (w : World n) → number n w ≡ world → meets n w (listed e.conditions) ≡ false) → TakenRest world effects rest next
rest_skip world next effects rest e before unmet n w small fine clear is =
    let was = before n w small fine clear is in
    let parts = and_parts (not (clashes_later n (effect_of e) (map effect_of rest))) (apart n (map effect_of rest)) was.2 in
    (was.0, was.1, parts.1, sym (later_skip n (effect_of e) (map effect_of rest) w was.0 (unmet n w is)) ∙ was.3)

rest_take : (world next new : ℕ) (effects rest : List code_effect.Effect) (e : code_effect.Effect) → TakenRest world effects (e ∷ rest) next → ((n : ℕ) (w : World n) → number n w ≡ world → meets n w (listed e.conditions) ≡ true) → ((n : ℕ) → every (lawful_effect n) (map effect_of effects) ≡ true → speaks_within n e.result ≡ true) → ((n : ℕ) (v : World n) → n ≤ 10 → speaks_within n e.result ≡ true → number n v ≡ next → new ≡ number n (made n e.result v)) → TakenRest world effects rest new
rest_take world next new effects rest e before met within change n w small fine clear is =
    let was = before n w small fine clear is in
    let parts = and_parts (not (clashes_later n (effect_of e) (map effect_of rest))) (apart n (map effect_of rest)) was.2 in (
      made n e.result was.0,
      change n was.0 small (within n fine) (sym was.1),
      parts.1,
      sym (later_take n (effect_of e) (map effect_of rest) w was.0 was.2 (met n w is)) ∙ was.3,
    )

-- the masks tell whether a world meets the first of some effects
met_first : (world : ℕ) (e : code_effect.Effect) (rest : List code_effect.Effect) (m : ℕ) (masks : List ℕ) (met : Bool) → Masked (world / 64) (e ∷ rest) (m ∷ masks) → eqb (bit_and (m / 2 ^ (world % 64)) 1) 1 ≡ met → (n : ℕ) (w : World n) → number n w ≡ world → meets n w (listed e.conditions) ≡ met
met_first world e rest m masks met right test n w is =
    let split : number n w ≡ 64 * (world / 64) + world % 64 = omega arith in
    sym (right 0 e (omega arith) n w (world % 64) (omega arith) split) ∙ sym (shift_test m (world % 64)) ∙ test

-- an outcome's effects that have yet to take hold, and their masks, where the world so far has number next
pub record Left (world : ℕ) (effects rest : List code_effect.Effect) (masks : List ℕ) (next : ℕ) : Type 0 where
  pub lawful : (n : ℕ) → every (lawful_effect n) (map effect_of effects) ≡ true → every (lawful_effect n) (map effect_of rest) ≡ true
  pub room : length rest ≤ length masks
  pub masked : Masked (world / 64) rest masks
  pub taken : TakenRest world effects rest next

-- the first of the effects speaks of lawful conditions
left_within : (world next : ℕ) (effects rest : List code_effect.Effect) (e : code_effect.Effect) (masks : List ℕ) → Left world effects (e ∷ rest) masks next → (n : ℕ) → every (lawful_effect n) (map effect_of effects) ≡ true → speaks_within n e.result ≡ true
left_within world next effects rest e masks left n fine =
    result_within n (effect_of e) (and_parts (lawful_effect n (effect_of e)) (every (lawful_effect n) (map effect_of rest)) (left.lawful n fine)).0

-- one effect fewer
left_fewer : (world next new : ℕ) (effects rest : List code_effect.Effect) (e : code_effect.Effect) (masks : List ℕ) (m : ℕ) → Left world effects (e ∷ rest) (m ∷ masks) next → TakenRest world effects rest new → Left world effects rest masks new
left_fewer world next new effects rest e masks m left taken = record {
  lawful = λ n fine. (and_parts (lawful_effect n (effect_of e)) (every (lawful_effect n) (map effect_of rest)) (left.lawful n fine)).1;
  room = let room : suc (length rest) ≤ suc (length masks) = left.room in omega arith;
  masked = λ i d h. left.masked (suc i) d (omega arith);
  taken = taken;
}

left_first : (world next : ℕ) (effects all rest : List code_effect.Effect) (e : code_effect.Effect) (bits masks : List ℕ) (m : ℕ) → Left world effects all bits next → all ≡ e ∷ rest → bits ≡ m ∷ masks → Left world effects (e ∷ rest) (m ∷ masks) next
left_first world next effects all rest e bits masks m left is at =
    subst (λ (ms : List ℕ). Left world effects (e ∷ rest) ms next) at (subst (λ (es : List code_effect.Effect). Left world effects es bits next) is left)

pub left_skip : (world next : ℕ) (effects all rest : List code_effect.Effect) (e : code_effect.Effect) (bits masks : List ℕ) (m : ℕ) → Left world effects all bits next → all ≡ e ∷ rest → bits ≡ m ∷ masks → eqb (bit_and (m / 2 ^ (world % 64)) 1) 1 ≡ false → Left world effects rest masks next
left_skip world next effects all rest e bits masks m left is at test =
    let first = left_first world next effects all rest e bits masks m left is at in
    left_fewer world next next effects rest e masks m first
    (rest_skip world next effects rest e first.taken (met_first world e rest m masks false first.masked test))

pub left_take : (world next new : ℕ) (effects all rest : List code_effect.Effect) (e : code_effect.Effect) (bits masks : List ℕ) (m : ℕ) → Left world effects all bits next → all ≡ e ∷ rest → bits ≡ m ∷ masks → eqb (bit_and (m / 2 ^ (world % 64)) 1) 1 ≡ true → ((n : ℕ) (v : World n) → n ≤ 10 → speaks_within n e.result ≡ true → number n v ≡ next → new ≡ number n (made n e.result v)) → Left world effects rest masks new
left_take world next new effects all rest e bits masks m left is at test change =
    let first = left_first world next effects all rest e bits masks m left is at in
    left_fewer world next new effects rest e masks m first
    (rest_take world next new effects rest e first.taken (met_first world e rest m masks true first.masked test) (left_within world next effects rest e (m ∷ masks) first) change)

-- where no effect is left, the world is that after the outcome
pub left_none : (world next : ℕ) (effects : List code_effect.Effect) (rest : List code_effect.Effect) (masks : List ℕ) → length rest ≡ 0 → Left world effects rest masks next → (n : ℕ) (w : World n) → n ≤ 10 → every (lawful_effect n) (map effect_of effects) ≡ true → apart n (map effect_of effects) ≡ true → number n w ≡ world → next ≡ number n (after n (map effect_of effects) w)
left_none world next effects [] masks none left n w small fine clear is =
    let was = left.taken n w small fine clear is in
    was.1 ∙ ap (number n) (sym (later_none n w was.0) ∙ was.3)
left_none world next effects (e ∷ rest) masks none left n w small fine clear is = absurd (omega arith)

-- ## Lawful among ten conditions

effect_ten : (n : ℕ) (e : Effect) → n ≤ 10 → lawful_effect n e ≡ true → lawful_effect 10 e ≡ true
effect_ten n e small fine =
    let parts = and_parts (lawful_list n 4 e.conditions) (speaks_within n e.result) fine in
    let list = and_parts (leb (length e.conditions) 4) (every (speaks_within n) e.conditions && consistent e.conditions) parts.0 in
    let lists = and_parts (every (speaks_within n) e.conditions) (consistent e.conditions) list.1 in
    let within = all_speak_wider n e.conditions small lists.0 in
    and_from _ _ (and_from _ _ list.0 (and_from _ _ within lists.1)) (speaks_wider n e.result small parts.1)

-- what a lawful outcome is: few effects, each lawful, none against another
pub lawful_few : (n : ℕ) (effects : List code_effect.Effect) → lawful_outcome n (map effect_of effects) ≡ true → length effects ≤ 4
lawful_few n effects fine =
    let o : Outcome = map effect_of effects in
    let few : length o ≤ 4 = leb-true (length o) 4 (and_parts (leb (length o) 4) (every (lawful_effect n) o && apart n o) fine).0 in
    subst (λ (m : ℕ). m ≤ 4) (length-map effects effect_of) few

pub lawful_effects : (n : ℕ) (o : Outcome) → lawful_outcome n o ≡ true → every (lawful_effect n) o ≡ true
lawful_effects n o fine =
    (and_parts (every (lawful_effect n) o) (apart n o) (and_parts (leb (length o) 4) (every (lawful_effect n) o && apart n o) fine).1).0

pub lawful_apart : (n : ℕ) (o : Outcome) → lawful_outcome n o ≡ true → apart n o ≡ true
lawful_apart n o fine =
    (and_parts (every (lawful_effect n) o) (apart n o) (and_parts (leb (length o) 4) (every (lawful_effect n) o && apart n o) fine).1).1

pub lawful_ten : (n : ℕ) (o : Outcome) → n ≤ 10 → lawful_outcome n o ≡ true → every (lawful_effect 10) o ≡ true
lawful_ten n o small fine = every_more (lawful_effect n) (lawful_effect 10) (λ e h. effect_ten n e small h) o (lawful_effects n o fine)

-- ## Whether one of some numbers passes a test

some_none : (start : ℕ) (test : ℕ → Bool) → some_from start 0 test ≡ false
unfolding some_from
some_none start test = refl

some_more : (start m : ℕ) (test : ℕ → Bool) → some_from start (suc m) test ≡ (some_from start m test || test (start + m))
unfolding some_from
some_more start m test = refl

some_split : (start m p : ℕ) (test : ℕ → Bool) → some_from start (m + p) test ≡ (some_from start m test || some_from (start + m) p test)
some_split start m zero test =
    ap (λ (q : ℕ). some_from start q test) (add-zero m)
    ∙ sym (or-false (some_from start m test)) ∙ ap (λ (b : Bool). some_from start m test || b) (sym (some_none (start + m) test))
some_split start m (suc p) test =
    ap (λ (q : ℕ). some_from start q test) (add-suc m p) ∙ some_more start (m + p) test
    ∙ ap₂ (λ (a b : Bool). a || b) (some_split start m p test) (ap test (sym (add_assoc start m p)))
    ∙ or_assoc (some_from start m test) (some_from (start + m) p test) (test (start + m + p))
    ∙ ap (λ (b : Bool). some_from start m test || b) (sym (some_more (start + m) p test))

-- one that passes, where some does
some_found : (m : ℕ) (test : ℕ → Bool) → some_from 0 m test ≡ true → (j : ℕ) × (test j ≡ true)
some_found zero test some = absurd (false≢true (sym (some_none 0 test) ∙ some))
some_found (suc m) test some =
    elim (or_cases (some_from 0 m test) (test (0 + m)) (sym (some_more 0 m test) ∙ some)) [
      | inl before ↦ some_found m test before
      | inr here ↦ (0 + m, here)
    ]

some_by : (m : ℕ) (test : ℕ → Bool) (j : ℕ) → j < m → test j ≡ true → some_from 0 m test ≡ true
some_by zero test j h passes = absurd (omega arith)
some_by (suc m) test j h passes =
    elim (cases_eq j m) [
      | inl same ↦
          let is : j ≡ 0 + m = omega arith in
          some_more 0 m test ∙ or_right (some_from 0 m test) _ (subst (λ (i : ℕ). test i ≡ true) is passes)
      | inr other ↦ some_more 0 m test ∙ or_left _ _ (some_by m test j (omega arith) passes)
    ]

-- ## The worlds that an outcome gives, put one after another

-- new has what old has, and what an outcome gives from m worlds of a row
abbrev pub Puts : (n : ℕ) → Outcome → List ℕ → ℕ → ℕ → List ℕ → List ℕ → Type 0
Puts n o row start m old new = (x : ℕ) → in_words new x ≡ (in_words old x || some_from start m (gives n o row x))

pub puts_none : (n : ℕ) (o : Outcome) (row : List ℕ) (start : ℕ) (old : List ℕ) → Puts n o row start 0 old old
puts_none n o row start old x =
    sym (or-false (in_words old x)) ∙ ap (λ (b : Bool). in_words old x || b) (sym (some_none start (gives n o row x)))

-- one world more
puts_more : (n : ℕ) (o : Outcome) (row : List ℕ) (start m : ℕ) (old mid new : List ℕ) → Puts n o row start m old mid → ((x : ℕ) → in_words new x ≡ (in_words mid x || gives n o row x (start + m))) → Puts n o row start (m + 1) old new
puts_more n o row start m old mid new before put x =
    put x ∙ ap (λ (b : Bool). b || gives n o row x (start + m)) (before x)
    ∙ or_assoc (in_words old x) (some_from start m (gives n o row x)) (gives n o row x (start + m))
    ∙ ap (λ (b : Bool). in_words old x || b) (sym (some_more start m (gives n o row x)))
    ∙ ap (λ (q : ℕ). in_words old x || some_from start q (gives n o row x)) (sym (add-one m))

pub puts_world : (n : ℕ) (o : Outcome) (row : List ℕ) (start m world : ℕ) (old mid new : List ℕ) → Puts n o row start m old mid → start + m < 2 ^ n → in_words row (start + m) ≡ true → world ≡ number n (after n o (world_of n (start + m))) → ((x : ℕ) → in_words new x ≡ (in_words mid x || eqb x world)) → Puts n o row start (m + 1) old new
puts_world n o row start m world old mid new before inside has is put =
    puts_more n o row start m old mid new before
    (λ x.
    put x
    ∙ ap (λ (y : ℕ). in_words mid x || eqb x y) is
    ∙ ap₂ (λ (a b : Bool). in_words mid x || ((a && b) && eqb x (number n (after n o (world_of n (start + m)))))) (sym (lt-ltb (start + m) (2 ^ n) inside)) (sym has))

skip_with : (a b : Bool) → a ≡ (a || (false && b))
skip_with true b = refl
skip_with false b = refl

pub puts_not : (n : ℕ) (o : Outcome) (row : List ℕ) (start m : ℕ) (old mid : List ℕ) → Puts n o row start m old mid → (ltb (start + m) (2 ^ n) && in_words row (start + m)) ≡ false → Puts n o row start (m + 1) old mid
puts_not n o row start m old mid before none =
    puts_more n o row start m old mid mid before
    (λ x.
    skip_with (in_words mid x) (eqb x (number n (after n o (world_of n (start + m)))))
    ∙ ap (λ (b : Bool). in_words mid x || (b && eqb x (number n (after n o (world_of n (start + m)))))) (sym none))

-- from a word without worlds the outcome gives none
empty_gives : (n : ℕ) (o : Outcome) (row : List ℕ) (k x m : ℕ) → get_or row k 0 ≡ 0 → m < 64 → gives n o row x (64 * k + m) ≡ false
empty_gives n o row k x m empty h =
    let word : (64 * k + m) / 64 ≡ k = omega arith in
    let none : in_words row (64 * k + m) ≡ false =
    ap (λ (q : ℕ). bit (get_or row q 0) ((64 * k + m) % 64)) word ∙ ap (λ (y : ℕ). bit y ((64 * k + m) % 64)) empty ∙ bit_zero ((64 * k + m) % 64) in
    and_left _ _ (and_right (ltb (64 * k + m) (2 ^ n)) _ none)

empty_some : (n : ℕ) (o : Outcome) (row : List ℕ) (k x m : ℕ) → get_or row k 0 ≡ 0 → m ≤ 64 → some_from (64 * k) m (gives n o row x) ≡ false
empty_some n o row k x zero empty h = some_none (64 * k) (gives n o row x)
empty_some n o row k x (suc m) empty h =
    some_more (64 * k) m (gives n o row x)
    ∙ or_from _ _ (empty_some n o row k x m empty (omega arith)) (empty_gives n o row k x m empty (omega arith))

pub puts_empty : (n : ℕ) (o : Outcome) (row : List ℕ) (k : ℕ) (old : List ℕ) → get_or row k 0 ≡ 0 → Puts n o row (64 * k) 64 old old
puts_empty n o row k old empty x =
    sym (or-false (in_words old x)) ∙ ap (λ (b : Bool). in_words old x || b) (sym (empty_some n o row k x 64 empty (omega arith)))

-- one word more
pub puts_word : (n : ℕ) (o : Outcome) (row : List ℕ) (k : ℕ) (old mid new : List ℕ) → Puts n o row 0 (64 * k) old mid → Puts n o row (64 * k) 64 mid new → Puts n o row 0 (64 * (k + 1)) old new
puts_word n o row k old mid new before word x =
    let test : ℕ → Bool = gives n o row x in
    let next : 64 * k + 64 ≡ 64 * (k + 1) = omega arith in
    let from : 64 * k ≡ 0 + 64 * k = omega arith in
    word x ∙ ap (λ (b : Bool). b || some_from (64 * k) 64 test) (before x)
    ∙ or_assoc (in_words old x) (some_from 0 (64 * k) test) (some_from (64 * k) 64 test)
    ∙ ap (λ (q : ℕ). in_words old x || (some_from 0 (64 * k) test || some_from q 64 test)) from
    ∙ ap (λ (b : Bool). in_words old x || b) (sym (some_split 0 (64 * k) 64 test))
    ∙ ap (λ (q : ℕ). in_words old x || some_from 0 q test) next

-- what the code says of the world after an outcome, at the world of a number
pub after_number : (n world next : ℕ) (effects : List code_effect.Effect) → n ≤ 10 → lawful_outcome n (map effect_of effects) ≡ true → world < 2 ^ n → ((m : ℕ) (w : World m) → m ≤ 10 → every (lawful_effect m) (map effect_of effects) ≡ true → apart m (map effect_of effects) ≡ true → number m w ≡ world → next ≡ number m (after m (map effect_of effects) w)) → next ≡ number n (after n (map effect_of effects) (world_of n world))
after_number n world next effects small fine inside right =
    right n (world_of n world) small (lawful_effects n (map effect_of effects) fine) (lawful_apart n (map effect_of effects) fine) (number_of_world n world inside)

-- ## What all outcomes give

-- whether some outcome gives world number x from a world of a row
abbrev pub given : (n : ℕ) → List Outcome → List ℕ → ℕ → Bool
given n [] row x = false
given n (o ∷ os) row x = some_from 0 1024 (gives n o row x) || given n os row x

-- the row so far has what the outcomes so far give, where the rest is yet to come
abbrev PutRest : (n : ℕ) → List code_outcome.Outcome → List code_outcome.Outcome → List ℕ → List ℕ → Type 0
PutRest n outcomes rest row new =
    (x : ℕ) → given n (map outcome_of outcomes) row x ≡ (in_words new x || given n (map outcome_of rest) row x)

abbrev pub PutFirst : (n : ℕ) → List code_outcome.Outcome → ℕ → List ℕ → List ℕ → Type 0
PutFirst n outcomes i row new = PutRest n outcomes (drop i outcomes) row new

pub outcome_at : (n : ℕ) (outcomes : List code_outcome.Outcome) (i : ℕ) (o : code_outcome.Outcome) → o ≡ get_or outcomes i o → i < length outcomes → every (lawful_outcome n) (map outcome_of outcomes) ≡ true → lawful_outcome n (outcome_of o) ≡ true
outcome_at n outcomes i o is h all =
    subst (λ (p : code_outcome.Outcome). lawful_outcome n (outcome_of p) ≡ true) (sym is) (every_at (lawful_outcome n) outcome_of outcomes i o h all)

pub given_all : (n : ℕ) (outcomes : List code_outcome.Outcome) (i : ℕ) (row new : List ℕ) → i ≡ length outcomes → PutFirst n outcomes i row new → (x : ℕ) → in_words new x ≡ given n (map outcome_of outcomes) row x
given_all n outcomes i row new end all x =
    let none : drop i outcomes ≡ [] = ap (λ (j : ℕ). drop j outcomes) end ∙ drop-length outcomes in
    let was : PutRest n outcomes [] row new = subst (λ (os : List code_outcome.Outcome). PutRest n outcomes os row new) none all in
    sym (or-false (in_words new x)) ∙ sym (was x)

-- ## What all outcomes give is the successor

-- what it is for an outcome to give a number
gives_parts : (n : ℕ) (o : Outcome) (row : List ℕ) (x j : ℕ) → gives n o row x j ≡ true → (j < 2 ^ n) × (in_words row j ≡ true) × (x ≡ number n (after n o (world_of n j)))
gives_parts n o row x j so =
    let both = and_parts (ltb j (2 ^ n) && in_words row j) (eqb x (number n (after n o (world_of n j)))) so in
    let near = and_parts (ltb j (2 ^ n)) (in_words row j) both.0 in
    (ltb-true j (2 ^ n) near.0, near.1, eqb-true x (number n (after n o (world_of n j))) both.1)

-- worlds with one number are one
same_number : (n : ℕ) (v w : World n) → number n v ≡ number n w → v ≡ w
same_number n v w same = sym (world_of_number n v) ∙ ap (world_of n) same ∙ world_of_number n w

given_found : (n : ℕ) (os : List Outcome) (row : List ℕ) (v : World n) → given n os row (number n v) ≡ true → (j : ℕ) × (j < 2 ^ n) × (in_words row j ≡ true) × (may_give n os (world_of n j) v ≡ true)
given_found n [] row v some = absurd (false≢true some)
given_found n (o ∷ os) row v some =
    elim (or_cases (some_from 0 1024 (gives n o row (number n v))) (given n os row (number n v)) some) [
      | inl here ↦
          let found = some_found 1024 (gives n o row (number n v)) here in
          let parts = gives_parts n o row (number n v) found.0 found.1 in
          let is : v ≡ after n o (world_of n found.0) = same_number n v (after n o (world_of n found.0)) parts.2 in
          let same : same_world n (after n o (world_of n found.0)) v ≡ true =
          subst (λ (u : World n). same_world n u v ≡ true) is (same_world_self n v) in
          (found.0, parts.0, parts.1, or_left _ _ same)
      | inr later ↦
          let found = given_found n os row v later in
          (found.0, found.1, found.2, or_right (same_world n (after n o (world_of n found.0)) v) _ found.3)
    ]

found_given : (n : ℕ) (os : List Outcome) (row : List ℕ) (v : World n) (j : ℕ) → n ≤ 10 → j < 2 ^ n → in_words row j ≡ true → may_give n os (world_of n j) v ≡ true → given n os row (number n v) ≡ true
found_given n [] row v j small inside has may = absurd (false≢true may)
found_given n (o ∷ os) row v j small inside has may =
    elim (or_cases (same_world n (after n o (world_of n j)) v) (may_give n os (world_of n j) v) may) [
      | inl here ↦
          let is : number n v ≡ number n (after n o (world_of n j)) = ap (number n) (sym (same_world_is n (after n o (world_of n j)) v here)) in
          let so : gives n o row (number n v) j ≡ true = and_from _ _ (and_from _ _ (lt-ltb j (2 ^ n) inside) has) (eq-eqb (number n v) _ is) in
          or_left _ _ (some_by 1024 (gives n o row (number n v)) j (lt_of_lt_of_le inside (pow_mono small)) so)
      | inr later ↦
          or_right (some_from 0 1024 (gives n o row (number n v))) _ (found_given n os row v j small inside has later)
    ]

pub given_successor : (n : ℕ) (os : List Outcome) (row : List ℕ) (v : World n) → n ≤ 10 → given n os row (number n v) ≡ successor n os (set_of n row) v
given_successor n os row v small =
    let test : World n → Bool = λ w. set_of n row w && may_give n os w v in
    same_tests _ _
    (λ some.
    let found = given_found n os row v some in
    number_some n test found.0
    (and_from _ _ (ap (in_words row) (number_of_world n found.0 found.1) ∙ found.2) found.3))
    (λ some.
    let found = some_number n test some in
    let parts = and_parts (set_of n row (world_of n found.0)) (may_give n os (world_of n found.0) v) found.2 in
    found_given n os row v found.0 small found.1
    (sym (ap (in_words row) (number_of_world n found.0 found.1)) ∙ parts.0) parts.1)
