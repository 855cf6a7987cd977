-- Sets of worlds, world by world: what it is for all of a set to meet a list, and which worlds a step gives.
-- Assumes nothing.
use Rattle.std.proofs.Common.{◌≡◌, ℕ, zero, suc, Bool, true, false, not, ◌&&◌, List, [], ◌∷◌, sym, refl, ◌∙◌, subst, inl, inr}
use mathlib.Core.Path.{fun_ext}
use Rattle.std.proofs.lemmas.Bool.{both_ways, cases_Bool, not-true, not_from_false, and_parts, and_from, or_cases, or_left, or_right, false≢true}
use Rattle.worlds.specs.Worlds.{World, Literal, holds, meets, some_world, In}
use Rattle.worlds.specs.Steps.{Outcome, after}
use Rattle.worlds.specs.Sets.{Worlds, all_meet, same_value, same_world, may_give, successor, side}
use Rattle.worlds.proofs.Compatible.{cannot_pass, some_world_from, the_world}

-- ## Some world, no world

-- where no world passes, each world fails
pub no_world : (n : ℕ) (test : World n → Bool) (w : World n) → some_world n test ≡ false → test w ≡ false
no_world n test w none = cannot_pass (test w) (λ passes. both_ways _ none (some_world_from n test w passes))

-- each world of a set all of which meet a list meets it
pub all_meets : (n : ℕ) (s : Worlds n) (ls : List Literal) → all_meet n s ls ≡ true → (w : World n) → s w ≡ true → meets n w ls ≡ true
all_meets n s ls all w within =
    elim (cases_Bool (meets n w ls)) [
      | inl met ↦ met
      | inr unmet ↦
          absurd (both_ways _ (no_world n (λ v. s v && not (meets n v ls)) w (not-true _ all)) (and_from _ _ within (not_from_false _ unmet)))
    ]

-- where each world of a set meets a list, all do
pub all_meet_from : (n : ℕ) (s : Worlds n) (ls : List Literal) → ((w : World n) → s w ≡ true → meets n w ls ≡ true) → all_meet n s ls ≡ true
all_meet_from n s ls met =
    not_from_false _ (cannot_pass _ (λ some.
    let found = the_world n (λ v. s v && not (meets n v ls)) some in
    let parts = and_parts (s found.0) (not (meets n found.0 ls)) found.1 in
    both_ways _ (not-true _ parts.1) (met found.0 parts.0)))

-- where not all of a set meet a list, one world of it does not
pub one_unmet : (n : ℕ) (s : Worlds n) (ls : List Literal) → all_meet n s ls ≡ false → (w : World n) × (s w ≡ true) × (meets n w ls ≡ false)
one_unmet n s ls not-all =
    elim (cases_Bool (some_world n (λ v. s v && not (meets n v ls)))) [
      | inl some ↦
          let found = the_world n (λ v. s v && not (meets n v ls)) some in
          let parts = and_parts (s found.0) (not (meets n found.0 ls)) found.1 in
          (found.0, parts.0, not-true _ parts.1)
      | inr none ↦ absurd (both_ways _ not-all (not_from_false _ none))
    ]

-- ## What an action gives

-- a truth value is the same as itself
same_value_self : (a : Bool) → same_value a a ≡ true
same_value_self true = refl
same_value_self false = refl

-- values that the test takes for the same are equal
same_value_is : (a b : Bool) → same_value a b ≡ true → a ≡ b
same_value_is true true h = refl
same_value_is true false h = absurd (false≢true h)
same_value_is false true h = absurd (false≢true h)
same_value_is false false h = refl

-- a world is the same as itself
same_world_self : (n : ℕ) (w : World n) → same_world n w w ≡ true
same_world_self zero w = refl
same_world_self (suc n) w = and_from _ _ (same_value_self w.0) (same_world_self n w.1)

-- worlds that the test takes for the same are equal
same_world_is : (n : ℕ) (v w : World n) → same_world n v w ≡ true → v ≡ w
same_world_is zero v w h = refl
same_world_is (suc n) v w h =
    let parts = and_parts (same_value v.0 w.0) (same_world n v.1 w.1) h in
    let first : v.0 ≡ w.0 = same_value_is v.0 w.0 parts.0 in
    let rest : v.1 ≡ w.1 = same_world_is n v.1 w.1 parts.1 in
    λ i. (first i, rest i)

-- each outcome of a list gives its world
may_give_has : (n : ℕ) (os : List Outcome) (o : Outcome) (w : World n) → In o os → may_give n os w (after n o w) ≡ true
may_give_has n [] o w none = absurd none
may_give_has n (p ∷ os) o w (inl same) =
    or_left _ _ (subst (λ (q : Outcome). same_world n (after n q w) (after n o w) ≡ true) same (same_world_self n (after n o w)))
may_give_has n (p ∷ os) o w (inr later) =
    or_right (same_world n (after n p w) (after n o w)) _ (may_give_has n os o w later)

-- what is given is the world after one of the outcomes
may_give_from : (n : ℕ) (os : List Outcome) (w v : World n) → may_give n os w v ≡ true → (o : Outcome) × In o os × (after n o w ≡ v)
may_give_from n [] w v given = absurd (false≢true given)
may_give_from n (p ∷ os) w v given =
    elim (or_cases (same_world n (after n p w) v) (may_give n os w v) given) [
      | inl here ↦ (p, inl refl, same_world_is n (after n p w) v here)
      | inr later ↦ let found = may_give_from n os w v later in (found.0, inr found.1, found.2)
    ]

-- the successor of a set has the world after each outcome from each world of the set
pub successor_has : (n : ℕ) (os : List Outcome) (s : Worlds n) (o : Outcome) (w : World n) → In o os → s w ≡ true → successor n os s (after n o w) ≡ true
successor_has n os s o w in-os within =
    some_world_from n (λ u. s u && may_give n os u (after n o w)) w (and_from _ _ within (may_give_has n os o w in-os))

-- and no other worlds
pub successor_from : (n : ℕ) (os : List Outcome) (s : Worlds n) (v : World n) → successor n os s v ≡ true → (w : World n) × (o : Outcome) × (s w ≡ true) × In o os × (after n o w ≡ v)
successor_from n os s v given =
    let found = the_world n (λ u. s u && may_give n os u v) given in
    let parts = and_parts (s found.0) (may_give n os found.0 v) found.1 in
    let by = may_give_from n os found.0 v parts.1 in
    (found.0, by.0, parts.0, by.1, by.2)

-- ## What sensing gives

-- a side has each world of the set in which the literal has that value
pub side_has : (n : ℕ) (l : Literal) (b : Bool) (s : Worlds n) (w : World n) → s w ≡ true → holds n w l ≡ b → side n l b s w ≡ true
side_has n l b s w within is =
    and_from _ _ within (subst (λ (c : Bool). same_value b c ≡ true) (sym is) (same_value_self b))

-- and no other worlds
pub side_from : (n : ℕ) (l : Literal) (b : Bool) (s : Worlds n) (w : World n) → side n l b s w ≡ true → (s w ≡ true) × (holds n w l ≡ b)
side_from n l b s w within =
    let parts = and_parts (s w) (same_value b (holds n w l)) within in
    (parts.0, sym (same_value_is b (holds n w l) parts.1))

-- where one side has no world, the literal has the other value in each world of the set
pub other_value : (n : ℕ) (l : Literal) (b : Bool) (s : Worlds n) → some_world n (side n l b s) ≡ false → (w : World n) → s w ≡ true → holds n w l ≡ not b
other_value n l b s none w within = go (holds n w l) refl
  where
    here : (c : Bool) → holds n w l ≡ c → c ≡ b → ⊥
    here c is same = both_ways _ (no_world n (side n l b s) w none) (side_has n l b s w within (is ∙ same))

    go : (c : Bool) → holds n w l ≡ c → c ≡ not b
    go c is = differs c b (here c is)
      where
        differs : (c b : Bool) → (c ≡ b → ⊥) → c ≡ not b
        differs true true other = absurd (other refl)
        differs true false other = refl
        differs false true other = refl
        differs false false other = absurd (other refl)

-- then the other side is the whole set
pub other_side : (n : ℕ) (l : Literal) (b : Bool) (s : Worlds n) → some_world n (side n l b s) ≡ false → side n l (not b) s ≡ s
other_side n l b s none = fun_ext (λ w. go w (s w) refl)
  where
    go : (w : World n) (c : Bool) → s w ≡ c → side n l (not b) s w ≡ s w
    go w true within = side_has n l (not b) s w within (other_value n l b s none w within) ∙ sym within
    go w false without =
        subst (λ (c : Bool). (c && same_value (not b) (holds n w l)) ≡ c) (sym without) refl
