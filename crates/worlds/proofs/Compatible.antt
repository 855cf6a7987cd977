-- Some world meets two lists of literals exactly where the lists are compatible; and what one more element keeps.
-- Assumes nothing.
use Rattle.std.proofs.Common.{◌≡◌, ℕ, zero, suc, ◌-◌, ◌<◌, ◌≤◌, Bool, true, false, not, ◌&&◌, ◌||◌, eqb, ltb, leb, List, [], ◌∷◌, ◌++◌, length, pos, negsuc, neg_ℤ, Decides, sym, refl, ap, ◌∙◌, subst, inl, inr, arith}
use lib.IntN.{neg_ℤ-neg_ℤ}
use Rattle.std.specs.List.{HoldsAt}
use Rattle.std.proofs.lemmas.Bool.Decides.{Decides-by_or}
use Rattle.std.proofs.lemmas.Bool.{both_ways, not-true, leb-true, eqb-true, eq-eqb, ne_eqb, and_parts, and_from, or_cases, or_parts, or_from, or_left, or_right, not_from_false, false≢true, cond-false}
use Rattle.worlds.specs.Worlds.{World, value, world_by, some_world, Literal, opposite, holds, meets, speaks_within, same_literal, has_literal, consistent, compatible}
use Rattle.worlds.specs.Steps.{Effect, Outcome}
use Rattle.worlds.specs.Tickets.{every, clash, clashes, clashes_later, apart}

-- ## Truth values

-- two tests are equal where each passes if the other does
pub same_tests : (a b : Bool) → (a ≡ true → b ≡ true) → (b ≡ true → a ≡ true) → a ≡ b
same_tests true b there back = sym (there refl)
same_tests false true there back = back refl
same_tests false false there back = refl

-- a test that cannot pass fails
pub cannot_pass : (b : Bool) → (b ≡ true → ⊥) → b ≡ false
cannot_pass true never = absurd (never refl)
cannot_pass false never = refl

-- denied twice is as it was
not_not : (b : Bool) → b ≡ not (not b)
not_not true = refl
not_not false = refl

-- ## Some world passes a test exactly where there is such a world

-- a world that passes shows that some world does
pub some_world_from : (n : ℕ) (test : World n → Bool) (w : World n) → test w ≡ true → some_world n test ≡ true
some_world_from zero test w passes = passes
some_world_from (suc n) test (true, w) passes =
    or_left _ _ (some_world_from n (λ v. test (true, v)) w passes)
some_world_from (suc n) test (false, w) passes =
    or_right _ _ (some_world_from n (λ v. test (false, v)) w passes)

-- where some world passes, this is one
pub the_world : (n : ℕ) (test : World n → Bool) → some_world n test ≡ true → (w : World n) × (test w ≡ true)
the_world zero test some = (tt, some)
the_world (suc n) test some =
    elim (or_cases (some_world n (λ w. test (true, w))) (some_world n (λ w. test (false, w))) some) [
      | inl h ↦ let found = the_world n (λ w. test (true, w)) h in ((true, found.0), found.1)
      | inr h ↦ let found = the_world n (λ w. test (false, w)) h in ((false, found.0), found.1)
    ]

-- ## Literals

-- literals that the test takes for the same are equal
pub same_literal_is : (a b : Literal) → same_literal a b ≡ true → a ≡ b
same_literal_is (pos a) (pos b) h = ap pos (eqb-true a b h)
same_literal_is (pos a) (negsuc b) h = absurd (false≢true h)
same_literal_is (negsuc a) (pos b) h = absurd (false≢true h)
same_literal_is (negsuc a) (negsuc b) h = ap negsuc (eqb-true a b h)

-- the test takes each literal for itself
pub same_literal_self : (a : Literal) → same_literal a a ≡ true
same_literal_self (pos a) = eq-eqb a a refl
same_literal_self (negsuc a) = eq-eqb a a refl

-- where b is the opposite of a, a is the opposite of b
opposite_turns : (a b : Literal) → same_literal (opposite a) b ≡ true → same_literal (opposite b) a ≡ true
opposite_turns a b h =
    let b-is : b ≡ opposite a = sym (same_literal_is (opposite a) b h) in
    let a-is : opposite b ≡ a = ap neg_ℤ b-is ∙ neg_ℤ-neg_ℤ a in
    subst (λ (k : Literal). same_literal k a ≡ true) (sym a-is) (same_literal_self a)

-- a literal that speaks of a condition is not its own opposite
pub opposite_differs : (n : ℕ) (l : Literal) → speaks_within n l ≡ true → same_literal (opposite l) l ≡ false
opposite_differs n (pos zero) h = absurd (false≢true h)
opposite_differs n (pos (suc p)) h = refl
opposite_differs n (negsuc m) h = refl

-- in each world the opposite of such a literal is so exactly where the literal is not
holds_opposite : (n : ℕ) (w : World n) (l : Literal) → speaks_within n l ≡ true → holds n w (opposite l) ≡ not (holds n w l)
holds_opposite n w (pos zero) h = absurd (false≢true h)
holds_opposite n w (pos (suc p)) h = refl
holds_opposite n w (negsuc m) h = not_not (value n w (suc m))

-- ## A world that meets both lists shows them compatible

-- what stands in a list that a world meets is so in that world
meets_has : (n : ℕ) (w : World n) (ls : List Literal) (l : Literal) → meets n w ls ≡ true → has_literal l ls ≡ true → holds n w l ≡ true
meets_has n w [] l met has = absurd (false≢true has)
meets_has n w (k ∷ ls) l met has =
    let parts = and_parts (holds n w k) (meets n w ls) met in
    elim (or_cases (same_literal l k) (has_literal l ls) has) [
      | inl here ↦ subst (λ (j : Literal). holds n w j ≡ true) (sym (same_literal_is l k here)) parts.0
      | inr there ↦ meets_has n w ls l parts.1 there
    ]

-- where a literal is so, no list that the world meets has its opposite
holds_apart : (n : ℕ) (w : World n) (l : Literal) (ks : List Literal) → speaks_within n l ≡ true → holds n w l ≡ true → meets n w ks ≡ true → has_literal (opposite l) ks ≡ false
holds_apart n w l ks within so met =
    let denied : holds n w (opposite l) ≡ false = holds_opposite n w l within ∙ ap not so in
    cannot_pass (has_literal (opposite l) ks) (λ has. both_ways _ denied (meets_has n w ks (opposite l) met has))

-- lists that one world meets are compatible
meets_compatible : (n : ℕ) (w : World n) (ls ks : List Literal) → every (speaks_within n) ls ≡ true → meets n w ls ≡ true → meets n w ks ≡ true → compatible ls ks ≡ true
meets_compatible n w [] ks within met-ls met-ks = refl
meets_compatible n w (l ∷ ls) ks within met-ls met-ks =
    let near = and_parts (speaks_within n l) (every (speaks_within n) ls) within in
    let met = and_parts (holds n w l) (meets n w ls) met-ls in
    and_from _ _
    (not_from_false _ (holds_apart n w l ks near.0 met.0 met-ks))
    (meets_compatible n w ls ks near.1 met.1 met-ks)

-- ## A world by a rule

-- whether a literal is so by a rule
abbrev pub says : (ℕ → Bool) → Literal → Bool
says rule (pos p) = rule p
says rule (negsuc m) = not (rule (suc m))

-- past the first condition, the value is that of the rest of the world
pub value_rest : (n : ℕ) (b : Bool) (w : World n) (m : ℕ) → value (suc n) (b, w) (suc (suc m)) ≡ value n w (suc m)
value_rest n b w m =
    let other : eqb (suc (suc m)) 1 ≡ false = ne_eqb (suc (suc m)) 1 (λ e. omega arith) in
    let before : suc (suc m) - 1 ≡ suc m = omega arith in
    cond-false (eqb (suc (suc m)) 1) b (value n w (suc (suc m) - 1)) other ∙ ap (value n w) before

-- the world by a rule gives each condition 1 to n the rule's value
pub value_by : (n : ℕ) (rule : ℕ → Bool) (m : ℕ) → suc m ≤ n → value n (world_by n rule) (suc m) ≡ rule (suc m)
value_by zero rule m h = absurd (omega arith)
value_by (suc n) rule zero h = refl
value_by (suc n) rule (suc m) h =
    let rest : ℕ → Bool = λ p. rule (suc p) in
    value_rest n (rule 1) (world_by n rest) m ∙ value_by n rest m (omega arith)

-- in the world by a rule a literal is so exactly where the rule says it
pub holds_by : (n : ℕ) (rule : ℕ → Bool) (l : Literal) → speaks_within n l ≡ true → holds n (world_by n rule) l ≡ says rule l
holds_by n rule (pos zero) h = absurd (false≢true h)
holds_by n rule (pos (suc p)) h =
    value_by n rule p (leb-true (suc p) n (and_parts (ltb 0 (suc p)) (leb (suc p) n) h).1)
holds_by n rule (negsuc m) h = ap not (value_by n rule m (leb-true (suc m) n h))

-- the world by a rule meets a list where the rule says each of its literals
meets_by : (n : ℕ) (rule : ℕ → Bool) (ls : List Literal) → every (speaks_within n) ls ≡ true → ((l : Literal) → has_literal l ls ≡ true → says rule l ≡ true) → meets n (world_by n rule) ls ≡ true
meets_by n rule [] within said = refl
meets_by n rule (k ∷ ls) within said =
    let near = and_parts (speaks_within n k) (every (speaks_within n) ls) within in
    and_from _ _
    (holds_by n rule k near.0 ∙ said k (or_left _ _ (same_literal_self k)))
    (meets_by n rule ls near.1 (λ l has. said l (or_right (same_literal l k) _ has)))

-- ## Compatible lists are met by one world

-- k is not the opposite of what stands in a list that lacks the opposite of k
lacks_turned : (ls : List Literal) (k l : Literal) → has_literal (opposite k) ls ≡ false → has_literal l ls ≡ true → same_literal (opposite l) k ≡ false
lacks_turned ls k l lacks has =
    let is-l : same_literal (opposite l) k ≡ true → opposite k ≡ l = λ h. same_literal_is (opposite k) l (opposite_turns l k h) in
    cannot_pass _ (λ h. both_ways (has_literal l ls) (subst (λ (j : Literal). has_literal j ls ≡ false) (is-l h) lacks) has)

-- a consistent list has no opposite of its literals, before or after
consistent_apart : (n : ℕ) (ls : List Literal) (l : Literal) → every (speaks_within n) ls ≡ true → consistent ls ≡ true → has_literal l ls ≡ true → has_literal (opposite l) ls ≡ false
consistent_apart n [] l within fine has = refl
consistent_apart n (k ∷ ls) l within fine has =
    let near = and_parts (speaks_within n k) (every (speaks_within n) ls) within in
    let parts = and_parts (not (has_literal (opposite k) ls)) (consistent ls) fine in
    let lacks : has_literal (opposite k) ls ≡ false = not-true _ parts.0 in
    let at-k : has_literal (opposite k) (k ∷ ls) ≡ false = or_from _ _ (opposite_differs n k near.0) lacks in
    elim (or_cases (same_literal l k) (has_literal l ls) has) [
      | inl here ↦ subst (λ (j : Literal). has_literal (opposite j) (k ∷ ls) ≡ false) (sym (same_literal_is l k here)) at-k
      | inr there ↦ or_from _ _ (lacks_turned ls k l lacks there) (consistent_apart n ls l near.1 parts.1 there)
    ]

-- of compatible lists, the second has no opposite of a literal of the first
compatible_apart : (ls ks : List Literal) (l : Literal) → compatible ls ks ≡ true → has_literal l ls ≡ true → has_literal (opposite l) ks ≡ false
compatible_apart [] ks l fine has = absurd (false≢true has)
compatible_apart (k ∷ ls) ks l fine has =
    let parts = and_parts (not (has_literal (opposite k) ks)) (compatible ls ks) fine in
    elim (or_cases (same_literal l k) (has_literal l ls) has) [
      | inl here ↦
          subst (λ (j : Literal). has_literal (opposite j) ks ≡ false) (sym (same_literal_is l k here)) (not-true _ parts.0)
      | inr there ↦ compatible_apart ls ks l parts.1 there
    ]

-- and the first none of a literal of the second
compatible_apart_back : (ls ks : List Literal) (l : Literal) → compatible ls ks ≡ true → has_literal l ks ≡ true → has_literal (opposite l) ls ≡ false
compatible_apart_back ls ks l fine has =
    let twice : has_literal (opposite (opposite l)) ks ≡ true = subst (λ (j : Literal). has_literal j ks ≡ true) (sym (neg_ℤ-neg_ℤ l)) has in
    cannot_pass _ (λ back. both_ways _ (compatible_apart ls ks (opposite l) fine back) twice)

-- the rule that makes a condition true where one of two lists says that it is
abbrev either_says : List Literal → List Literal → ℕ → Bool
either_says ls ks p = has_literal (pos p) ls || has_literal (pos p) ks

-- that rule says a literal that one list has, if neither list has its opposite
either_says_it : (ls ks : List Literal) (l : Literal) → (has_literal l ls || has_literal l ks) ≡ true → has_literal (opposite l) ls ≡ false → has_literal (opposite l) ks ≡ false → says (either_says ls ks) l ≡ true
either_says_it ls ks (pos p) has not-ls not-ks = has
either_says_it ls ks (negsuc m) has not-ls not-ks = not_from_false _ (or_from _ _ not-ls not-ks)

-- where some world meets both of two lists, they are compatible
some_world_compatible : (n : ℕ) (ls ks : List Literal) → every (speaks_within n) ls ≡ true → some_world n (λ w. meets n w ls && meets n w ks) ≡ true → compatible ls ks ≡ true
some_world_compatible n ls ks within some =
    let found = the_world n (λ w. meets n w ls && meets n w ks) some in
    let met = and_parts (meets n found.0 ls) (meets n found.0 ks) found.1 in
    meets_compatible n found.0 ls ks within met.0 met.1

-- the world by that rule meets both of two compatible lists
compatible_some_world : (n : ℕ) (ls ks : List Literal) → every (speaks_within n) ls ≡ true → consistent ls ≡ true → every (speaks_within n) ks ≡ true → consistent ks ≡ true → compatible ls ks ≡ true → some_world n (λ w. meets n w ls && meets n w ks) ≡ true
compatible_some_world n ls ks within-ls fine-ls within-ks fine-ks fine =
    let rule : ℕ → Bool = either_says ls ks in
    let says-ls : (l : Literal) → has_literal l ls ≡ true → says rule l ≡ true =
    λ l has. either_says_it ls ks l (or_left _ _ has) (consistent_apart n ls l within-ls fine-ls has) (compatible_apart ls ks l fine has) in
    let says-ks : (l : Literal) → has_literal l ks ≡ true → says rule l ≡ true =
    λ l has. either_says_it ls ks l (or_right (has_literal l ls) _ has) (compatible_apart_back ls ks l fine has) (consistent_apart n ks l within-ks fine-ks has) in
    let met = and_from _ _ (meets_by n rule ls within-ls says-ls) (meets_by n rule ks within-ks says-ks) in
    some_world_from n (λ w. meets n w ls && meets n w ks) (world_by n rule) met

-- some world meets two lawful lists exactly where they are compatible
pub some_world_meets : (n : ℕ) (ls ks : List Literal) → every (speaks_within n) ls ≡ true → consistent ls ≡ true → every (speaks_within n) ks ≡ true → consistent ks ≡ true → some_world n (λ w. meets n w ls && meets n w ks) ≡ compatible ls ks
some_world_meets n ls ks within-ls fine-ls within-ks fine-ks =
    same_tests _ _ (some_world_compatible n ls ks within-ls) (compatible_some_world n ls ks within-ls fine-ls within-ks fine-ks)

-- ## One more element

-- where all of a list pass a test and one more element does, all of the longer list pass
pub every_snoc : {X : Type 0} (test : X → Bool) (xs : List X) (x : X) → every test xs ≡ true → test x ≡ true → every test (xs ++ x ∷ []) ≡ true
every_snoc test [] x all here = and_from _ _ here refl
every_snoc test (y ∷ ys) x all here =
    let parts = and_parts (test y) (every test ys) all in
    and_from _ _ parts.0 (every_snoc test ys x parts.1 here)

-- a literal that is neither in a list nor the one added is not in the longer list
lacks_snoc : (a : Literal) (ls : List Literal) (l : Literal) → has_literal a ls ≡ false → same_literal a l ≡ false → has_literal a (ls ++ l ∷ []) ≡ false
lacks_snoc a [] l none other = or_from _ _ other refl
lacks_snoc a (k ∷ ls) l none other =
    let parts = or_parts (same_literal a k) (has_literal a ls) none in
    or_from _ _ parts.0 (lacks_snoc a ls l parts.1 other)

-- a consistent list that lacks the opposite of a literal stays consistent with that literal added
pub consistent_snoc : (ls : List Literal) (l : Literal) → consistent ls ≡ true → has_literal (opposite l) ls ≡ false → consistent (ls ++ l ∷ []) ≡ true
consistent_snoc [] l fine none = refl
consistent_snoc (k ∷ ls) l fine none =
    let parts = and_parts (not (has_literal (opposite k) ls)) (consistent ls) fine in
    let lacks = or_parts (same_literal (opposite l) k) (has_literal (opposite l) ls) none in
    let other : same_literal (opposite k) l ≡ false = cannot_pass _ (λ h. both_ways _ lacks.0 (opposite_turns k l h)) in
    and_from _ _
    (not_from_false _ (lacks_snoc (opposite k) ls l (not-true _ parts.0) other))
    (consistent_snoc ls l parts.1 lacks.1)

-- an effect that clashes neither with later ones nor with the one added clashes with none of the longer list
clashes_later_snoc : (n : ℕ) (d : Effect) (es : Outcome) (e : Effect) → clashes_later n d es ≡ false → clash n d e ≡ false → clashes_later n d (es ++ e ∷ []) ≡ false
clashes_later_snoc n d [] e none other = or_from _ _ other refl
clashes_later_snoc n d (x ∷ es) e none other =
    let parts = or_parts (clash n d x) (clashes_later n d es) none in
    or_from _ _ parts.0 (clashes_later_snoc n d es e parts.1 other)

-- where no two effects clash, and one more clashes with none of them, no two of the longer list clash
pub apart_snoc : (n : ℕ) (es : Outcome) (e : Effect) → apart n es ≡ true → clashes n es e ≡ false → apart n (es ++ e ∷ []) ≡ true
apart_snoc n [] e fine none = refl
apart_snoc n (d ∷ es) e fine none =
    let parts = and_parts (not (clashes_later n d es)) (apart n es) fine in
    let lacks = or_parts (clash n d e) (clashes n es e) none in
    and_from _ _
    (not_from_false _ (clashes_later_snoc n d es e (not-true _ parts.0) lacks.0))
    (apart_snoc n es e parts.1 lacks.1)

-- the test for a literal in a list finds it at some place
pub decides_has_literal : (l : Literal) (ls : List Literal) → Decides (has_literal l ls) ((k : ℕ) × (k < length ls) × HoldsAt (λ y. y ≡ l) ls k)
decides_has_literal l ls =
    Decides-by_or (same_literal l) (λ y. y ≡ l) (has_literal l)
    (λ y. (λ h. sym (same_literal_is l y h), λ e. subst (λ (k : Literal). same_literal l k ≡ true) (sym e) (same_literal_self l)))
    refl (λ _ _. refl) ls
