-- After a lawful outcome the results of all effects that were met beforehand hold, and other conditions keep their values.
-- Assumes nothing.
use Rattle.std.proofs.Common.{◌≡◌, ℕ, zero, suc, ◌≤◌, Bool, true, false, cond, not, ◌&&◌, leb, List, [], ◌∷◌, length, pos, negsuc, sym, refl, ap, ◌∙◌, subst, inl, inr, arith}
use lib.IntN.{neg_ℤ-neg_ℤ}
use Rattle.std.proofs.lemmas.Bool.{both_ways, not-true, and_parts, and_from, or_cases, or_left, or_right, not_from_false, false≢true, cond-true, cond-false}
use Rattle.worlds.specs.Worlds.{World, value, Literal, opposite, holds, meets, speaks_within, same_literal, In}
use Rattle.worlds.specs.Steps.{Effect, Outcome, brings, after}
use Rattle.worlds.specs.Tickets.{every, lawful_list, lawful_effect, clash, clashes_later, apart}
use Rattle.worlds.specs.Laws.{EffectsTakeHold}
use Rattle.worlds.proofs.Compatible.{cannot_pass, some_world_from, same_literal_is, same_literal_self, opposite_differs, says, value_by, holds_by}

-- ## What an outcome brings

-- an effect that the world meets brings its result
met_brings : (n : ℕ) (o : Outcome) (w : World n) (e : Effect) → In e o → meets n w e.conditions ≡ true → brings n o w e.result ≡ true
met_brings n [] w e none met = absurd none
met_brings n (d ∷ ds) w e (inl same) met =
    let here = and_from _ _ met (same_literal_self e.result) in
    or_left _ _ (subst (λ (x : Effect). (meets n w x.conditions && same_literal e.result x.result) ≡ true) same here)
met_brings n (d ∷ ds) w e (inr later) met =
    or_right (meets n w d.conditions && same_literal e.result d.result) _ (met_brings n ds w e later met)

-- what is brought is the result of an effect that the world meets
pub brought_by : (n : ℕ) (o : Outcome) (w : World n) (l : Literal) → brings n o w l ≡ true → (e : Effect) × In e o × (meets n w e.conditions ≡ true) × (e.result ≡ l)
brought_by n [] w l brought = absurd (false≢true brought)
brought_by n (d ∷ ds) w l brought =
    elim (or_cases (meets n w d.conditions && same_literal l d.result) (brings n ds w l) brought) [
      | inl here ↦
          let parts = and_parts (meets n w d.conditions) (same_literal l d.result) here in
          (d, inl refl, parts.0, sym (same_literal_is l d.result parts.1))
      | inr later ↦
          let found = brought_by n ds w l later in
          (found.0, inr found.1, found.2, found.3)
    ]

-- what is the result of no effect that the world meets is not brought
not_brought : (n : ℕ) (o : Outcome) (w : World n) (l : Literal) → ((e : Effect) → In e o → meets n w e.conditions ≡ true → e.result ≡ l → ⊥) → brings n o w l ≡ false
not_brought n o w l never =
    cannot_pass _ (λ brought. let found = brought_by n o w l brought in never found.0 found.1 found.2 found.3)

-- ## Effects that one world meets do not contradict each other

-- what all of a list pass, each that stands in it passes
every_in : {X : Type 0} (test : X → Bool) (xs : List X) (x : X) → every test xs ≡ true → In x xs → test x ≡ true
every_in test [] x all none = absurd none
every_in test (y ∷ ys) x all (inl same) =
    ap test same ∙ (and_parts (test y) (every test ys) all).0
every_in test (y ∷ ys) x all (inr later) =
    every_in test ys x (and_parts (test y) (every test ys) all).1 later

-- effects with opposite results that one world meets clash
pub met_clash : (n : ℕ) (w : World n) (d e : Effect) → meets n w d.conditions ≡ true → meets n w e.conditions ≡ true → opposite e.result ≡ d.result → clash n d e ≡ true
met_clash n w d e met-d met-e against =
    and_from _ _
    (subst (λ (l : Literal). same_literal d.result l ≡ true) (sym against) (same_literal_self d.result))
    (some_world_from n (λ v. meets n v d.conditions && meets n v e.conditions) w (and_from _ _ met-d met-e))

-- an effect that clashes with one of a list clashes with a later one
pub clashes_in : (n : ℕ) (d : Effect) (es : Outcome) (e : Effect) → In e es → clash n d e ≡ true → clashes_later n d es ≡ true
clashes_in n d [] e none clashing = absurd none
clashes_in n d (x ∷ es) e (inl same) clashing =
    or_left _ _ (subst (λ (y : Effect). clash n d y ≡ true) same clashing)
clashes_in n d (x ∷ es) e (inr later) clashing =
    or_right (clash n d x) _ (clashes_in n d es e later clashing)

-- the first effect of an outcome whose effects do not clash clashes with no later one
first_apart : (n : ℕ) (x : Effect) (es : Outcome) (d e : Effect) → apart n (x ∷ es) ≡ true → d ≡ x → In e es → clash n d e ≡ true → ⊥
first_apart n x es d e fine same later clashing =
    let parts = and_parts (not (clashes_later n x es)) (apart n es) fine in
    both_ways _
    (not-true _ parts.0)
    (clashes_in n x es e later (subst (λ (y : Effect). clash n y e ≡ true) same clashing))

-- in an outcome whose effects do not clash, two that clash each with the other are one
apart_same : (n : ℕ) (o : Outcome) (d e : Effect) → apart n o ≡ true → In d o → In e o → clash n d e ≡ true → clash n e d ≡ true → d ≡ e
apart_same n [] d e fine none in_e there back = absurd none
apart_same n (x ∷ es) d e fine (inl same-d) (inl same-e) there back = same-d ∙ sym same-e
apart_same n (x ∷ es) d e fine (inl same-d) (inr later-e) there back =
    absurd (first_apart n x es d e fine same-d later-e there)
apart_same n (x ∷ es) d e fine (inr later-d) (inl same-e) there back =
    absurd (first_apart n x es e d fine same-e later-d back)
apart_same n (x ∷ es) d e fine (inr later-d) (inr later-e) there back =
    apart_same n es d e (and_parts (not (clashes_later n x es)) (apart n es) fine).1 later-d later-e there back

-- of an outcome whose effects do not clash, a world meets no effect whose result is opposite to that of one it meets
met_agree : (n : ℕ) (o : Outcome) (w : World n) (d e : Effect) → apart n o ≡ true → speaks_within n e.result ≡ true → In d o → In e o → meets n w d.conditions ≡ true → meets n w e.conditions ≡ true → d.result ≡ opposite e.result → ⊥
met_agree n o w d e fine within in-d in_e met-d met-e against =
    let there = met_clash n w d e met-d met-e (sym against) in
    let back = met_clash n w e d met-e met-d (ap opposite against ∙ neg_ℤ-neg_ℤ e.result) in
    let same : e ≡ d = sym (apart_same n o d e fine in-d in_e there back) in
    let own : e.result ≡ opposite e.result = ap (λ (x : Effect). x.result) same ∙ against in
    both_ways _
    (opposite_differs n e.result within)
    (subst (λ (l : Literal). same_literal l e.result ≡ true) own (same_literal_self e.result))

-- ## The world after an outcome

-- the value that a condition has after an outcome
abbrev rule_after : (n : ℕ) → Outcome → World n → ℕ → Bool
rule_after n o w p = cond (brings n o w (pos p)) true (cond (brings n o w (opposite (pos p))) false (value n w p))

-- a literal that is brought, and its opposite not, is so by that rule
rule_says : (n : ℕ) (o : Outcome) (w : World n) (l : Literal) → brings n o w l ≡ true → brings n o w (opposite l) ≡ false → says (rule_after n o w) l ≡ true
rule_says n o w (pos p) brought other = cond-true (brings n o w (pos p)) _ _ brought
rule_says n o w (negsuc m) brought other =
    not_from_false _ (cond-false (brings n o w (pos (suc m))) _ _ other ∙ cond-true (brings n o w (negsuc m)) _ _ brought)

-- each effect that was met holds afterwards
met_holds : (n : ℕ) (o : Outcome) (w : World n) (e : Effect) → every (lawful_effect n) o ≡ true → apart n o ≡ true → In e o → meets n w e.conditions ≡ true → holds n (after n o w) e.result ≡ true
met_holds n o w e lawful fine in_e met =
    let within = (and_parts (lawful_list n 4 e.conditions) (speaks_within n e.result) (every_in (lawful_effect n) o e lawful in_e)).1 in
    let other : brings n o w (opposite e.result) ≡ false =
    not_brought n o w (opposite e.result) (λ d in-d met-d against. met_agree n o w d e fine within in-d in_e met-d met against) in
    holds_by n (rule_after n o w) e.result within ∙ rule_says n o w e.result (met_brings n o w e in_e met) other

-- a condition that is brought neither way keeps its value
value_kept : (n : ℕ) (o : Outcome) (w : World n) (p : ℕ) → 1 ≤ p → p ≤ n → brings n o w (pos p) ≡ false → brings n o w (opposite (pos p)) ≡ false → value n (after n o w) p ≡ value n w p
value_kept n o w zero low high not-pos not_neg = absurd (omega arith)
value_kept n o w (suc m) low high not-pos not_neg =
    value_by n (rule_after n o w) m high
    ∙ (cond-false (brings n o w (pos (suc m))) _ _ not-pos ∙ cond-false (brings n o w (negsuc m)) _ _ not_neg)

-- after a lawful outcome all effects that were met have taken hold, and other conditions keep their values
pub effects_take_hold : EffectsTakeHold
effects_take_hold n o w lawful =
    let parts = and_parts (leb (length o) 4) (every (lawful_effect n) o && apart n o) lawful in
    let both = and_parts (every (lawful_effect n) o) (apart n o) parts.1 in (
      λ e in_e met. met_holds n o w e both.0 both.1 in_e met,
      λ p low high silent.
          value_kept n o w p low high
          (not_brought n o w (pos p) (λ e in_e met. (silent e in_e met).0))
          (not_brought n o w (opposite (pos p)) (λ e in_e met. (silent e in_e met).1)),
    )
