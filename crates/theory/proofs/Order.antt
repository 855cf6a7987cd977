-- What follows from the laws of a tally: the larger of two totals, and bounds that are least.
-- Assumes nothing.
use Rattle.std.proofs.Common.{◌≡◌, Bool, true, ◌⊎◌, Some, None, Option, sym, refl, ap, subst, inl, inr}
use Rattle.std.proofs.lemmas.Bool.{both_ways, cases_Bool, false≢true, cond_both}
use Rattle.worlds.specs.Steps.{Step}
use Rattle.tally.specs.Laws.{Laws}
use Rattle.theory.specs.Procedures.{larger}
use Rattle.theory.specs.Bounds.{Least, bound_le}

module _ {T : Type 0} {le : T → T → Bool} {nothing : T} {add : Step → T → T} (laws : Laws le nothing add) where
  -- ## Totals

  -- each total is at most itself
  pub le_self : (a : T) → le a a ≡ true
  le_self a = elim (cases_Bool (le a a)) [ inl h ↦ h | inr h ↦ laws.total a a h ]

  -- equal totals are at most each other
  pub le_equal : (a b : T) → a ≡ b → le a b ≡ true
  le_equal a b e = subst (λ (x : T). le a x ≡ true) e (le_self a)

  -- the first of two totals is at most the larger
  pub larger_left : (a b : T) → le a (larger le a b) ≡ true
  larger_left a b = cond_both (le a b) b a (λ x. le a x ≡ true) (λ e. e) (λ e. le_self a)

  -- and so is the second
  pub larger_right : (a b : T) → le b (larger le a b) ≡ true
  larger_right a b = cond_both (le a b) b a (λ x. le b x ≡ true) (λ e. le_self b) (λ e. laws.total a b e)

  -- the larger of two is at most the larger of two that are not less
  pub larger_mono : (a b c d : T) → le a c ≡ true → le b d ≡ true → le (larger le a b) (larger le c d) ≡ true
  larger_mono a b c d left right =
      cond_both (le a b) b a (λ x. le x (larger le c d) ≡ true)
      (λ e. laws.transitive b d (larger le c d) right (larger_right c d))
      (λ e. laws.transitive a c (larger le c d) left (larger_left c d))

  -- ## Bounds

  -- each bound is at most itself
  pub bound_self : (b : Option T) → bound_le le b b ≡ true
  bound_self None = refl
  bound_self (Some b) = le_self b

  -- bounds that are at most each other are the same
  pub bound_same : (b c : Option T) → bound_le le b c ≡ true → bound_le le c b ≡ true → b ≡ c
  bound_same None None there back = refl
  bound_same None (Some c) there back = absurd (false≢true there)
  bound_same (Some b) None there back = absurd (false≢true back)
  bound_same (Some b) (Some c) there back = ap Some (laws.antisymmetric b c there back)

  -- whether two bounds are the same can be told
  pub bound_decided : (b c : Option T) → (b ≡ c) ⊎ (b ≡ c → ⊥)
  bound_decided b c =
      elim (cases_Bool (bound_le le b c)) [
        | inl there ↦
            elim (cases_Bool (bound_le le c b)) [
              | inl back ↦ inl (bound_same b c there back)
              | inr back ↦ inr (λ e. both_ways _ back (subst (λ (x : Option T). bound_le le c x ≡ true) (sym e) (bound_self c)))
            ]
        | inr there ↦ inr (λ e. both_ways _ there (subst (λ (x : Option T). bound_le le b x ≡ true) e (bound_self b)))
      ]

  -- where each of Q has one of P with a total not above its own, the least of P is not above the least of Q
  pub least_below : {P Q : Type 0} (f : P → T) (g : Q → T) (b c : Option T) → ((q : Q) → (p : P) × (le (f p) (g q) ≡ true)) → Least le f b → Least le g c → bound_le le b c ≡ true
  least_below f g b None under least-f least-g = refl
  least_below f g None (Some c) under least-f least-g = absurd (least-f (under least-g.0.0).0)
  least_below f g (Some b) (Some c) under least-f least-g =
      let p = under least-g.0.0 in
      laws.transitive b (f p.0) c (least-f.1 p.0) (subst (λ (x : T). le (f p.0) x ≡ true) least-g.0.1 p.1)

  -- there is one least bound at most
  pub least_one : {P : Type 0} (f : P → T) (b c : Option T) → Least le f b → Least le f c → b ≡ c
  least_one f b c least-b least-c =
      bound_same b c
      (least_below f f b c (λ p. (p, le_self (f p))) least-b least-c)
      (least_below f f c b (λ p. (p, le_self (f p))) least-c least-b)
