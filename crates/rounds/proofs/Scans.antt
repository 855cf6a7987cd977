-- The best of several tentative totals: one more number, and what it tells of all.
-- Assumes nothing.
use Rattle.std.proofs.Common.{◌≡◌, ℕ, zero, suc, ◌<◌, Bool, true, ◌⊎◌, Some, None, Option, sym, refl, ◌∙◌, subst, inl, inr, not-suc-le-zero, arith}
use Rattle.std.proofs.lemmas.Bool.{cases_lt, cond_both}
use Rattle.worlds.specs.Steps.{Step}
use Rattle.tally.specs.Laws.{Laws}
use Rattle.theory.proofs.Order.{le_self}
use Rattle.rounds.specs.declared.graph.Tentative.{Tentative}
use Rattle.rounds.specs.Rounds.{better_of, better, best_below}
use Rattle.std.proofs.lemmas.Option.{none-some, same_Some}
use Rattle.rounds.proofs.Lists.{cases_some}

-- below suc n is below n, or n
below_suc : (k n : ℕ) → k < suc n → (k < n) ⊎ (k ≡ n)
below_suc k n h = elim (cases_lt k n) [ inl l ↦ inl l | inr l ↦ inr (omega arith) ]

module _ {T : Type 0} {le : T → T → Bool} {nothing : T} {add : Step → T → T} (laws : Laws le nothing add) where
  -- ## Of two

  better_none : (a b : Option (Tentative T)) → better le a b ≡ None → (a ≡ None) × (b ≡ None)
  better_none None None e = (refl, refl)
  better_none None (Some b) e = absurd (none-some _ (sym e))
  better_none (Some a) None e = absurd (none-some _ (sym e))
  better_none (Some a) (Some b) e = absurd (none-some _ (sym e))

  better_one : (a b : Option (Tentative T)) (o : Tentative T) → better le a b ≡ Some o → (a ≡ Some o) ⊎ (b ≡ Some o)
  better_one None b o e = inr e
  better_one (Some a) None o e = inl e
  better_one (Some a) (Some b) o e =
      cond_both (le a.total b.total) a b (λ (x : Tentative T). Some x ≡ Some o → (Some a ≡ Some o) ⊎ (Some b ≡ Some o)) (λ h. inl) (λ h. inr) e

  -- what is at most a total stays so under another name
  same_le : (a o : Tentative T) (t : T) → le a.total t ≡ true → Some a ≡ Some o → le o.total t ≡ true
  same_le a o t h e = subst (λ (x : Tentative T). le x.total t ≡ true) (same_Some _ _ e) h

  better_left : (a : Tentative T) (b : Option (Tentative T)) (o : Tentative T) → better le (Some a) b ≡ Some o → le o.total a.total ≡ true
  better_left a None o e = same_le a o a.total (le_self laws a.total) e
  better_left a (Some b) o e =
      same_le (better_of le a b) o a.total
      (cond_both (le a.total b.total) a b (λ (x : Tentative T). le x.total a.total ≡ true) (λ h. le_self laws a.total) (λ h. laws.total a.total b.total h))
      e

  better_right : (a : Option (Tentative T)) (b o : Tentative T) → better le a (Some b) ≡ Some o → le o.total b.total ≡ true
  better_right None b o e = same_le b o b.total (le_self laws b.total) e
  better_right (Some a) b o e =
      same_le (better_of le a b) o b.total
      (cond_both (le a.total b.total) a b (λ (x : Tentative T). le x.total b.total ≡ true) (λ h. h) (λ h. le_self laws b.total))
      e

  -- ## Of all below n

  -- where there is no best, there is none at all
  pub best_none : (rule : ℕ → Option (Tentative T)) (n : ℕ) → best_below le rule n ≡ None → (k : ℕ) → k < n → rule k ≡ None
  best_none rule zero e k h = absurd (not-suc-le-zero h)
  best_none rule (suc n) e k h =
      let p = better_none (best_below le rule n) (rule n) e in
      elim (below_suc k n h) [
        | inl l ↦ best_none rule n p.0 k l
        | inr l ↦ subst (λ (i : ℕ). rule i ≡ None) (sym l) p.1
      ]

  -- the best is one of them
  pub best_one : (rule : ℕ → Option (Tentative T)) (n : ℕ) (o : Tentative T) → best_below le rule n ≡ Some o → (k : ℕ) × (k < n) × (rule k ≡ Some o)
  best_one rule zero o e = absurd (none-some _ e)
  best_one rule (suc n) o e =
      elim (better_one (best_below le rule n) (rule n) o e) [
        | inl l ↦ let p = best_one rule n o l in (p.0, omega (arith, p.1), p.2)
        | inr l ↦ (n, omega arith, l)
      ]

  -- and is at most each
  pub best_least : (rule : ℕ → Option (Tentative T)) (n : ℕ) (o : Tentative T) → best_below le rule n ≡ Some o → (k : ℕ) (a : Tentative T) → k < n → rule k ≡ Some a → le o.total a.total ≡ true
  best_least rule zero o e k a h f = absurd (not-suc-le-zero h)
  best_least rule (suc n) o e k a h f =
      elim (below_suc k n h) [
        | inl l ↦
            elim (cases_some (best_below le rule n)) [
              | inl none ↦ absurd (none-some _ (sym (best_none rule n none k l) ∙ f))
              | inr some ↦
                  laws.transitive o.total some.0.total a.total
                  (better_left some.0 (rule n) o (subst (λ (b : Option (Tentative T)). better le b (rule n) ≡ Some o) some.1 e))
                  (best_least rule n some.0 some.1 k a l f)
            ]
        | inr l ↦ better_right (best_below le rule n) a o (subst (λ (b : Option (Tentative T)). better le (best_below le rule n) b ≡ Some o) (subst (λ (i : ℕ). rule i ≡ Some a) l f) e)
      ]
