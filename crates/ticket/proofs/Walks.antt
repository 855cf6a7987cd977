-- A walk along a chain, record by record: what is kept while it lasts, and what it shows at its end.
use Rattle.std.proofs.Common.{◌≡◌, ℕ, zero, suc, ◌+◌, ◌-◌, ◌*◌, ◌<◌, ◌≤◌, true, false, cond, eqb, ltb, ◌⊎◌, List, [], ◌∷◌, ◌++◌, length, Some, Ok, Option, sym, refl, ap, ◌∙◌, subst, inl, inr, append_assoc, append-nil, arith}
use Rattle.std.proofs.lemmas.Bool.{or_cases, and_parts, eqb-true, ne_eqb, cond-false, ltb-true, leb-true}
use Rattle.records.specs.declared.refusal.Refusal.{Refusal}
use Rattle.records.specs.Layout.{part, next, inside, leads_on, links_good}
use Rattle.records.specs.Content.{followed, chain}
use Rattle.records.specs.Judging.{Place, Judged, onward, faulty}
use Rattle.records.specs.declared.refusal.Fault.TheVariants.{Link}
use Rattle.ticket.specs.Drafts.{Sound, Gathered}

-- a walk along the chain that starts at `first` has come to k: `is` holds of the records so far, and what is judged from
-- there on is the answer of the whole
pub record Walked (f : List ℕ) (n : ℕ) (place : Place) (first k : ℕ) (is : List ℕ → Type 0) : Type 0 where
  pub so_far : List ℕ
  pub kept : is so_far
  pub leads : (above : ℕ) (v : Option Refusal) → Judged f n place above so_far k v → Judged f n place above [] first v
  pub most : ℕ
  pub rest : so_far ++ followed f most k ≡ chain f first
  pub enough : 0 < k → length f ≤ most + k

-- how far it is to the end of the chain, at most
abbrev pub left : List ℕ → ℕ → ℕ
left f k = cond (eqb k 0) 0 (length f - k)

-- a good link is zero, or a later record of the file
pub link_cases : (f : List ℕ) (k j : ℕ) → leads_on f k j ≡ true → (j ≡ 0) ⊎ ((k < j) × (8 * j + 8 ≤ length f))
link_cases f k j h = elim (or_cases _ _ h) [
  | inl z ↦ inl (eqb-true j 0 z)
  | inr p ↦ let q = and_parts (ltb k j) (inside f j) p in inr (ltb-true k j q.0, leb-true (8 * j + 8) (length f) q.1)
]

pub next_cases : (f : List ℕ) (k : ℕ) → links_good f k ≡ true → (next (part f k) ≡ 0) ⊎ ((k < next (part f k)) × (8 * next (part f k) + 8 ≤ length f))
next_cases f k h = link_cases f k _ (and_parts _ _ h).1

-- each record with good links brings the end nearer
pub nearer : (f : List ℕ) (k j : ℕ) → 0 < k → 8 * k + 8 ≤ length f → links_good f k ≡ true → j ≡ next (part f k) → left f j < left f k
nearer f k j some within h e =
    rw (e, ne_eqb k 0 (λ z. omega arith))
    (elim (next_cases f k h) as (λ _. left f (next (part f k)) < length f - k) [
      | inl z ↦ rw z (omega arith)
      | inr p ↦ let q : 0 < next (part f k) = omega arith in rw (ne_eqb (next (part f k)) 0 (λ z. omega arith)) (omega arith)
    ])

pub started : (f : List ℕ) (n : ℕ) (place : Place) (first : ℕ) (is : List ℕ → Type 0) → is [] → Walked f n place first first is
started f n place first is kept =
    record { so_far = []; kept = kept; leads = λ above v d. d; most = length f; rest = refl; enough = λ _. omega arith }

-- the followers of a record, and of none
followed_more : (f : List ℕ) (m k : ℕ) → 0 < k → followed f (suc m) k ≡ k ∷ followed f m (next (part f k))
followed_more f m k some = cond-false (eqb k 0) _ _ (ne_eqb k 0 (λ z. omega arith))

followed_none : (f : List ℕ) (m : ℕ) → followed f m 0 ≡ []
followed_none f zero = refl
followed_none f (suc m) = refl

-- what is left of the chain once record k is passed
record Passed (f : List ℕ) (first k : ℕ) (so_far : List ℕ) : Type 0 where
  most : ℕ
  rest : (so_far ++ k ∷ []) ++ followed f most (next (part f k)) ≡ chain f first
  enough : 0 < next (part f k) → length f ≤ most + next (part f k)

passed : (f : List ℕ) (first k : ℕ) (so_far : List ℕ) → 0 < k → 8 * k + 8 ≤ length f → links_good f k ≡ true → (m : ℕ) → so_far ++ followed f m k ≡ chain f first → length f ≤ m + k → Passed f first k so_far
passed f first k so_far some within h zero rest enough = absurd (omega arith)
passed f first k so_far some within h (suc m) rest enough =
    record {
      most = m;
      rest = append_assoc so_far (k ∷ []) _ ∙ ap (λ l. so_far ++ l) (sym (followed_more f m k some)) ∙ rest;
      enough = λ on. elim (next_cases f k h) [ inl z ↦ absurd (omega arith) | inr p ↦ omega (arith, p.0) ];
    }

module _ (f : List ℕ) (n : ℕ) (place : Place) (first : ℕ) where
  -- one record more
  pub one_more : (k j : ℕ) (was is : List ℕ → Type 0) (w : Walked f n place first k was) → 0 < k → 8 * k + 8 ≤ length f → links_good f k ≡ true → j ≡ next (part f k) → Sound f n place w.so_far k → is (w.so_far ++ k ∷ []) → Walked f n place first j is
  one_more k j was is w some within h e sound kept =
      let p = passed f first k w.so_far some within h w.most w.rest (w.enough some) in
      subst (λ i. Walked f n place first i is) (sym e)
      (record {
        so_far = w.so_far ++ k ∷ [];
        kept = kept;
        leads = λ above v d. w.leads above v (onward some sound.itself sound.chain_under d);
        most = p.most;
        rest = p.rest;
        enough = p.enough;
      })

  -- at the end all records of the chain are passed
  pub came_to_end : (k : ℕ) (is : List ℕ → Type 0) (w : Walked f n place first k is) → k ≡ 0 → w.so_far ≡ chain f first
  came_to_end k is w e =
      sym (append-nil w.so_far) ∙ ap (λ l. w.so_far ++ l) (sym (ap (followed f w.most) e ∙ followed_none f w.most)) ∙ w.rest

  pub gathered : (k : ℕ) (is : List ℕ → Type 0) → Walked f n place first k is → k ≡ 0 → Gathered f n place first is (Ok tt)
  gathered k is w e =
      let end = came_to_end k is w e in
      (subst is end w.kept, λ above v d. w.leads above v (subst (λ i. Judged f n place above w.so_far i v) (sym e) (subst (λ l. Judged f n place above l 0 v) (sym end) d)))

  -- a fault in the links of the record that the walk has come to
  pub broken_link : (k : ℕ) (is : List ℕ → Type 0) → Walked f n place first k is → 0 < k → links_good f k ≡ false → (r : Refusal) → r ≡ record { fault = Link; «record» = k } → (above : ℕ) → Judged f n place above [] first (Some r)
  broken_link k is w some h r e above = w.leads above (Some r) (faulty Link some (cond-false (links_good f k) _ _ h) (ap Some e))
