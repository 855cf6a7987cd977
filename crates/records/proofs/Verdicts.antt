-- Judging a file gives one verdict and no other, so every string of bytes has exactly one answer.
use Rattle.std.proofs.Common.{◌≡◌, ℕ, zero, suc, ◌+◌, ◌*◌, ◌<◌, ◌≤◌, Bool, true, false, cond, ◌&&◌, eqb, ltb, ◌⊎◌, List, [], ◌∷◌, ◌++◌, length, Some, None, Option, sym, refl, ap, ◌∙◌, inl, inr, arith}
use Rattle.std.proofs.lemmas.Bool.{eqb-true, ltb-true, leb-true, cases_lt, and_parts, or_cases}
use Rattle.worlds.specs.Tickets.{Ticket}
use Rattle.records.specs.declared.refusal.Refusal.{Refusal}
use Rattle.records.specs.declared.refusal.Fault.{Fault}
use Rattle.records.specs.declared.refusal.Fault.TheVariants.{Link}
use Rattle.records.specs.Layout.{kind, below, next, part, inside, leads_on, links_good, conditions, top}
use Rattle.records.specs.Content.{ticket_in}
use Rattle.records.specs.Judging.{Place, at_top, under, record_fault, end_fault, at_record, Judged, ended, faulty, faulty_below, onward}
use Rattle.records.specs.Answers.{head_fault, Holds, Refused}
use Rattle.records.specs.OneAnswer.{OneAnswer}

-- Options

-- no option is both something and nothing
clash : {X : Type 0} (o : Option X) (x : X) → o ≡ Some x → o ≡ None → ⊥
clash o x p q = let z : ◌≡◌ {A = ℕ} 0 1 = cc in omega arith

-- what an option holds is one thing
same_held : {X : Type 0} (o : Option X) (x y : X) → o ≡ Some x → o ≡ Some y → x ≡ y
same_held o x y p q = cc

-- an option is nothing or something
none_or_some : {X : Type 0} (o : Option X) → (o ≡ None) ⊎ ((x : X) × (o ≡ Some x))
none_or_some None = inl refl
none_or_some (Some x) = inr (x, refl)

-- where a test that fails is a fault, no fault says that it passed
passed : {X : Type 0} (b : Bool) (o : Option X) (x : X) → cond b o (Some x) ≡ None → b ≡ true
passed true o x e = refl
passed false o x e = absurd (clash (Some x) x refl e)

-- One verdict at most

module _ {f : List ℕ} {n : ℕ} where
  -- what is judged at zero is the chain's end
  at_end : {place : Place} {above : ℕ} {earlier : List ℕ} {k : ℕ} {v : Option Refusal} → k ≡ 0 → Judged f n place above earlier k v → v ≡ at_record above (end_fault f n place above earlier)
  at_end z (ended e is) = is
  at_end z (faulty x p e is) = absurd (omega arith)
  at_end z (faulty_below r p e b is) = absurd (omega arith)
  at_end z (onward p e b d) = absurd (omega arith)

  -- what is judged at a faulty record is its fault
  at_fault : {place : Place} {above : ℕ} {earlier : List ℕ} {k : ℕ} {v : Option Refusal} (x : Fault) → 0 < k → record_fault f n place earlier k ≡ Some x → Judged f n place above earlier k v → v ≡ at_record k (Some x)
  at_fault x p s (ended e is) = absurd (omega arith)
  at_fault x p s (faulty y q e is) = cc
  at_fault x p s (faulty_below r q e b is) = absurd (clash _ x s e)
  at_fault x p s (onward q e b d) = absurd (clash _ x s e)

  -- what is judged at a record without fault is the first fault under it, or else what its follower is judged
  at_good : {place : Place} {above : ℕ} {earlier : List ℕ} {k : ℕ} {v : Option Refusal} → 0 < k → record_fault f n place earlier k ≡ None → Judged f n place above earlier k v → ((r : Refusal) × Judged f n (under (kind (part f k)) earlier) k [] (below (part f k)) (Some r) × (v ≡ Some r)) ⊎ (Judged f n (under (kind (part f k)) earlier) k [] (below (part f k)) None × Judged f n place above (earlier ++ k ∷ []) (next (part f k)) v)
  at_good p s (ended e is) = absurd (omega arith)
  at_good p s (faulty x q e is) = absurd (clash _ x e s)
  at_good p s (faulty_below r q e b is) = inl (r, b, is)
  at_good p s (onward q e b d) = inr (b, d)

  -- a chain is judged in one way only
  pub judged_once : {place : Place} {above : ℕ} {earlier : List ℕ} {k : ℕ} {v u : Option Refusal} → Judged f n place above earlier k v → Judged f n place above earlier k u → v ≡ u
  judged_once (ended e is) j = is ∙ sym (at_end e j)
  judged_once (faulty x p e is) j = is ∙ sym (at_fault x p e j)
  judged_once (faulty_below r p e b is) j =
      elim (at_good p e j) [
        | inl h ↦ is ∙ judged_once b h.1 ∙ sym h.2
        | inr h ↦ absurd (clash _ r refl (judged_once b h.0))
      ]
  judged_once (onward p e b d) j =
      elim (at_good p e j) [
        | inl h ↦ absurd (clash _ h.0 (judged_once b h.1) refl)
        | inr h ↦ judged_once d h.1
      ]

-- One verdict at least

-- the chain that starts at k is judged in some way
abbrev Answered : List ℕ → ℕ → Place → ℕ → List ℕ → ℕ → Type 0
Answered f n place above earlier k = (v : Option Refusal) × Judged f n place above earlier k v

-- k ends a chain, or it is a record of the file after which no more than m records can follow
abbrev Reached : List ℕ → ℕ → ℕ → Type 0
Reached f m k = (k ≡ 0) ⊎ ((0 < k) × (inside f k ≡ true) × (length f ≤ m + k))

-- a record without fault has good links
good_links : (f : List ℕ) (n : ℕ) (place : Place) (earlier : List ℕ) (k : ℕ) → record_fault f n place earlier k ≡ None → links_good f k ≡ true
good_links f n place earlier k e = passed (links_good f k) _ Link e

-- a good link of record k reaches zero or a later record
reached_on : (f : List ℕ) (m k link : ℕ) → length f ≤ suc m + k → leads_on f k link ≡ true → Reached f m link
reached_on f m k link most good =
    elim (or_cases (eqb link 0) (ltb k link && inside f link) good) [
      | inl h ↦ inl (eqb-true link 0 h)
      | inr h ↦
          let both = and_parts (ltb k link) (inside f link) h in
          let later = ltb-true k link both.0 in
          inr (omega arith, both.1, omega arith)
    ]

module _ {f : List ℕ} {n : ℕ} {place : Place} {above : ℕ} {earlier : List ℕ} {k : ℕ} where
  -- a record without fault is judged, where the chain under it and its follower are
  good_answered : 0 < k → record_fault f n place earlier k ≡ None → Answered f n (under (kind (part f k)) earlier) k [] (below (part f k)) → Answered f n place above (earlier ++ k ∷ []) (next (part f k)) → Answered f n place above earlier k
  good_answered p e (None, b) (v, d) = (v, onward p e b d)
  good_answered p e (Some r, b) (v, d) = (Some r, faulty_below r p e b refl)

  -- a record is judged, where the chain under it and its follower are as soon as it is without fault
  answered : 0 < k → (record_fault f n place earlier k ≡ None → Answered f n (under (kind (part f k)) earlier) k [] (below (part f k)) × Answered f n place above (earlier ++ k ∷ []) (next (part f k))) → Answered f n place above earlier k
  answered p more =
      elim (none_or_some (record_fault f n place earlier k)) [
        | inl e ↦ good_answered p e (more e).0 (more e).1
        | inr h ↦ (at_record k (Some h.0), faulty h.0 p h.1 refl)
      ]

-- a chain that starts in the file is judged: its links rise, and m counts down the records that can still follow
pub judged_some : (f : List ℕ) (n m : ℕ) (place : Place) (above : ℕ) (earlier : List ℕ) (k : ℕ) → Reached f m k → Answered f n place above earlier k
judged_some f n m place above earlier k (inl z) = (at_record above (end_fault f n place above earlier), ended z refl)
judged_some f n zero place above earlier k (inr h) = absurd (omega (arith, leb-true (8 * k + 8) (length f) h.1))
judged_some f n (suc m) place above earlier k (inr h) =
    answered h.0 (λ e.
    let links = and_parts (leads_on f k (below (part f k))) (leads_on f k (next (part f k))) (good_links f n place earlier k e) in (
      judged_some f n m (under (kind (part f k)) earlier) k [] (below (part f k)) (reached_on f m k (below (part f k)) h.2 links.0),
      judged_some f n m place above (earlier ++ k ∷ []) (next (part f k)) (reached_on f m k (next (part f k)) h.2 links.1),
    ))

-- One answer

-- a good record 0 leads to a top chain in the file
top_inside : (f : List ℕ) → head_fault f ≡ None → inside f (top f) ≡ true
top_inside f e = grind arith

-- the top chain of a file with a good record 0 is judged
top_judged : (f : List ℕ) → head_fault f ≡ None → Answered f (conditions f) at_top 0 [] (top f)
top_judged f e = judged_some f (conditions f) (length f) at_top 0 [] (top f) (top_reached (cases_lt 0 (top f)))
  where
    top_reached : (0 < top f) ⊎ (top f ≤ 0) → Reached f (length f) (top f)
    top_reached (inl p) = inr (p, top_inside f e, omega arith)
    top_reached (inr z) = inl (omega arith)

-- how the top chain is judged decides between a ticket and a refusal
from_top : (f : List ℕ) → head_fault f ≡ None → Answered f (conditions f) at_top 0 [] (top f) → ((t : Ticket) × Holds f t) ⊎ ((r : Refusal) × Refused f r)
from_top f e (None, j) = inl (ticket_in f, record { faultless = record { head = e; chains = j }; content = refl })
from_top f e (Some r, j) = inr (r, inr (e, j))

-- a file holds a ticket or is refused
some_answer : (f : List ℕ) → ((t : Ticket) × Holds f t) ⊎ ((r : Refusal) × Refused f r)
some_answer f =
    elim (none_or_some (head_fault f)) [
      | inl e ↦ from_top f e (top_judged f e)
      | inr h ↦ inr (record { fault = h.0; «record» = 0 }, inl (ap (at_record 0) h.1))
    ]

-- a file holds one ticket only
one_ticket : (f : List ℕ) (t s : Ticket) → Holds f t → Holds f s → t ≡ s
one_ticket f t s h i = h.content ∙ sym i.content

-- a file is not both refused at record 0 and without fault there
not_both : (f : List ℕ) (r : Refusal) → at_record 0 (head_fault f) ≡ Some r → head_fault f ≡ None → ⊥
not_both f r s e = clash (at_record 0 (head_fault f)) r s (ap (at_record 0) e)

-- a file is refused for one reason only
one_refusal : (f : List ℕ) (r q : Refusal) → Refused f r → Refused f q → r ≡ q
one_refusal f r q (inl h) (inl i) = same_held _ r q h i
one_refusal f r q (inl h) (inr i) = absurd (not_both f r h i.0)
one_refusal f r q (inr h) (inl i) = absurd (not_both f q i h.0)
one_refusal f r q (inr h) (inr i) = same_held _ r q refl (judged_once h.1 i.1)

-- a file that holds a ticket is not refused
not_refused : (f : List ℕ) (t : Ticket) (r : Refusal) → Holds f t → Refused f r → ⊥
not_refused f t r h (inl i) = not_both f r i h.faultless.head
not_refused f t r h (inr i) = clash _ r (judged_once h.faultless.chains i.1) refl

pub one_answer : OneAnswer
one_answer f = (some_answer f, one_ticket f, one_refusal f, not_refused f)
