-- The chain under a sensing step.
use Rattle.std.proofs.Common.{◌≡◌, ℕ, ◌<◌, true, List, [], ◌∷◌, ◌++◌, map, length, Some, None, Ok, Err, Result, sym, refl, ap, ◌∙◌, subst, arith}
use lib.ListN.{length-map}
use Rattle.std.proofs.lemmas.Bool.{lt-ltb, eq-eqb, ne_eqb, cond-true, cond-false, and_from, and_parts}
use Rattle.worlds.specs.Worlds.{Literal, speaks_within}
use Rattle.worlds.specs.Steps.{sensing}
use Rattle.worlds.specs.Tickets.{every}
use Rattle.records.specs.declared.refusal.Refusal.{Refusal}
use Rattle.records.specs.declared.refusal.Fault.TheVariants.{Missing}
use Rattle.records.specs.Layout.{kind, part}
use Rattle.records.specs.Content.{among, literal_at, sensing_from, first_literal}
use Rattle.records.specs.Judging.{Place, Judged, under_sensing, end_fault}
use Rattle.ticket.specs.Drafts.{Added, Sound}
use Rattle.ticket.specs.Gathers.{HoldsSensing, AddsSensed, StepRead}
use Rattle.ticket.proofs.Records.{gathers_more, gathers_same, lawful_none}

-- the sensed literal
pub sensed_added : (f : List ℕ) (n : ℕ) (place : Place) (ks : List ℕ) (k : ℕ) (precondition was is : List Literal) (r : Result (Unit {0}) Refusal) → HoldsSensing precondition was f n place ks → kind (part f k) ≡ 8 → AddsSensed f n ks k is r → Added f n place ks k (HoldsSensing precondition is f n place) r
sensed_added f n place ks k precondition was is (Err r) h eight a = λ above. subst (λ q. Judged f n q above ks k (Some r)) (sym h.where_it_is) (a above)
sensed_added f n place ks k precondition was is (Ok u) h eight a = (
  subst (λ q. Sound f n q ks k) (sym h.where_it_is) a.sound,
  record {
    where_it_is = h.where_it_is;
    literals = h.literals ∙ sym (gathers_same f ks k 8 eight (literal_at f) 5 refl);
    lawful = h.lawful;
    same = a.only ∙ sym (gathers_more f ks k 8 eight (literal_at f) 8 refl ∙ ap (λ l. map (literal_at f) l ++ literal_at f k ∷ []) a.first);
    within = ap (every (speaks_within n)) a.only ∙ and_from _ _ a.within refl;
  },
)

pub holds_none : (f : List ℕ) (n : ℕ) (precondition : List Literal) → precondition ≡ [] → HoldsSensing precondition [] f n under_sensing []
holds_none f n precondition a = record { where_it_is = refl; literals = a; lawful = lawful_none n 32 precondition a; same = refl; within = refl }

-- at the end of the chain
module _ (f : List ℕ) (n : ℕ) (ks : List ℕ) (precondition sensed : List Literal) (h : HoldsSensing precondition sensed f n under_sensing ks) where
  how_many : length (among f 8 ks) ≡ length sensed
  how_many = sym (length-map (among f 8 ks) (literal_at f)) ∙ ap length (sym h.same)

  pub sensing_lacks : sensed ≡ [] → end_fault f n under_sensing 0 ks ≡ Some Missing
  sensing_lacks e = cond-true _ _ _ (eq-eqb _ 0 (how_many ∙ ap length e))

  pub sensing_complete : (l : Literal) → sensed ≡ l ∷ [] → end_fault f n under_sensing 0 ks ≡ None
  sensing_complete l e = cond-false _ _ _ (ne_eqb (length (among f 8 ks)) 0 (λ z. let one = how_many ∙ ap length e in omega arith))

  pub sensing_read : (class : ℕ) (l : Literal) → class < 256 → sensed ≡ l ∷ [] → StepRead n (sensing_from f class ks) (sensing class precondition l)
  sensing_read class l small e =
      let first = ap first_literal (sym e ∙ h.same) in
      record {
        same = λ i. sensing class (h.literals i) (first i);
        lawful = and_from _ _ (lt-ltb class 256 small) (and_from _ _ h.lawful (and_parts (speaks_within n l) true (ap (every (speaks_within n)) (sym e) ∙ h.within)).0);
      }
