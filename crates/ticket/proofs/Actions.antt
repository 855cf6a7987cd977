-- One outcome more in the chain under an action.
use Rattle.std.proofs.Common.{◌≡◌, ℕ, ◌<◌, true, leb, List, [], ◌∷◌, ◌++◌, length, Some, None, Ok, Err, Result, sym, refl, ap, ◌∙◌, subst, arith, length-append}
use lib.ListN.{length-map}
use Rattle.std.proofs.lemmas.Bool.{le-leb, lt-ltb, eq-eqb, ne_eqb, cond-true, cond-false, and_from}
use Rattle.worlds.specs.Worlds.{Literal}
use Rattle.worlds.specs.Steps.{Outcome, action}
use Rattle.worlds.specs.Tickets.{every, lawful_outcome}
use Rattle.worlds.proofs.Compatible.{every_snoc}
use Rattle.records.specs.declared.refusal.Refusal.{Refusal}
use Rattle.records.specs.Layout.{kind, part}
use Rattle.records.specs.Content.{among, literal_at, outcome_at, action_from}
use Rattle.records.specs.Judging.{Place, Judged, under_action, end_fault}
use Rattle.records.specs.declared.refusal.Fault.TheVariants.{Missing}
use Rattle.ticket.specs.Drafts.{Added, Sound}
use Rattle.ticket.specs.Gathers.{HoldsAction, AddsOutcome, StepRead}
use Rattle.ticket.proofs.Records.{gathers_more, gathers_same, lawful_none}

pub outcome_added : (f : List ℕ) (n : ℕ) (place : Place) (ks : List ℕ) (k : ℕ) (precondition : List Literal) (was is : List Outcome) (r : Result (Unit {0}) Refusal) → HoldsAction precondition was f n place ks → kind (part f k) ≡ 6 → AddsOutcome f n ks k was is r → Added f n place ks k (HoldsAction precondition is f n place) r
outcome_added f n place ks k precondition was is (Err r) h six a = λ above. subst (λ q. Judged f n q above ks k (Some r)) (sym h.where_it_is) (a above)
outcome_added f n place ks k precondition was is (Ok u) h six a =
    let ends = ap (λ o. o ∷ []) a.same in
    let few = a.room_left in (
      subst (λ q. Sound f n q ks k) (sym h.where_it_is) a.sound,
      record {
        where_it_is = h.where_it_is;
        literals = h.literals ∙ sym (gathers_same f ks k 6 six (literal_at f) 5 refl);
        lawful = h.lawful;
        same = a.longer ∙ (λ i. h.same i ++ ends i) ∙ sym (gathers_more f ks k 6 six (outcome_at f) 6 refl);
        each = subst (λ os. every (lawful_outcome n) os ≡ true) (sym a.longer) (every_snoc (lawful_outcome n) was a.last h.each a.lawful);
        few = le-leb _ 4 (rw (a.longer, length-append) (omega arith));
      },
    )

pub holds_none : (f : List ℕ) (n : ℕ) (precondition : List Literal) (outcomes : List Outcome) → precondition ≡ [] → outcomes ≡ [] → HoldsAction precondition outcomes f n under_action []
holds_none f n precondition outcomes a b =
    record {
      where_it_is = refl;
      literals = a;
      lawful = lawful_none n 32 precondition a;
      same = b;
      each = ap (every (lawful_outcome n)) b;
      few = ap (λ l. leb (length l) 4) b;
    }

-- at the end of the chain
module _ (f : List ℕ) (n : ℕ) (ks : List ℕ) (precondition : List Literal) (outcomes : List Outcome) (h : HoldsAction precondition outcomes f n under_action ks) where
  how_many : length (among f 6 ks) ≡ length outcomes
  how_many = sym (length-map (among f 6 ks) (outcome_at f)) ∙ ap length (sym h.same)

  pub action_lacks : length outcomes ≡ 0 → end_fault f n under_action 0 ks ≡ Some Missing
  action_lacks e = cond-true _ _ _ (eq-eqb _ 0 (how_many ∙ e))

  pub action_complete : 0 < length outcomes → end_fault f n under_action 0 ks ≡ None
  action_complete some = cond-false _ _ _ (ne_eqb _ 0 (λ e. let z = sym how_many ∙ e in omega arith))

  pub action_read : (class : ℕ) → class < 256 → 0 < length outcomes → StepRead n (action_from f class ks) (action class precondition outcomes)
  action_read class small some =
      record {
        same = λ i. action class (h.literals i) (h.same i);
        lawful = and_from _ _ (lt-ltb class 256 small) (and_from _ _ h.lawful (and_from _ _ (lt-ltb 0 _ some) (and_from _ _ h.few h.each)));
      }
