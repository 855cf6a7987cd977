-- One record more of the top chain.
use Rattle.std.proofs.Common.{◌≡◌, ℕ, ◌<◌, Bool, true, cond, ◌||◌, eqb, leb, List, [], ◌∷◌, ◌++◌, map, length, Some, None, Ok, Err, Result, sym, refl, ap, ◌∙◌, subst, arith, length-append}
use lib.ListN.{length-map}
use Rattle.std.proofs.lemmas.Bool.{le-leb, eqb-true}
use Rattle.worlds.specs.Worlds.{Literal}
use Rattle.worlds.specs.Steps.{Step}
use Rattle.worlds.specs.Tickets.{every, lawful_list, lawful_step}
use Rattle.worlds.proofs.Compatible.{every_snoc}
use Rattle.records.specs.declared.refusal.Refusal.{Refusal}
use Rattle.records.specs.Layout.{kind, part, group}
use Rattle.records.specs.Content.{among, list_at, step_at}
use Rattle.records.specs.Judging.{Place, Judged, at_top, end_fault}
use Rattle.records.specs.declared.refusal.Fault.TheVariants.{Missing}
use Rattle.ticket.specs.Drafts.{Added, Sound}
use Rattle.ticket.specs.Gathers.{HoldsTop}
use Rattle.ticket.proofs.Records.{gathers_more, gathers_same}

-- what adding one of the top chain's records answers, after the records ks: `was` becomes `is` by what the record holds,
-- which passes the test `law`; there is room for it
pub record TopAdded {X : Type 0} (f : List ℕ) (n : ℕ) (ks : List ℕ) (k : ℕ) (held : X) (law : X → Bool) (most : ℕ) (was is : List X) : Type 0 where
  pub sound : Sound f n at_top ks k
  pub longer : is ≡ was ++ held ∷ []
  pub lawful : law held ≡ true
  pub room_left : length was < most

abbrev pub AddsTop : {X : Type 0} → List ℕ → ℕ → List ℕ → ℕ → X → (X → Bool) → ℕ → List X → List X → Result (Unit {0}) Refusal → Type 0
AddsTop f n ks k held law most was is (Ok u) = TopAdded f n ks k held law most was is
AddsTop f n ks k held law most was is (Err r) = (above : ℕ) → Judged f n at_top above ks k (Some r)

-- the longer list: what it holds, that it is not too long, and that all of it is lawful
module _ {X : Type 0} (f : List ℕ) (n : ℕ) (ks : List ℕ) (k kd : ℕ) (e : kind (part f k) ≡ kd) (g : ℕ) (of-group : eqb (group kd) g ≡ true) (at : ℕ → X) (law : X → Bool) (most : ℕ) (was is : List X) (a : TopAdded f n ks k (at k) law most was is) where
  longer_same : was ≡ map at (among f g ks) → is ≡ map at (among f g (ks ++ k ∷ []))
  longer_same same = a.longer ∙ ap (λ l. l ++ at k ∷ []) same ∙ sym (gathers_more f ks k kd e at g of-group)

  longer_few : leb (length is) most ≡ true
  longer_few = let few = a.room_left in le-leb _ most (rw (a.longer, length-append) (omega arith))

  longer_lawful : every law was ≡ true → every law is ≡ true
  longer_lawful all = subst (λ l. every law l ≡ true) (sym a.longer) (every_snoc law was (at k) all a.lawful)

module _ (f : List ℕ) (n : ℕ) (place : Place) (ks : List ℕ) (k : ℕ) (terms aims : List (List Literal)) (steps : List Step) (h : HoldsTop terms aims steps f n place ks) where
  faulty_there : (r : Refusal) → ((above : ℕ) → Judged f n at_top above ks k (Some r)) → (above : ℕ) → Judged f n place above ks k (Some r)
  faulty_there r a above = subst (λ q. Judged f n q above ks k (Some r)) (sym h.where_it_is) (a above)

  sound_there : Sound f n at_top ks k → Sound f n place ks k
  sound_there = subst (λ q. Sound f n q ks k) (sym h.where_it_is)

  pub term_added : (is : List (List Literal)) (r : Result (Unit {0}) Refusal) → kind (part f k) ≡ 1 → AddsTop f n ks k (list_at f k) (lawful_list n 32) 256 terms is r → Added f n place ks k (HoldsTop is aims steps f n place) r
  term_added is (Err r) e a = faulty_there r a
  term_added is (Ok u) e a = (
    sound_there a.sound,
    record {
      where_it_is = h.where_it_is;
      terms_same = longer_same f n ks k 1 e 1 refl (list_at f) _ _ _ _ a h.terms_same;
      terms_few = longer_few f n ks k 1 e 1 refl (list_at f) _ _ _ _ a;
      terms_lawful = longer_lawful f n ks k 1 e 1 refl (list_at f) _ _ _ _ a h.terms_lawful;
      aims_same = h.aims_same ∙ sym (gathers_same f ks k 1 e (list_at f) 2 refl);
      aims_lawful = h.aims_lawful;
      steps_same = h.steps_same ∙ sym (gathers_same f ks k 1 e (step_at f) 3 refl);
      steps_few = h.steps_few;
      steps_lawful = h.steps_lawful;
    },
  )

  pub aim_added : (is : List (List Literal)) (r : Result (Unit {0}) Refusal) → kind (part f k) ≡ 2 → AddsTop f n ks k (list_at f k) (lawful_list n 32) 1 aims is r → Added f n place ks k (HoldsTop terms is steps f n place) r
  aim_added is (Err r) e a = faulty_there r a
  aim_added is (Ok u) e a = (
    sound_there a.sound,
    record {
      where_it_is = h.where_it_is;
      terms_same = h.terms_same ∙ sym (gathers_same f ks k 2 e (list_at f) 1 refl);
      terms_few = h.terms_few;
      terms_lawful = h.terms_lawful;
      aims_same = longer_same f n ks k 2 e 2 refl (list_at f) _ _ _ _ a h.aims_same;
      aims_lawful = longer_lawful f n ks k 2 e 2 refl (list_at f) _ _ _ _ a h.aims_lawful;
      steps_same = h.steps_same ∙ sym (gathers_same f ks k 2 e (step_at f) 3 refl);
      steps_few = h.steps_few;
      steps_lawful = h.steps_lawful;
    },
  )

  pub step_added : (is : List Step) (r : Result (Unit {0}) Refusal) → eqb (group (kind (part f k))) 3 ≡ true → AddsTop f n ks k (step_at f k) (lawful_step n) 32 steps is r → Added f n place ks k (HoldsTop terms aims is f n place) r
  step_added is (Err r) e a = faulty_there r a
  step_added is (Ok u) e a =
      let three = eqb-true (group (kind (part f k))) 3 e in (
        sound_there a.sound,
        record {
          where_it_is = h.where_it_is;
          terms_same = h.terms_same ∙ sym (gathers_same f ks k _ refl (list_at f) 1 (ap (λ g. eqb g 1) three));
          terms_few = h.terms_few;
          terms_lawful = h.terms_lawful;
          aims_same = h.aims_same ∙ sym (gathers_same f ks k _ refl (list_at f) 2 (ap (λ g. eqb g 2) three));
          aims_lawful = h.aims_lawful;
          steps_same = longer_same f n ks k _ refl 3 e (step_at f) _ _ _ _ a h.steps_same;
          steps_few = longer_few f n ks k _ refl 3 e (step_at f) _ _ _ _ a;
          steps_lawful = longer_lawful f n ks k _ refl 3 e (step_at f) _ _ _ _ a h.steps_lawful;
        },
      )

pub holds_none : (f : List ℕ) (n : ℕ) (terms aims : List (List Literal)) (steps : List Step) → terms ≡ [] → aims ≡ [] → steps ≡ [] → HoldsTop terms aims steps f n at_top []
holds_none f n terms aims steps a b c =
    record {
      where_it_is = refl;
      terms_same = a;
      terms_few = ap (λ l. leb (length l) 256) a;
      terms_lawful = ap (every (lawful_list n 32)) a;
      aims_same = b;
      aims_lawful = ap (every (lawful_list n 32)) b;
      steps_same = c;
      steps_few = ap (λ l. leb (length l) 32) c;
      steps_lawful = ap (every (lawful_step n)) c;
    }

-- at the end of the chain
pub top_ends : (f : List ℕ) (n : ℕ) (ks : List ℕ) (terms aims : List (List Literal)) (steps : List Step) → HoldsTop terms aims steps f n at_top ks → (b : Bool) → (eqb (length terms) 0 || eqb (length aims) 0) ≡ b → end_fault f n at_top 0 ks ≡ cond b (Some Missing) None
top_ends f n ks terms aims steps h b e =
    let terms-many = sym (length-map (among f 1 ks) (list_at f)) ∙ ap length (sym h.terms_same) in
    let aims-many = sym (length-map (among f 2 ks) (list_at f)) ∙ ap length (sym h.aims_same) in
    (λ i. cond (eqb (terms-many i) 0 || eqb (aims-many i) 0) (Some Missing) None) ∙ ap (λ c. cond c (Some Missing) None) e
