-- A procedure through worked sets that ends in aim sets only surely reaches the aim, at exactly its total.
-- Assumes nothing.
use Rattle.std.proofs.Common.{◌≡◌, Bool, true, false, Option, sym, refl, ap, ◌∙◌, subst, ap₂}
use Rattle.std.proofs.lemmas.Bool.{and_parts, not_from_true, cond-false}
use Rattle.worlds.specs.Worlds.{some_world}
use Rattle.worlds.specs.Steps.{Step, action, sensing, after}
use Rattle.worlds.specs.Tickets.{Ticket}
use Rattle.worlds.specs.Sets.{none_in, all_meet, side}
use Rattle.theory.specs.Procedures.{Belief, Acts, Senses, Sure, Surely, larger, action_total, sensing_total, total}
use Rattle.theory.specs.Bounds.{Way, end, by_action, by_sensing, as_procedure, way_total, CeilingWay}
use Rattle.theory.specs.Theorems.{CeilingIsReached}
use Rattle.theory.proofs.Believed.{all_meets, successor_has, side_has}

-- it surely reaches the aim
reaches : (t : Ticket) (worked : Belief t → Bool) {s : Belief t} (p : CeilingWay t worked s) → Surely t s (as_procedure p)
reaches t worked (end s ended) = all_meets t.conditions s t.aim ended
reaches t worked (by_action s k class precondition outcomes was_worked taken rest) =
    λ w within.
    subst (λ (x : Option Step). Acts t.conditions x w (λ v. Sure t (as_procedure rest) v)) (sym taken.of_ticket) (
      all_meets t.conditions s precondition taken.is_open w within,
      λ o in-outcomes. reaches t worked rest (after t.conditions o w) (successor_has t.conditions outcomes s o w in-outcomes within),
    )
reaches t worked (by_sensing s k class precondition l was_worked taken on_yes on_no) =
    λ w within.
    subst (λ (x : Option Step). Senses t.conditions x w (Sure t (as_procedure on_yes) w) (Sure t (as_procedure on_no) w)) (sym taken.of_ticket) (
      all_meets t.conditions s precondition (and_parts (all_meet t.conditions s precondition) _ taken.is_open).0 w within,
      λ so. reaches t worked on_yes w (side_has t.conditions l true s w within so),
      λ not_so. reaches t worked on_no w (side_has t.conditions l false s w within not_so),
    )

module _ {T : Type 0} (le : T → T → Bool) (nothing : T) (add : Step → T → T) where
  -- its total as a procedure is its own
  same_total : (t : Ticket) (worked ends : Belief t → Bool) {s : Belief t} (p : Way t worked ends s) → total le nothing add t (as_procedure p) s ≡ way_total le nothing add p
  same_total t worked ends (end s ended) = refl
  same_total t worked ends (by_action s k class precondition outcomes was_worked taken rest) =
      let x = action class precondition outcomes in
      subst (λ (o : Option Step). action_total le nothing add t.conditions o s (λ v. total le nothing add t (as_procedure rest) v) ≡ add x (way_total le nothing add rest))
      (sym taken.of_ticket)
      (ap (add x) (same_total t worked ends rest))
  same_total t worked ends (by_sensing s k class precondition l was_worked taken on_yes on_no) =
      let x = sensing class precondition l in
      let n = t.conditions in
      let sides = and_parts (some_world n (side n l true s)) (some_world n (side n l false s)) (and_parts (all_meet n s precondition) _ taken.is_open).1 in
      let yes-total = cond-false (none_in n (side n l true s)) nothing (total le nothing add t (as_procedure on_yes) (side n l true s)) (not_from_true _ sides.0) ∙ same_total t worked ends on_yes in
      let no-total = cond-false (none_in n (side n l false s)) nothing (total le nothing add t (as_procedure on_no) (side n l false s)) (not_from_true _ sides.1) ∙ same_total t worked ends on_no in
      subst (λ (o : Option Step). sensing_total le nothing add n o s (λ v. total le nothing add t (as_procedure on_yes) v) (λ v. total le nothing add t (as_procedure on_no) v) ≡ add x (larger le (way_total le nothing add on_yes) (way_total le nothing add on_no)))
      (sym taken.of_ticket)
      (ap₂ (λ a b. add x (larger le a b)) yes-total no-total)

  -- both together
  pub ceiling_is_reached : CeilingIsReached le nothing add
  ceiling_is_reached t worked s p = (reaches t worked p, same_total t worked _ p)
