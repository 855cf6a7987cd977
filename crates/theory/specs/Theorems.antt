-- What floors, ceilings and leads tell of the procedures that surely reach the aim.
use Rattle.std.specs.Prelude.{◌≡◌, Bool, true, ◌↔◌, Some, None, Option}
use Rattle.worlds.specs.Steps.{Step}
use Rattle.worlds.specs.Tickets.{Ticket}
use Rattle.theory.specs.Procedures.{Belief, Procedure, Surely, total}
use Rattle.theory.specs.Bounds.{CeilingWay, FloorWay, as_procedure, way_total, Ceiling, Floor, bound_le, Lead, Closed, HaveBounds, Best}

module _ {T : Type 0} (le : T → T → Bool) (nothing : T) (add : Step → T → T) where
  -- every procedure that counts for a ceiling surely reaches the aim from its set, at exactly its total
  abbrev pub CeilingIsReached : Type 0
  CeilingIsReached = (t : Ticket) (worked : Belief t → Bool) (s : Belief t) (p : CeilingWay t worked s) →
      Surely t s (as_procedure p) × (total le nothing add t (as_procedure p) s ≡ way_total le nothing add p)

  -- a set has no two floors and no two ceilings
  abbrev pub BoundsAreSingle : Type 0
  BoundsAreSingle = (t : Ticket) (worked : Belief t → Bool) (s : Belief t) (b c : Option T) →
      (Floor le nothing add t worked s b → Floor le nothing add t worked s c → b ≡ c)
      × (Ceiling le nothing add t worked s b → Ceiling le nothing add t worked s c → b ≡ c)

  -- no floor is above its ceiling
  abbrev pub FloorIsBelow : Type 0
  FloorIsBelow = (t : Ticket) (worked : Belief t → Bool) (s : Belief t) (b c : Option T) →
      Floor le nothing add t worked s b → Ceiling le nothing add t worked s c → bound_le le b c ≡ true

  -- working more sets never lowers a floor, nor raises a ceiling
  abbrev pub WorkingNarrows : Type 0
  WorkingNarrows = (t : Ticket) (worked more : Belief t → Bool) → ((r : Belief t) → worked r ≡ true → more r ≡ true) →
      (s : Belief t) →
      ((b c : Option T) → Floor le nothing add t worked s b → Floor le nothing add t more s c → bound_le le b c ≡ true)
      × ((b c : Option T) → Ceiling le nothing add t worked s b → Ceiling le nothing add t more s c → bound_le le c b ≡ true)

  -- every procedure that surely reaches the aim from a set has a total not below that of some procedure for its floor
  abbrev pub SureIsCovered : Type 0
  SureIsCovered = (t : Ticket) (worked : Belief t → Bool) (s : Belief t) (p : Procedure) → Surely t s p →
      (q : FloorWay t worked s) × (le (way_total le nothing add q) (total le nothing add t p s) ≡ true)

  -- so no procedure that surely reaches the aim from a set has a total below its floor; where the floor is none, there is
  -- no such procedure
  abbrev pub FloorIsNotAboveSure : Type 0
  FloorIsNotAboveSure = (t : Ticket) (worked : Belief t → Bool) (s : Belief t) (b : Option T) →
      Floor le nothing add t worked s b → (p : Procedure) → Surely t s p → bound_le le b (Some (total le nothing add t p s)) ≡ true

  -- a set has no lead exactly when its floor and its ceiling agree; it is one of a collection that is closed and has bounds
  abbrev pub NoLeadExactlyWhenAgreed : Type 0
  NoLeadExactlyWhenAgreed = (t : Ticket) (worked held : Belief t → Bool) →
      Closed t worked held → HaveBounds le nothing add t worked held →
      (s : Belief t) (b c : Option T) → held s ≡ true →
      Floor le nothing add t worked s b → Ceiling le nothing add t worked s c →
      ((l : Belief t) → Lead le nothing add t worked s l → ⊥) ↔ (b ≡ c)

  -- every lead from a set of a closed collection is in the collection
  abbrev pub LeadsAreHeld : Type 0
  LeadsAreHeld = (t : Ticket) (worked held : Belief t → Bool) → Closed t worked held →
      (s l : Belief t) → held s ≡ true → Lead le nothing add t worked s l → held l ≡ true

  -- where floor and ceiling agree, they are the least total of all procedures that surely reach the aim
  abbrev pub AgreedIsBest : Type 0
  AgreedIsBest = (t : Ticket) (worked : Belief t → Bool) (s : Belief t) (b : Option T) →
      Floor le nothing add t worked s b → Ceiling le nothing add t worked s b → Best le nothing add t s b

  -- where they agree on none, no procedure surely reaches the aim
  abbrev pub AgreedOnNone : Type 0
  AgreedOnNone = (t : Ticket) (worked : Belief t → Bool) (s : Belief t) →
      Floor le nothing add t worked s None → Ceiling le nothing add t worked s None → (p : Procedure) → Surely t s p → ⊥
