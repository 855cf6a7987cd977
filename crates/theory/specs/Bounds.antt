-- Floors, ceilings and leads: what is known of the totals of procedures once some sets of worlds are worked.
use Rattle.std.specs.Prelude.{◌≡◌, ℕ, Bool, true, false, not, ◌&&◌, ◌||◌, List, [], ◌∷◌, Some, None, Option}
use Rattle.worlds.specs.Worlds.{Literal, some_world, In}
use Rattle.worlds.specs.Steps.{Outcome, Step, action, sensing}
use Rattle.worlds.specs.Tickets.{Ticket, step_at}
use Rattle.worlds.specs.Sets.{Worlds, all_meet, successor, side}
use Rattle.theory.specs.Procedures.{Belief, Procedure, empty, act, sense, Surely, larger, total}

-- ## Steps and sets

-- whether a step is open in a set: every world meets its precondition and, for sensing, neither side is empty
abbrev pub open_in : (n : ℕ) → Step → Worlds n → Bool
open_in n (action class precondition outcomes) s = all_meet n s precondition
open_in n (sensing class precondition sensed) s =
    all_meet n s precondition && (some_world n (side n sensed true s) && some_world n (side n sensed false s))

-- the sets that follow a step: all worlds that an action may give, or each side of a sensing step, yes before no
abbrev pub following : (n : ℕ) → Step → Worlds n → List (Worlds n)
following n (action class precondition outcomes) s = successor n outcomes s ∷ []
following n (sensing class precondition sensed) s = side n sensed true s ∷ side n sensed false s ∷ []

-- whether a set is an aim set: every world of it meets the aim
abbrev pub aim_set : (t : Ticket) → Belief t → Bool
aim_set t s = all_meet t.conditions s t.aim

-- that a step of the ticket, by its number, is open in a set
pub record OpenStep (t : Ticket) (s : Belief t) (k : ℕ) (x : Step) : Type 0 where
  pub of_ticket : step_at t.steps k ≡ Some x
  pub is_open : open_in t.conditions x s ≡ true

-- that a collection of sets has, with each worked set of it, every set that follows an open step there
abbrev pub Closed : (t : Ticket) → (worked held : Belief t → Bool) → Type 0
Closed t worked held = (r : Belief t) (k : ℕ) (x : Step) → held r ≡ true → worked r ≡ true → OpenStep t r k x →
    (f : Belief t) → In f (following t.conditions x r) → held f ≡ true

-- ## Procedures through worked sets

-- a procedure from a set that takes open steps in worked sets only, and ends only in sets that pass the test `ends`
pub data Way (t : Ticket) (worked ends : Belief t → Bool) : Belief t → Type 0 where
  end : (s : Belief t) → ends s ≡ true → Way t worked ends s
  by_action : (s : Belief t) (k class : ℕ) (precondition : List Literal) (outcomes : List Outcome) →
      worked s ≡ true → OpenStep t s k (action class precondition outcomes) →
      Way t worked ends (successor t.conditions outcomes s) →
      Way t worked ends s
  by_sensing : (s : Belief t) (k class : ℕ) (precondition : List Literal) (sensed : Literal) →
      worked s ≡ true → OpenStep t s k (sensing class precondition sensed) →
      Way t worked ends (side t.conditions sensed true s) →
      Way t worked ends (side t.conditions sensed false s) →
      Way t worked ends s

-- the procedure that it is
abbrev pub as_procedure : {t : Ticket} {worked ends : Belief t → Bool} {s : Belief t} → Way t worked ends s → Procedure
as_procedure (end s ended) = empty
as_procedure (by_action s k class precondition outcomes was_worked taken rest) = act k (as_procedure rest)
as_procedure (by_sensing s k class precondition sensed was_worked taken on_yes on_no) = sense k (as_procedure on_yes) (as_procedure on_no)

-- for a ceiling a procedure ends in aim sets only
abbrev pub CeilingWay : (t : Ticket) → (worked : Belief t → Bool) → Belief t → Type 0
CeilingWay t worked s = Way t worked (aim_set t) s

-- for a floor it may also end in any unworked set
abbrev pub FloorWay : (t : Ticket) → (worked : Belief t → Bool) → Belief t → Type 0
FloorWay t worked s = Way t worked (λ r. aim_set t r || not (worked r)) s

-- ## Bounds

-- that a bound is the least total that any of P has; none where there is nothing in P
abbrev pub Least : {P T : Type 0} → (T → T → Bool) → (P → T) → Option T → Type 0
Least {P = P} le of None = P → ⊥
Least {P = P} le of (Some m) = ((p : P) × (of p ≡ m)) × ((p : P) → le m (of p) ≡ true)

-- whether one bound is at most another: none is above every total
abbrev pub bound_le : {T : Type 0} → (T → T → Bool) → Option T → Option T → Bool
bound_le le b None = true
bound_le le None (Some c) = false
bound_le le (Some b) (Some c) = le b c

module _ {T : Type 0} (le : T → T → Bool) (nothing : T) (add : Step → T → T) where
  -- the total of such a procedure: nothing where it ends, otherwise its first step added to the larger total of what
  -- follows
  abbrev pub way_total : {t : Ticket} {worked ends : Belief t → Bool} {s : Belief t} → Way t worked ends s → T
  way_total (end s ended) = nothing
  way_total (by_action s k class precondition outcomes was_worked taken rest) = add (action class precondition outcomes) (way_total rest)
  way_total (by_sensing s k class precondition sensed was_worked taken on_yes on_no) =
      add (sensing class precondition sensed) (larger le (way_total on_yes) (way_total on_no))

  -- that b is the ceiling of a set
  abbrev pub Ceiling : (t : Ticket) → (worked : Belief t → Bool) → Belief t → (b : Option T) → Type 0
  Ceiling t worked s b = Least {P = CeilingWay t worked s} le (λ p. way_total p) b

  -- that b is the floor of a set
  abbrev pub Floor : (t : Ticket) → (worked : Belief t → Bool) → Belief t → (b : Option T) → Type 0
  Floor t worked s b = Least {P = FloorWay t worked s} le (λ p. way_total p) b

  -- ## Leads

  -- that a set is joined to a last one by a path, perhaps of no length: each set before the last is worked and has a
  -- floor other than its ceiling, and each move is by an open step all of whose following sets have a floor other than
  -- none, to one of these
  pub data Joined (t : Ticket) (worked : Belief t → Bool) (last : Belief t) : Belief t → Type 0 where
    there : (s : Belief t) → s ≡ last → Joined t worked last s
    onward : (s next : Belief t) (k : ℕ) (x : Step) →
        worked s ≡ true → ((b : Option T) → Floor t worked s b → Ceiling t worked s b → ⊥) →
        OpenStep t s k x → ((f : Belief t) → In f (following t.conditions x s) → Floor t worked f None → ⊥) →
        In next (following t.conditions x s) → Joined t worked last next →
        Joined t worked last s

  -- a lead from a set: an unworked set, no aim set, to which it is joined
  pub record Lead (t : Ticket) (worked : Belief t → Bool) (s lead : Belief t) : Type 0 where
    pub unworked : worked lead ≡ false
    pub no_aim : aim_set t lead ≡ false
    pub joined : Joined t worked lead s

  -- ## Known bounds

  -- that each set of a collection has a floor and a ceiling
  abbrev pub HaveBounds : (t : Ticket) → (worked held : Belief t → Bool) → Type 0
  HaveBounds t worked held = (r : Belief t) → held r ≡ true →
      ((b : Option T) × Floor t worked r b) × ((c : Option T) × Ceiling t worked r c)

  -- that b is the least total of all procedures that surely reach the aim from a set
  abbrev pub Best : (t : Ticket) → Belief t → (b : Option T) → Type 0
  Best t s b = Least {P = (p : Procedure) × Surely t s p} le (λ p. total le nothing add t p.0 s) b
