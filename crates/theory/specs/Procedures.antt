-- Procedures, what it is for one to reach the aim surely, and its total.
use Rattle.std.specs.Prelude.{◌≡◌, ℕ, Bool, true, false, if◌then◌else◌, Some, None, Option}
use Rattle.worlds.specs.Worlds.{World, holds, meets, In}
use Rattle.worlds.specs.Steps.{Outcome, Step, action, sensing, after}
use Rattle.worlds.specs.Tickets.{Ticket, step_at}
use Rattle.worlds.specs.Sets.{Worlds, none_in, successor, side}

-- a belief set of a ticket: a set of its worlds
abbrev pub Belief : Ticket → Type 0
Belief t = Worlds t.conditions

-- a procedure is a finite tree: empty; an action, by its number among the ticket's steps, followed by a procedure; or a
-- sensing step followed by one procedure for yes and one for no
pub data Procedure : Type 0 where
  empty : Procedure
  act : (step : ℕ) (rest : Procedure) → Procedure
  sense : (step : ℕ) (on_yes on_no : Procedure) → Procedure

-- ## Reaching the aim surely, world by world

-- that an action can be taken in a world: its precondition is met there, and whichever outcome happens, the world after
-- it is as Then says; what is no action cannot be taken as one
abbrev pub Acts : (n : ℕ) → Option Step → World n → (Then : World n → Type 0) → Type 0
Acts n None w Then = ⊥
Acts n (Some (action class precondition outcomes)) w Then =
    (meets n w precondition ≡ true) × ((o : Outcome) → In o outcomes → Then (after n o w))
Acts n (Some (sensing class precondition sensed)) w Then = ⊥

-- that a sensing step can be taken in a world: its precondition is met there, and it goes on with Yes where its literal
-- is so and with No where it is not; what is no sensing step cannot be taken as one
abbrev pub Senses : (n : ℕ) → Option Step → World n → (Yes No : Type 0) → Type 0
Senses n None w Yes No = ⊥
Senses n (Some (action class precondition outcomes)) w Yes No = ⊥
Senses n (Some (sensing class precondition sensed)) w Yes No =
    (meets n w precondition ≡ true) × (holds n w sensed ≡ true → Yes) × (holds n w sensed ≡ false → No)

-- that a procedure surely reaches the aim from a world: under every outcome, each step's precondition is met when it is
-- taken, and the last world meets the aim
abbrev pub Sure : (t : Ticket) → Procedure → World t.conditions → Type 0
Sure t empty w = meets t.conditions w t.aim ≡ true
Sure t (act k rest) w = Acts t.conditions (step_at t.steps k) w (λ v. Sure t rest v)
Sure t (sense k on_yes on_no) w = Senses t.conditions (step_at t.steps k) w (Sure t on_yes w) (Sure t on_no w)

-- that it surely reaches the aim from every world of a set
abbrev pub Surely : (t : Ticket) → Belief t → Procedure → Type 0
Surely t s p = (w : World t.conditions) → s w ≡ true → Sure t p w

-- ## Totals

-- the larger of two totals
abbrev pub larger : {T : Type 0} → (T → T → Bool) → T → T → T
larger le a b = if le a b then b else a

-- what a branch counts: nothing where no world takes it
abbrev pub branch_total : {T : Type 0} → (nothing : T) → (n : ℕ) → Worlds n → (rest : Worlds n → T) → T
branch_total nothing n s rest = if none_in n s then nothing else rest s

module _ {T : Type 0} (le : T → T → Bool) (nothing : T) (add : Step → T → T) where
  -- an action added to the total of the rest, which starts from all worlds that the action may give
  abbrev pub action_total : (n : ℕ) → Option Step → Worlds n → (rest : Worlds n → T) → T
  action_total n None s rest = nothing
  action_total n (Some (action class precondition outcomes)) s rest =
      add (action class precondition outcomes) (rest (successor n outcomes s))
  action_total n (Some (sensing class precondition sensed)) s rest = nothing

  -- a sensing step added to the larger total of its two branches, each of which starts from its own side
  abbrev pub sensing_total : (n : ℕ) → Option Step → Worlds n → (on_yes on_no : Worlds n → T) → T
  sensing_total n None s on_yes on_no = nothing
  sensing_total n (Some (action class precondition outcomes)) s on_yes on_no = nothing
  sensing_total n (Some (sensing class precondition sensed)) s on_yes on_no =
      add (sensing class precondition sensed)
      (larger le (branch_total nothing n (side n sensed true s) on_yes) (branch_total nothing n (side n sensed false s) on_no))

  -- the total of a procedure from a set of worlds: nothing if it is empty, otherwise its first step added to the larger
  -- total of what follows; a number that is no such step of the ticket counts nothing
  abbrev pub total : (t : Ticket) → Procedure → Belief t → T
  total t empty s = nothing
  total t (act k rest) s = action_total t.conditions (step_at t.steps k) s (λ r. total t rest r)
  total t (sense k on_yes on_no) s =
      sensing_total t.conditions (step_at t.steps k) s (λ r. total t on_yes r) (λ r. total t on_no r)
