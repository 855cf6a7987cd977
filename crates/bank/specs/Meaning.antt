-- What a bank means.
use Rattle.std.specs.Prelude.{◌≡◌, ℕ, ◌≤◌, Bool, true, not, ◌&&◌, List, [], ◌∷◌, length}
use Rattle.worlds.specs.Sets.{Worlds, none_in, same_set}
use Rattle.worlds.specs.Tickets.{Ticket, lawful}

-- a bank (a store of sets of worlds) means the ticket that it was founded on and a list, numbered from 0, of different
-- sets of worlds that are not empty; how it keeps each of them, as words; and how many it can hold
pub record Meaning : Type 0 where
  pub ticket : Ticket
  pub held : List (Worlds ticket.conditions)
  pub kept : List (List ℕ)
  pub capacity : ℕ

-- a call that may put a set into a bank
pub data Call : Type 0 where
  -- the starting worlds of the ticket
  founding : Call
  -- what an action makes of a held set
  action : (set step : ℕ) → Call
  -- a side of a held set, by a sensing step
  sensing : (set step : ℕ) (so : Bool) → Call

-- the nature of a bank, which is the same for all banks of its kind: the tickets that are over its limit; the calls whose
-- set is wide, that is, too much for it to keep, by the ticket, what is kept and the call alone; and the words that it
-- keeps the set of a call as
pub record Nature : Type 0 where
  pub over : Ticket → Bool
  pub wide : Ticket → List (List ℕ) → Call → Bool
  pub keeps : Ticket → List (List ℕ) → Call → List ℕ

-- whether a set is none of some sets
abbrev pub differs_from : (n : ℕ) → Worlds n → List (Worlds n) → Bool
differs_from n s [] = true
differs_from n s (t ∷ ts) = not (same_set n s t) && differs_from n s ts

-- whether some sets are pairwise different and none is empty
abbrev pub all_different : (n : ℕ) → List (Worlds n) → Bool
all_different n [] = true
all_different n (s ∷ ss) = not (none_in n s) && (differs_from n s ss && all_different n ss)

-- what every bank keeps
pub record Sound (m : Meaning) : Type 0 where
  pub lawful_ticket : lawful m.ticket ≡ true
  pub different : all_different m.ticket.conditions m.held ≡ true
  pub each_kept : length m.kept ≡ length m.held
  pub within : length m.held ≤ m.capacity
  pub at_most : m.capacity ≤ 256
