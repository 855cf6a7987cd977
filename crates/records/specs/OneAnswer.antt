-- That the relations of Answers.antt give every file one answer.
use Rattle.std.specs.Prelude.{◌≡◌, ℕ, ◌⊎◌, List}
use Rattle.worlds.specs.Tickets.{Ticket}
use Rattle.records.specs.declared.refusal.Refusal.{Refusal}
use Rattle.records.specs.Answers.{Holds, Refused}

-- for every string of bytes exactly one of the two is so: it holds a ticket, and that one only; it is refused, with that
-- fault at that record only
abbrev pub OneAnswer : Type 0
OneAnswer = (f : List ℕ) →
    (((t : Ticket) × Holds f t) ⊎ ((r : Refusal) × Refused f r))
    × ((t s : Ticket) → Holds f t → Holds f s → t ≡ s)
    × ((r q : Refusal) → Refused f r → Refused f q → r ≡ q)
    × ((t : Ticket) (r : Refusal) → Holds f t → Refused f r → ⊥)
