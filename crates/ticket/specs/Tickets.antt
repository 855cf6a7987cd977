-- The ticket that a value of the code is, and what Read does to it.
use Rattle.std.specs.Prelude.{◌≡◌, ℕ, List, [], ◌∷◌, Ok, Err, Result}
use Rattle.worlds.specs.Tickets.{Ticket}
use Rattle.ticket.specs.declared.ticket.Ticket as code
use Rattle.records.specs.declared.refusal.Refusal.{Refusal}
use Rattle.records.specs.Answers.{Holds, RefusedWith}
use Rattle.records.specs.Refusals.{number_of}
use Rattle.ticket.specs.Meaning.{ticket_with}

abbrev pub ticket_of : code.Ticket → Ticket
ticket_of t = ticket_with t.conditions t.kept

-- a new ticket: one condition, one term and an aim without literals, no steps
abbrev pub blank : Ticket
blank = record { conditions = 1; terms = [] ∷ []; aim = []; steps = [] }

-- what Read answers of a file, and the ticket before and after it: the ticket that the file holds, or the number and the
-- record that the file is refused with, and the ticket as it was
abbrev pub ReadAs : List ℕ → Ticket → Ticket → Result (Unit {0}) Refusal → Type 0
ReadAs f was is (Ok u) = Holds f is
ReadAs f was is (Err r) = RefusedWith f (number_of r.fault) r.record × (is ≡ was)
