-- What the code's tickets mean.
use Rattle.std.specs.Prelude.{ℕ, List, map, vec_items}
use Rattle.std.specs.Option.{option_to_list}
use Rattle.worlds.specs.Worlds.{Literal}
use Rattle.worlds.specs.Steps.{Step}
use Rattle.worlds.specs.Meaning.{listed, step_of}
use Rattle.worlds.specs.Tickets.{Ticket}
use Rattle.records.specs.Content.{first_list}
use Rattle.ticket.specs.declared.contents.Contents.{Contents}

abbrev pub terms_of : Contents → List (List Literal)
terms_of d = map listed (vec_items d.terms)

-- the aim, once there is one
abbrev pub aims_of : Contents → List (List Literal)
aims_of d = map listed (option_to_list d.aim)

abbrev pub steps_of : Contents → List Step
steps_of d = map step_of (vec_items d.steps)

-- the ticket of n conditions with these contents
abbrev pub ticket_with : ℕ → Contents → Ticket
ticket_with n d = record { conditions = n; terms = terms_of d; aim = first_list (aims_of d); steps = steps_of d }
