-- What the chains of a file hold.
use Rattle.std.specs.Prelude.{ℕ, zero, suc, cond, List, [], ◌∷◌, map, length, pos, filter, ◌==◌, nat_eq, unsigned_abs}
use Rattle.worlds.specs.Worlds.{Literal}
use Rattle.worlds.specs.Steps.{Effect, Outcome, Step, action, sensing}
use Rattle.worlds.specs.Tickets.{Ticket}
use Rattle.records.specs.Layout.{kind, value, below, next, part, conditions, top, group}

-- k and its followers, at most so many
abbrev pub followed : List ℕ → ℕ → ℕ → List ℕ
followed f zero k = []
followed f (suc most) k = cond (k == 0) [] (k ∷ followed f most (next (part f k)))

-- the records of the chain that starts at k, in order: links rise, so there are no more than the file has bytes
abbrev pub chain : List ℕ → ℕ → List ℕ
chain f k = followed f (length f) k

-- those of some records that are of a group
abbrev pub among : List ℕ → ℕ → List ℕ → List ℕ
among f g ks = filter (λ k. nat_eq (group (kind (part f k))) g) ks

-- the literal that a record's value is
abbrev pub literal_at : List ℕ → ℕ → Literal
literal_at f k = value (part f k)

-- the literals (kind 5) among some records
abbrev pub literals_among : List ℕ → List ℕ → List Literal
literals_among f ks = map (literal_at f) (among f 5 ks)

-- the literals of the chain that starts at k
abbrev pub literals_from : List ℕ → ℕ → List Literal
literals_from f k = literals_among f (chain f k)

-- the effect (kind 7) of record k: its value is the result, the chain under it the conditions
abbrev pub effect_at : List ℕ → ℕ → Effect
effect_at f k = record { conditions = literals_from f (below (part f k)); result = literal_at f k }

-- the outcome (kind 6) of record k: the effects under it
abbrev pub outcome_at : List ℕ → ℕ → Outcome
outcome_at f k = map (effect_at f) (among f 7 (chain f (below (part f k))))

-- the first of some literals (there is exactly one, in a file without fault)
abbrev pub first_literal : List Literal → Literal
first_literal [] = pos 0
first_literal (l ∷ ls) = l

-- the class of a step is its value, which is not negative in a file without fault
abbrev pub action_from : List ℕ → ℕ → List ℕ → Step
action_from f class ks = action class (literals_among f ks) (map (outcome_at f) (among f 6 ks))

abbrev pub sensing_from : List ℕ → ℕ → List ℕ → Step
sensing_from f class ks = sensing class (literals_among f ks) (first_literal (map (literal_at f) (among f 8 ks)))

-- the step (kind 3 or 4) of record k
abbrev pub step_at : List ℕ → ℕ → Step
step_at f k =
    cond (kind (part f k) == 3)
    (action_from f (unsigned_abs (value (part f k))) (chain f (below (part f k))))
    (sensing_from f (unsigned_abs (value (part f k))) (chain f (below (part f k))))

-- the literals under record k
abbrev pub list_at : List ℕ → ℕ → List Literal
list_at f k = literals_from f (below (part f k))

abbrev pub first_list : List (List Literal) → List Literal
first_list [] = []
first_list (l ∷ ls) = l

-- the ticket that the records of the top chain make: terms (kind 1), the aim (kind 2), and the steps in chain order
abbrev pub ticket_from : List ℕ → List ℕ → Ticket
ticket_from f ks =
    record {
      conditions = conditions f;
      terms = map (list_at f) (among f 1 ks);
      aim = first_list (map (list_at f) (among f 2 ks));
      steps = map (step_at f) (among f 3 ks);
    }

-- the ticket that a file holds, where it is without fault
abbrev pub ticket_in : List ℕ → Ticket
ticket_in f = ticket_from f (chain f (top f))
