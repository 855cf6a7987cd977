-- What each call of a bank answers, and what the bank means afterwards.
use Rattle.std.specs.Prelude.{ℕ, suc, Bool, false, cond, not, ◌&&◌, List, [], ◌∷◌, ◌++◌, length, take, Some, None, Ok, Err, Option, Result, ◌==◌, nat_le, nat_lt, slice_index_or}
use Rattle.worlds.specs.Worlds.{Literal, speaks_within}
use Rattle.worlds.specs.Steps.{Outcome, Step, action, sensing}
use Rattle.worlds.specs.Sets.{Worlds, none_in, all_meet, successor, side, same_set}
use Rattle.worlds.specs.Tickets.{Ticket, every, starts, step_at}
use Rattle.bank.specs.declared.fault.BankFault.{BankFault}
use Rattle.bank.specs.declared.fault.BankFault.TheVariants.{Conditions, NoSet, Full, Wide, EmptySide, WrongStep}
use Rattle.bank.specs.Meaning as bank
use Rattle.bank.specs.Meaning.{Meaning, Call, Nature, founding}

-- the answer of a call: what it is asked for, unless there is a fault
abbrev pub unless : {X : Type 0} → Option BankFault → X → Result X BankFault
unless None x = Ok x
unless (Some f) x = Err f

-- what becomes of a bank: what the call makes of it, unless there is a fault, which leaves it as it was
abbrev pub left_by : Option BankFault → Meaning → Meaning → Meaning
left_by None was is = is
left_by (Some f) was is = was

-- the first fault of two tests, of which the second is made only where the first passes
abbrev pub then_fault : Option BankFault → Option BankFault → Option BankFault
then_fault None later = later
then_fault (Some f) later = Some f

abbrev pub refuse_if : Bool → BankFault → Option BankFault
refuse_if b f = cond b (Some f) None

-- set i of a list; beyond the list, the empty set
abbrev pub set_at : (n : ℕ) → List (Worlds n) → ℕ → Worlds n
set_at n held i = slice_index_or held i (λ _. false)

-- the number at which a set stands in a list, or the length of the list where it does not
abbrev pub place_of : (n : ℕ) → List (Worlds n) → Worlds n → ℕ
place_of n [] s = 0
place_of n (t ∷ ts) s = cond (same_set n t s) 0 (suc (place_of n ts s))

abbrev pub is_held : (n : ℕ) → List (Worlds n) → Worlds n → Bool
is_held n held s = nat_lt (place_of n held s) (length held)

-- the outcomes of an action, and the literal of a sensing step
abbrev pub outcomes_of : Option Step → Option (List Outcome)
outcomes_of None = None
outcomes_of (Some (action class precondition outcomes)) = Some outcomes
outcomes_of (Some (sensing class precondition sensed)) = None

abbrev pub sensed_of : Option Step → Option Literal
sensed_of None = None
sensed_of (Some (action class precondition outcomes)) = None
sensed_of (Some (sensing class precondition sensed)) = Some sensed

-- Found: the ticket's starting worlds become set 0, and the only one
abbrev pub found_fault : Nature → Ticket → Meaning → Option BankFault
found_fault k t m =
    then_fault (refuse_if (k.over t) Conditions) (then_fault (refuse_if (k.wide t [] founding) Wide) (refuse_if (m.capacity == 0) Full))

abbrev pub founded : Nature → Ticket → Meaning → Meaning
founded k t m = record { ticket = t; held = starts t ∷ []; kept = k.keeps t [] founding ∷ []; capacity = m.capacity }

-- Holds: whether every world of a set meets a list of any words
abbrev pub holds_fault : ℕ → List Literal → Meaning → Option BankFault
holds_fault set ls m =
    then_fault (refuse_if (nat_le (length m.held) set) NoSet) (refuse_if (not (every (speaks_within m.ticket.conditions) ls)) Conditions)

abbrev pub holds_answer : ℕ → List Literal → Meaning → Result Bool BankFault
holds_answer set ls m = unless (holds_fault set ls m) (all_meet m.ticket.conditions (set_at m.ticket.conditions m.held set) ls)

-- what is refused where there is nothing, and what goes on from something
abbrev pub with_some : {X : Type 0} → Option X → BankFault → (X → Option BankFault) → Option BankFault
with_some None f go = Some f
with_some (Some x) f go = go x

-- a set that is asked for is wide, or there is no place for it
abbrev pub put_fault : Nature → Call → (m : Meaning) → Worlds m.ticket.conditions → Option BankFault
put_fault k c m s =
    then_fault (refuse_if (k.wide m.ticket m.kept c) Wide)
    (refuse_if (nat_le m.capacity (length m.held) && not (is_held m.ticket.conditions m.held s)) Full)

-- a set that is asked for is found where it is held already; any other goes to the end of the list
abbrev pub put : Nature → Call → (m : Meaning) → Worlds m.ticket.conditions → Meaning
put k c m s =
    cond (is_held m.ticket.conditions m.held s) m
    (record { ticket = m.ticket; held = m.held ++ s ∷ []; kept = m.kept ++ k.keeps m.ticket m.kept c ∷ []; capacity = m.capacity })

-- the set that an action makes of a held set
abbrev pub next_set : List Outcome → ℕ → (m : Meaning) → Worlds m.ticket.conditions
next_set os set m = successor m.ticket.conditions os (set_at m.ticket.conditions m.held set)

-- Next: the number of the set of all worlds that any outcome of an action gives from any world of a set
abbrev pub next_fault : Nature → ℕ → ℕ → Meaning → Option BankFault
next_fault k set step m =
    then_fault (refuse_if (nat_le (length m.held) set) NoSet)
    (with_some (outcomes_of (step_at m.ticket.steps step)) WrongStep (λ os. put_fault k (bank.action set step) m (next_set os set m)))

abbrev pub next_number : ℕ → Meaning → Option (List Outcome) → ℕ
next_number set m None = 0
next_number set m (Some os) = place_of m.ticket.conditions m.held (next_set os set m)

abbrev pub next_made : Nature → ℕ → ℕ → Meaning → Option (List Outcome) → Meaning
next_made k set step m None = m
next_made k set step m (Some os) = put k (bank.action set step) m (next_set os set m)

abbrev pub next_answer : Nature → ℕ → ℕ → Meaning → Result ℕ BankFault
next_answer k set step m = unless (next_fault k set step m) (next_number set m (outcomes_of (step_at m.ticket.steps step)))

abbrev pub next_leaves : Nature → ℕ → ℕ → Meaning → Meaning
next_leaves k set step m = left_by (next_fault k set step m) m (next_made k set step m (outcomes_of (step_at m.ticket.steps step)))

-- the worlds of a held set on one side of a sensing step
abbrev pub side_set : Literal → Bool → ℕ → (m : Meaning) → Worlds m.ticket.conditions
side_set l so set m = side m.ticket.conditions l so (set_at m.ticket.conditions m.held set)

-- Split: the number of the set of worlds on a side
abbrev pub split_fault : Nature → ℕ → ℕ → Bool → Meaning → Option BankFault
split_fault k set step so m =
    then_fault (refuse_if (nat_le (length m.held) set) NoSet)
    (with_some (sensed_of (step_at m.ticket.steps step)) WrongStep
    (λ l. then_fault (refuse_if (none_in m.ticket.conditions (side_set l so set m)) EmptySide)
    (put_fault k (bank.sensing set step so) m (side_set l so set m))))

abbrev pub split_number : ℕ → Bool → Meaning → Option Literal → ℕ
split_number set so m None = 0
split_number set so m (Some l) = place_of m.ticket.conditions m.held (side_set l so set m)

abbrev pub split_made : Nature → ℕ → ℕ → Bool → Meaning → Option Literal → Meaning
split_made k set step so m None = m
split_made k set step so m (Some l) = put k (bank.sensing set step so) m (side_set l so set m)

abbrev pub split_answer : Nature → ℕ → ℕ → Bool → Meaning → Result ℕ BankFault
split_answer k set step so m = unless (split_fault k set step so m) (split_number set so m (sensed_of (step_at m.ticket.steps step)))

abbrev pub split_leaves : Nature → ℕ → ℕ → Bool → Meaning → Meaning
split_leaves k set step so m = left_by (split_fault k set step so m) m (split_made k set step so m (sensed_of (step_at m.ticket.steps step)))

-- Shorten: only the first sets stay
abbrev pub shorten_fault : ℕ → Meaning → Option BankFault
shorten_fault count m = refuse_if (nat_lt (length m.held) count) NoSet

abbrev pub shortened : ℕ → Meaning → Meaning
shortened count m = record { ticket = m.ticket; held = take count m.held; kept = take count m.kept; capacity = m.capacity }
