-- What a map bank means, and its nature.
use Rattle.std.specs.Prelude.{◌≡◌, ℕ, ◌/◌, min, Bool, false, cond, not, ◌&&◌, List, [], ◌∷◌, ◌++◌, map, length, Some, None, vec_items, vec_len, Option, Result, nat_le, nat_lt, slice_index_or}
use Rattle.worlds.specs.Worlds.{Literal}
use Rattle.worlds.specs.Steps.{Outcome}
use Rattle.worlds.specs.Sets.{Worlds, none_in, successor, side}
use Rattle.worlds.specs.Tickets.{Ticket, starts, step_at}
use Rattle.ticket.specs.Tickets.{ticket_of}
use Rattle.bank.specs.Meaning.{Meaning, Call, Nature, founding, action, sensing}
use Rattle.bank.specs.declared.fault.BankFault.{BankFault}
use Rattle.bank.specs.declared.fault.BankFault.TheVariants.{Full}
use Rattle.bank.specs.Calls.{unless, left_by, refuse_if, place_of, is_held, outcomes_of, sensed_of}
use Rattle.map_bank.specs.Canon.{row_of}
use Rattle.map_bank.specs.Held.{rows_of}
use Rattle.map_bank.specs.Numbers.{set_of}
use Rattle.map_bank.specs.RowSets.{worlds_of}
use Rattle.map_bank.specs.declared.map_bank.MapBank as code
use Rattle.map_bank.specs.declared.row.Row.{Row}

-- how many rows lie in so many words, and 256 at most
abbrev pub capacity_of : ℕ → ℕ
capacity_of words = min (words / 16) 256

-- what a bank with these rows means
abbrev pub meaning_with : Ticket → List (List ℕ) → ℕ → Meaning
meaning_with t rows capacity = record { ticket = t; held = map (set_of t.conditions) rows; kept = rows; capacity = capacity }

abbrev pub rows_in : code.MapBank → List (List ℕ)
rows_in b = rows_of b.count (vec_items b.words)

abbrev pub means_of : code.MapBank → Meaning
means_of b = meaning_with (ticket_of b.ticket) (rows_in b) (capacity_of (vec_len b.words))

-- what outcomes make of a set, and its side by a literal; no world where there is none
abbrev pub made_by : (n : ℕ) → Option (List Outcome) → Worlds n → Worlds n
made_by n None s = λ _. false
made_by n (Some os) s = successor n os s

abbrev pub side_by : (n : ℕ) → Option Literal → Bool → Worlds n → Worlds n
side_by n None so s = λ _. false
side_by n (Some l) so s = side n l so s

-- the set that a call asks for, by the rows that are kept
abbrev pub asked : (t : Ticket) → List (List ℕ) → Call → Worlds t.conditions
asked t rows founding = starts t
asked t rows (action set step) = made_by t.conditions (outcomes_of (step_at t.steps step)) (set_of t.conditions (slice_index_or rows set []))
asked t rows (sensing set step so) = side_by t.conditions (sensed_of (step_at t.steps step)) so (set_of t.conditions (slice_index_or rows set []))

-- ten conditions at most; no set is wide; each set is kept as its tidy row
abbrev pub map_nature : Nature
map_nature = record { over = λ t. nat_lt 10 t.conditions; wide = λ t rows c. false; keeps = λ t rows c. row_of t.conditions (asked t rows c) }

-- row i, where there is one
abbrev pub row_kept : ℕ → List (List ℕ) → Option (List ℕ)
row_kept i rows = cond (nat_lt i (length rows)) (Some (slice_index_or rows i [])) None

-- the number of a row's set, where a bank holds it
abbrev pub place_kept : (m : Meaning) → List ℕ → Option ℕ
place_kept m row = cond (is_held m.ticket.conditions m.held (set_of m.ticket.conditions row)) (Some (place_of m.ticket.conditions m.held (set_of m.ticket.conditions row))) None

-- what a row's set is to the sets of a bank: its number, or that there is no room
abbrev pub row_fault : (m : Meaning) → List ℕ → Option BankFault
row_fault m row = refuse_if (nat_le m.capacity (length m.held) && not (is_held m.ticket.conditions m.held (set_of m.ticket.conditions row))) Full

abbrev pub row_answer : (m : Meaning) → List ℕ → Result ℕ BankFault
row_answer m row = unless (row_fault m row) (place_of m.ticket.conditions m.held (set_of m.ticket.conditions row))

-- a row behind the others
abbrev pub pushed_to : (m : Meaning) → List ℕ → Meaning
pushed_to m row = record { ticket = m.ticket; held = m.held ++ set_of m.ticket.conditions row ∷ []; kept = m.kept ++ row ∷ []; capacity = m.capacity }

abbrev pub row_leaves : (m : Meaning) → List ℕ → Meaning
row_leaves m row = left_by (row_fault m row) m (cond (is_held m.ticket.conditions m.held (set_of m.ticket.conditions row)) m (pushed_to m row))

-- a row of a bank's conditions, of a set that is not empty
pub record Fitting (b : code.MapBank) (row : Row) : Type 0 where
  pub same : row.conditions ≡ (ticket_of b.ticket).conditions
  pub some : none_in row.conditions (worlds_of row) ≡ false

-- one that the bank does not hold
pub record New (b : code.MapBank) (row : Row) : Type 0 where
  pub fitting : Fitting b row
  pub absent : None ≡ place_kept (means_of b) row.words
