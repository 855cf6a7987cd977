-- What is to be answered of a file: it holds a ticket, or it is refused.
use Rattle.std.specs.Prelude.{◌≡◌, ℕ, ◌%◌, Bool, true, false, cond, not, ◌&&◌, ◌||◌, ◌⊎◌, List, [], ◌∷◌, length, take, Some, None, Ok, Err, Option, Result, ◌==◌, nat_lt}
use Rattle.worlds.specs.Tickets.{Ticket}
use Rattle.records.specs.declared.head.Head.{Head}
use Rattle.records.specs.declared.refusal.Refusal.{Refusal}
use Rattle.records.specs.declared.refusal.Fault.{Fault}
use Rattle.records.specs.declared.refusal.Fault.TheVariants.{Length, Mark, Conditions, Link}
use Rattle.records.specs.Refusals.{number_of}
use Rattle.records.specs.Layout.{mark, conditions, top, inside}
use Rattle.records.specs.Content.{ticket_in}
use Rattle.records.specs.Judging.{Judged, at_top, at_record}

-- whether two lists of bytes are the same
abbrev pub same_bytes : List ℕ → List ℕ → Bool
same_bytes [] [] = true
same_bytes [] (y ∷ ys) = false
same_bytes (x ∷ xs) [] = false
same_bytes (x ∷ xs) (y ∷ ys) = x == y && same_bytes xs ys

-- the first fault of record 0
abbrev pub head_fault : List ℕ → Option Fault
head_fault f =
    cond (nat_lt (length f) 8 || (nat_lt 32768 (length f) || not (length f % 8 == 0))) (Some Length)
    (cond (not (same_bytes (take 4 f) mark)) (Some Mark)
    (cond (conditions f == 0 || nat_lt 32 (conditions f)) (Some Conditions)
    (cond (inside f (top f)) None (Some Link))))

-- the file is without fault in record 0 and in all its chains
pub record Faultless (f : List ℕ) : Type 0 where
  pub head : head_fault f ≡ None
  pub chains : Judged f (conditions f) at_top 0 [] (top f) None

-- the file holds the ticket t
pub record Holds (f : List ℕ) (t : Ticket) : Type 0 where
  pub faultless : Faultless f
  pub content : t ≡ ticket_in f

-- the file is refused: record 0 is at fault, or a record of its chains is and nothing judged before it
abbrev pub Refused : List ℕ → Refusal → Type 0
Refused f r = (at_record 0 (head_fault f) ≡ Some r) ⊎ ((head_fault f ≡ None) × Judged f (conditions f) at_top 0 [] (top f) (Some r))

-- the file is refused with the number r at record k
abbrev pub RefusedWith : List ℕ → ℕ → ℕ → Type 0
RefusedWith f r k = (x : Fault) × (r ≡ number_of x) × Refused f (record { fault = x; «record» = k })

-- what reading record 0 answers: its two words, or its first fault
abbrev pub ReadsHead : List ℕ → Result Head Refusal → Type 0
ReadsHead f (Ok h) = (head_fault f ≡ None) × (h.conditions ≡ conditions f) × (h.top ≡ top f)
ReadsHead f (Err r) = at_record 0 (head_fault f) ≡ Some r
