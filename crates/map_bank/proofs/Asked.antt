-- What the row that Next or Split makes keeps, by the bank that it is made of.
-- Assumes nothing.
use Rattle.std.specs.Prelude.{◌≡◌, ℕ, ◌<◌, Bool, true, false, List, [], map, length, Some, vec_len, FitsSigned, slice_index_or}
use Rattle.std.proofs.Common.{sym, ◌∙◌, ap, subst, to_z, of_z}
use Rattle.std.proofs.Math.Path.{fun_ext}
use Rattle.std.proofs.lemmas.List.{length-map}
use Rattle.std.specs.Int.{w16}
use Rattle.std.proofs.lemmas.Int.{to_z-of_z}
use Rattle.worlds.specs.Worlds.{World, Literal, speaks_within}
use Rattle.worlds.specs.Steps.{Outcome}
use Rattle.worlds.specs.Sets.{none_in, successor, side}
use Rattle.worlds.specs.Tickets.{every, lawful_outcome, step_at}
use Rattle.ticket.specs.Tickets.{ticket_of}
use Rattle.bank.specs.Calls.{outcomes_of, sensed_of}
use Rattle.map_bank.specs.declared.map_bank.MapBank.{MapBank}
use Rattle.map_bank.specs.MapBanks.{rows_in, row_kept, capacity_of}
use Rattle.map_bank.specs.Numbers.{set_of}
use Rattle.map_bank.specs.Rows.{Tidy}
use Rattle.map_bank.proofs.CallLaws.{row_there, set_there}
use Rattle.map_bank.proofs.PlaceLaws.{held_some}
use Rattle.map_bank.proofs.TicketLaws.{outcomes_lawful, sensed_lawful, speaks_wider, literal_fits, successor_some}

abbrev pub conditions_of : MapBank → ℕ
conditions_of b = (ticket_of b.ticket).conditions

-- ## Split

-- the sensed literal as the code hands it on
pub sensed_speaks : (b : MapBank) (step : ℕ) (l : Literal) → Some l ≡ sensed_of (step_at (ticket_of b.ticket).steps step) → speaks_within (conditions_of b) l ≡ true
sensed_speaks b step l e = sensed_lawful (ticket_of b.ticket) step l b.ticket.lawful (sym e)

pub sensed_same : (b : MapBank) (step : ℕ) (l : Literal) → Some l ≡ sensed_of (step_at (ticket_of b.ticket).steps step) → to_z w16 (of_z w16 l) ≡ l
sensed_same b step l e = let fits : FitsSigned w16 l = literal_fits (conditions_of b) l b.small (sensed_speaks b step l e) in simp to_z-of_z

pub sensed_wide : (b : MapBank) (step : ℕ) (l : Literal) → Some l ≡ sensed_of (step_at (ticket_of b.ticket).steps step) → speaks_within 10 (to_z w16 (of_z w16 l)) ≡ true
sensed_wide b step l e = ap (speaks_within 10) (sensed_same b step l e) ∙ speaks_wider (conditions_of b) l b.small (sensed_speaks b step l e)

pub record PartMade (b : MapBank) (set step : ℕ) (so : Bool) (l : Literal) (part : List ℕ) : Type 0 where
  pub there : set < length (rows_in b)
  pub sensed : sensed_of (step_at (ticket_of b.ticket).steps step) ≡ Some l
  pub is : set_of (conditions_of b) part ≡ side (conditions_of b) l so (set_of (conditions_of b) (slice_index_or (rows_in b) set []))
  pub tidy : Tidy (conditions_of b) part

pub part_made : (b : MapBank) (set step k : ℕ) (so : Bool) (l : Literal) (row part : List ℕ) → Some row ≡ row_kept set (rows_in b) → Some l ≡ sensed_of (step_at (ticket_of b.ticket).steps step) → k ≡ conditions_of b →
    ((w : World k) → set_of k part w ≡ side k (to_z w16 (of_z w16 l)) so (set_of k row) w) × Tidy k part → PartMade b set step so l part
part_made b set step k so l row part er el ek told =
    let n = conditions_of b in
    let p = row_there set (rows_in b) row er in
    let same = subst (λ (x : Literal). ((w : World k) → set_of k part w ≡ side k x so (set_of k row) w) × Tidy k part) (sensed_same b step l el) told in
    let here = subst (λ (j : ℕ). ((w : World j) → set_of j part w ≡ side j l so (set_of j row) w) × Tidy j part) ek same in
    record {
      there = p.0;
      sensed = sym el;
      is = fun_ext here.0 ∙ ap (λ (r : List ℕ). side n l so (set_of n r)) p.1;
      tidy = here.1;
    }

-- ## Next

pub record NextMade (b : MapBank) (set step : ℕ) (os : List Outcome) (made : List ℕ) : Type 0 where
  pub there : set < length (rows_in b)
  pub outcomes : outcomes_of (step_at (ticket_of b.ticket).steps step) ≡ Some os
  pub is : set_of (conditions_of b) made ≡ successor (conditions_of b) os (set_of (conditions_of b) (slice_index_or (rows_in b) set []))
  pub tidy : Tidy (conditions_of b) made
  pub some : none_in (conditions_of b) (set_of (conditions_of b) made) ≡ false

pub lawful_here : (b : MapBank) (step k : ℕ) (os given : List Outcome) → Some os ≡ outcomes_of (step_at (ticket_of b.ticket).steps step) → k ≡ conditions_of b → given ≡ os → every (lawful_outcome k) given ≡ true
lawful_here b step k os given eo ek eg =
    subst (λ (j : ℕ). every (lawful_outcome j) given ≡ true) (sym ek)
    (subst (λ (o : List Outcome). every (lawful_outcome (conditions_of b)) o ≡ true) (sym eg) (outcomes_lawful (ticket_of b.ticket) step os b.ticket.lawful (sym eo)).1)

pub next_made_so : (b : MapBank) (set step k : ℕ) (os given : List Outcome) (row made : List ℕ) → Some row ≡ row_kept set (rows_in b) → Some os ≡ outcomes_of (step_at (ticket_of b.ticket).steps step) → k ≡ conditions_of b → given ≡ os →
    ((v : World k) → set_of k made v ≡ successor k given (set_of k row) v) × Tidy k made → NextMade b set step os made
next_made_so b set step k os given row made er eo ek eg told =
    let n = conditions_of b in
    let p = row_there set (rows_in b) row er in
    let here = subst (λ (j : ℕ). ((v : World j) → set_of j made v ≡ successor j given (set_of j row) v) × Tidy j made) ek told in
    let is : set_of n made ≡ successor n os (set_of n (slice_index_or (rows_in b) set [])) =
    fun_ext here.0 ∙ ap (λ (o : List Outcome). successor n o (set_of n row)) eg ∙ ap (λ (r : List ℕ). successor n os (set_of n r)) p.1 in
    let held = map (set_of n) (rows_in b) in
    let has : none_in n (set_of n (slice_index_or (rows_in b) set [])) ≡ false =
    ap (none_in n) (sym (set_there (ticket_of b.ticket) (rows_in b) (capacity_of (vec_len b.words)) set p.0))
    ∙ held_some n held set b.different (subst (λ (m : ℕ). set < m) (sym (length-map (rows_in b) (set_of n))) p.0) in
    record {
      there = p.0;
      outcomes = sym eo;
      is = is;
      tidy = here.1;
      some = ap (none_in n) is ∙ successor_some n os (set_of n (slice_index_or (rows_in b) set [])) (outcomes_lawful (ticket_of b.ticket) step os b.ticket.lawful (sym eo)).0 has;
    }
