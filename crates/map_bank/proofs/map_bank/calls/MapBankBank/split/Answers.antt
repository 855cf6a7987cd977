use Rattle.std.proofs.Common.{◌≡◌, ℕ, ◌^◌, ◌<◌, Some, length, get_or, vec_len, sym, ap, ◌∙◌, subst, rules}
use Rattle.worlds.specs.Worlds.{Literal}
use Rattle.worlds.specs.Sets.{none_in}
use Rattle.worlds.specs.Tickets.{step_at}
use Rattle.ticket.specs.Tickets.{ticket_of}
use Rattle.bank.specs.Calls.{sensed_of}
use Rattle.map_bank.specs.declared.map_bank.MapBank.{MapBank}
use Rattle.map_bank.specs.MapBanks.{rows_in, capacity_of}
use Rattle.map_bank.specs.Numbers.{set_of}
use Rattle.map_bank.specs.Rows.{Tidy}
use Rattle.map_bank.proofs.Asked.{conditions_of, sensed_wide, part_made}
use Rattle.map_bank.proofs.CallLaws.{split_empty, split_goes}
use Rattle.map_bank.proofs.CanonLaws.{row_is_of}
use Rattle.map_bank.proofs.map_bank.calls.MapBankBank.split.Goals as goal

-- that the literal is that of the step
abbrev Given : MapBank → ℕ → Literal → Type 0
Given b step l = Some l ≡ sensed_of (step_at (ticket_of b.ticket).steps step)

pub side-part-requires : goal.side-part-requires
side-part-requires c =
    let given : Given c.args.self.now c.args.step c.in-Some-Sensing.sensing.sensed = search rules in
    sensed_wide c.args.self.now c.args.step c.in-Some-Sensing.sensing.sensed given

pub returns-then-is_empty : goal.returns-then-is_empty
returns-then-is_empty c =
    let self = c.args.self.now in
    let l = c.in-Some-Sensing.sensing.sensed in
    let part = c.side-part.result in
    let given : Given self c.args.step l = search rules in
    let tidy : Tidy c.in_ok-row.row.conditions part.words = subst (λ (k : ℕ). Tidy k part.words) c.side-part.ensures.conditions part.tidy in
    let made = part_made self c.args.set c.args.step c.in_ok-row.row.conditions c.args.so l c.in_ok-row.row.words part.words c.in_ok-row.ensures.there.1 given c.in_ok-row.ensures.there.0 (c.side-part.ensures.worlds, tidy) in
    let same : part.conditions ≡ conditions_of self = c.side-part.ensures.conditions ∙ c.in_ok-row.ensures.there.0 in
    let p = split_empty (ticket_of self.ticket) (rows_in self) (capacity_of (vec_len self.words)) c.args.set c.args.step c.args.so l part.words made.there made.sensed made.is
    (ap (λ (k : ℕ). none_in k (set_of k part.words)) (sym same) ∙ sym c.is_empty.ensures ∙ c.if-is_empty.true) in
    record { answer = p.0; after = p.1 }

pub returns : goal.returns
returns c =
    let self = c.args.self.now in
    let l = c.in-Some-Sensing.sensing.sensed in
    let part = c.side-part.result in
    let given : Given self c.args.step l = search rules in
    let tidy : Tidy c.in_ok-row.row.conditions part.words = subst (λ (k : ℕ). Tidy k part.words) c.side-part.ensures.conditions part.tidy in
    let made = part_made self c.args.set c.args.step c.in_ok-row.row.conditions c.args.so l c.in_ok-row.row.words part.words c.in_ok-row.ensures.there.1 given c.in_ok-row.ensures.there.0 (c.side-part.ensures.worlds, tidy) in
    let same : part.conditions ≡ conditions_of self = c.side-part.ensures.conditions ∙ c.in_ok-row.ensures.there.0 in
    let long : length part.words ≡ 16 = search rules in
    let fits : (i : ℕ) → get_or part.words i 0 < 2 ^ 64 = search rules in
    let p = split_goes (ticket_of self.ticket) (rows_in self) (capacity_of (vec_len self.words)) c.args.set c.args.step c.args.so l part.words made.there made.sensed made.is
    (ap (λ (k : ℕ). none_in k (set_of k part.words)) (sym same) ∙ sym c.is_empty.ensures ∙ c.if-is_empty.false) (row_is_of (conditions_of self) part.words long fits made.tidy) in
    record { answer = c.put.ensures.answer ∙ p.0; after = c.put.ensures.after ∙ p.1 }
