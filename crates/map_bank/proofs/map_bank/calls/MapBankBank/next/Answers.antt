use Rattle.std.proofs.Common.{◌≡◌, ℕ, ◌^◌, ◌<◌, false, Some, map, length, get_or, vec_len, sym, ap, ◌∙◌, subst, rules}
use Rattle.worlds.specs.declared.few.Few.{Few}
use Rattle.worlds.specs.declared.step.Outcome as code_outcome
use Rattle.worlds.specs.Sets.{none_in}
use Rattle.worlds.specs.Tickets.{step_at}
use Rattle.worlds.specs.Meaning.{listed, outcome_of}
use Rattle.ticket.specs.Tickets.{ticket_of}
use Rattle.bank.specs.Calls.{outcomes_of}
use Rattle.map_bank.specs.declared.map_bank.MapBank.{MapBank}
use Rattle.map_bank.specs.MapBanks.{rows_in, capacity_of}
use Rattle.map_bank.specs.Numbers.{set_of}
use Rattle.map_bank.specs.Rows.{Tidy}
use Rattle.map_bank.proofs.Asked.{conditions_of, lawful_here, next_made_so}
use Rattle.map_bank.proofs.CallLaws.{next_goes}
use Rattle.map_bank.proofs.CanonLaws.{row_is_of}
use Rattle.map_bank.proofs.map_bank.calls.MapBankBank.next.Goals as goal

-- that the outcomes are those of the step
abbrev Given : MapBank → ℕ → Few code_outcome.Outcome 4 → Type 0
Given b step outcomes = Some (map outcome_of (listed outcomes)) ≡ outcomes_of (step_at (ticket_of b.ticket).steps step)

pub successor-requires : goal.successor-requires
successor-requires c =
    let given : Given c.args.self.now c.args.step c.in-Some-Action.action.outcomes = search rules in
    lawful_here c.args.self.now c.args.step c.in_ok-row.row.conditions (map outcome_of (listed c.in-Some-Action.action.outcomes)) (map outcome_of c.as_slice.result.now)
    given c.in_ok-row.ensures.there.0 (ap (map outcome_of) c.as_slice.ensures)

pub put-requires : goal.put-requires
put-requires c =
    let self = c.args.self.now in
    let row = c.successor.result in
    let given : Given self c.args.step c.in-Some-Action.action.outcomes = search rules in
    let tidy : Tidy c.in_ok-row.row.conditions row.words = subst (λ (k : ℕ). Tidy k row.words) c.successor.ensures.conditions row.tidy in
    let made = next_made_so self c.args.set c.args.step c.in_ok-row.row.conditions (map outcome_of (listed c.in-Some-Action.action.outcomes)) (map outcome_of c.as_slice.result.now) c.in_ok-row.row.words row.words
    c.in_ok-row.ensures.there.1 given c.in_ok-row.ensures.there.0 (ap (map outcome_of) c.as_slice.ensures) (c.successor.ensures.worlds, tidy) in
    let same : row.conditions ≡ conditions_of self = c.successor.ensures.conditions ∙ c.in_ok-row.ensures.there.0 in
    record { same = same; some = subst (λ (k : ℕ). none_in k (set_of k row.words) ≡ false) (sym same) made.some }

pub returns : goal.returns
returns c =
    let self = c.args.self.now in
    let row = c.successor.result in
    let os = map outcome_of (listed c.in-Some-Action.action.outcomes) in
    let given : Given self c.args.step c.in-Some-Action.action.outcomes = search rules in
    let tidy : Tidy c.in_ok-row.row.conditions row.words = subst (λ (k : ℕ). Tidy k row.words) c.successor.ensures.conditions row.tidy in
    let made = next_made_so self c.args.set c.args.step c.in_ok-row.row.conditions os (map outcome_of c.as_slice.result.now) c.in_ok-row.row.words row.words
    c.in_ok-row.ensures.there.1 given c.in_ok-row.ensures.there.0 (ap (map outcome_of) c.as_slice.ensures) (c.successor.ensures.worlds, tidy) in
    let long : length row.words ≡ 16 = search rules in
    let fits : (i : ℕ) → get_or row.words i 0 < 2 ^ 64 = search rules in
    let p = next_goes (ticket_of self.ticket) (rows_in self) (capacity_of (vec_len self.words)) c.args.set c.args.step os row.words made.there made.outcomes (row_is_of (conditions_of self) row.words long fits made.tidy) made.is in
    record { answer = c.put.ensures.answer ∙ p.0; after = c.put.ensures.after ∙ p.1 }
