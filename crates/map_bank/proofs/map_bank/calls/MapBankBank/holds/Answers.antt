use Rattle.std.proofs.Common.{ℕ, sym, ap, ◌∙◌}
use Rattle.worlds.specs.Worlds.{speaks_within}
use Rattle.worlds.specs.Tickets.{every}
use Rattle.ticket.specs.Tickets.{ticket_of}
use Rattle.map_bank.proofs.TicketLaws.{all_speak_wider}
use Rattle.map_bank.proofs.map_bank.calls.MapBankBank.holds.Goals as goal

pub meets-requires : goal.meets-requires
meets-requires c =
    let self = c.args.self.now in
    let list = c.args.list.now in
    all_speak_wider (ticket_of self.ticket).conditions list self.small
    (sym (c.if-not-speak_within.ensures ∙ ap (λ (k : ℕ). every (speaks_within k) list) c.conditions.ensures))
