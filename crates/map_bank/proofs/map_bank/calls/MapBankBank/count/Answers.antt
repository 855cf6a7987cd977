use Rattle.std.proofs.Common.{vec_items, sym, ◌∙◌}
use lib.ListN.{length-map}
use Rattle.ticket.specs.Tickets.{ticket_of}
use Rattle.map_bank.specs.MapBanks.{rows_in}
use Rattle.map_bank.specs.Numbers.{set_of}
use Rattle.map_bank.specs.Held.{length_rows}
use Rattle.map_bank.proofs.map_bank.calls.MapBankBank.count.Goals as goal

pub returns : goal.returns
returns c =
    let self = c.args.self.now in
    sym (length-map (rows_in self) (set_of (ticket_of self.ticket).conditions) ∙ length_rows self.count (vec_items self.words))
