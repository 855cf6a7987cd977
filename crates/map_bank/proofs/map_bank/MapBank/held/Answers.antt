use Rattle.std.proofs.Common.{◌≡◌, ℕ, ◌≤◌, Some, sym, subst, rules}
use Rattle.ticket.specs.Tickets.{ticket_of}
use Rattle.map_bank.specs.MapBanks.{rows_in, row_kept}
use Rattle.map_bank.specs.Rows.{Tidy}
use Rattle.map_bank.proofs.PlaceLaws.{each_tidy}
use Rattle.map_bank.proofs.CallLaws.{row_there}
use Rattle.map_bank.proofs.map_bank.MapBank.held.Goals as goal

pub invariant_of-result : goal.invariant_of-result
invariant_of-result c =
    let self = c.args.self.now in
    let words = c.in_ok-words.words in
    let kept : Some words ≡ row_kept c.args.set (rows_in self) = search rules in
    let here = row_there c.args.set (rows_in self) words kept in
    let tidy : Tidy (ticket_of self.ticket).conditions words = subst (Tidy (ticket_of self.ticket).conditions) (sym here.1) (each_tidy (ticket_of self.ticket).conditions (rows_in self) self.tidy c.args.set) in
    record {
      few = subst (λ (k : ℕ). k ≤ 10) (sym c.conditions.ensures) self.small;
      tidy = subst (λ (k : ℕ). Tidy k words) (sym c.conditions.ensures) tidy;
    }
