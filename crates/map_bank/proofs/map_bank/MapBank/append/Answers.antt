use Rattle.std.proofs.Common.{ℕ, ◌<◌, ◌≤◌, Ok, vec_items, vec_len, sym, ap, ◌∙◌, subst}
use Rattle.ticket.specs.Tickets.{ticket_of}
use Rattle.map_bank.specs.Held.{length_rows}
use Rattle.map_bank.specs.MapBanks.{rows_in, capacity_of}
use Rattle.map_bank.proofs.CallLaws.{put_full, put_new}
use Rattle.map_bank.proofs.map_bank.MapBank.append.Goals as goal

pub returns-then-place-capacity : goal.returns-then-place-capacity
returns-then-place-capacity c =
    let self = c.args.self.now in
    let rows = length_rows self.count (vec_items self.words) in
    let cap = capacity_of (vec_len self.words) in
    let full = subst (λ (k : ℕ). k ≤ self.count) c.capacity.ensures c.if-place-capacity.true in
    let p = put_full (ticket_of self.ticket) (rows_in self) cap c.args.row.now.words c.requires.absent (subst (λ (k : ℕ). cap ≤ k) (sym rows) full) in
    record { answer = p.0; after = p.1 }

pub returns : goal.returns
returns c =
    let self = c.args.self.now in
    let rows = length_rows self.count (vec_items self.words) in
    let cap = capacity_of (vec_len self.words) in
    let free = subst (λ (k : ℕ). self.count < k) c.capacity.ensures c.if-place-capacity.false in
    let p = put_new (ticket_of self.ticket) (rows_in self) cap c.args.row.now.words c.requires.absent (subst (λ (k : ℕ). k < cap) (sym rows) free) in
    record { answer = ap Ok (sym rows) ∙ p.0; after = c.push.ensures ∙ p.1 }
