use Rattle.std.proofs.Common.{◌≡◌, ℕ, ◌*◌, ◌^◌, ◌<◌, ◌≤◌, List, length, get_or, vec_items, arith, rules}
use Rattle.std.proofs.lemmas.Iterator.{YieldsList-from_slice, IsFirst-from_position}
use Rattle.ticket.specs.Tickets.{ticket_of}
use Rattle.map_bank.specs.MapBanks.{rows_in}
use Rattle.map_bank.proofs.PlaceLaws.{found_place}
use Rattle.map_bank.proofs.map_bank.MapBank.find.Goals as goal

pub returns : goal.returns
returns c =
    let self = c.args.self.now in
    let row = c.args.wanted.now in
    let room : 16 * self.count ≤ length (vec_items self.words) = omega (arith, self.words.ok.0, self.room) in
    let fits : (i : ℕ) → get_or (vec_items self.words) i 0 < 2 ^ 64 = search rules in
    let row-fits : (i : ℕ) → get_or row i 0 < 2 ^ 64 = search rules in
    found_place (ticket_of self.ticket).conditions self.count (vec_items self.words) row room fits self.tidy (search rules) row-fits c.requires c.position.result
    (IsFirst-from_position _ _ c.position.result (λ (a : List ℕ). a ≡ row) (λ (a : List ℕ). a ≡ row → ⊥) c.position.ensures.ran (YieldsList-from_slice (rows_in self) (cc)) (λ x q k. search rules) (λ x q k. (search rules, search rules)))
