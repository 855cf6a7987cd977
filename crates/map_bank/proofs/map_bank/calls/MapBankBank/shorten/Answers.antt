use Rattle.std.proofs.Common.{◌≡◌, ℕ, ◌<◌, ◌≤◌, true, List, map, vec_items, vec_len, sym, ap, ◌∙◌, subst, arith}
use Rattle.std.proofs.lemmas.List.{take-map}
use Rattle.worlds.specs.Sets.{Worlds}
use Rattle.ticket.specs.Tickets.{ticket_of}
use Rattle.bank.specs.Meaning.{all_different}
use Rattle.map_bank.specs.Held.{AllTidy, length_rows}
use Rattle.map_bank.specs.MapBanks.{rows_in, meaning_with, capacity_of}
use Rattle.map_bank.specs.Numbers.{set_of}
use Rattle.map_bank.proofs.HeldLaws.{rows_shorter}
use Rattle.map_bank.proofs.PlaceLaws.{tidy_shorter, different_shorter}
use Rattle.map_bank.proofs.CallLaws.{shorten_refused, shorten_done}
use Rattle.map_bank.proofs.map_bank.calls.MapBankBank.shorten.Goals as goal

pub returns-then-self-count : goal.returns-then-self-count
returns-then-self-count c =
    let self = c.args.self.now in
    let p = shorten_refused (ticket_of self.ticket) (rows_in self) (capacity_of (vec_len self.words)) c.args.count
    (subst (λ (k : ℕ). k < c.args.count) (sym (length_rows self.count (vec_items self.words))) c.if-self-count.true) in
    record { answer = p.0; after = p.1 }

pub invariant_of-self : goal.invariant_of-self
invariant_of-self c =
    let self = c.args.self.now in
    let n = (ticket_of self.ticket).conditions in
    let count = c.args.count in
    let fewer : count ≤ self.count = c.if-self-count.false in
    let left = rows_shorter count self.count (vec_items self.words) fewer in
    record {
      room = omega (arith, self.room);
      few = omega (arith, self.few);
      small = self.small;
      tidy = subst (λ (rows : List (List ℕ)). AllTidy n rows) left (tidy_shorter n count (rows_in self) self.tidy);
      different = subst (λ (rows : List (List ℕ)). all_different n (map (set_of n) rows) ≡ true) left
          (subst (λ (held : List (Worlds n)). all_different n held ≡ true) (take-map (set_of n) count (rows_in self)) (different_shorter n count (map (set_of n) (rows_in self)) self.different));
    }

pub returns : goal.returns
returns c =
    let self = c.args.self.now in
    let cap = capacity_of (vec_len self.words) in
    let p = shorten_done (ticket_of self.ticket) (rows_in self) cap c.args.count
    (subst (λ (k : ℕ). c.args.count ≤ k) (sym (length_rows self.count (vec_items self.words))) c.if-self-count.false) in
    record {
      answer = p.0;
      after = ap (λ (rows : List (List ℕ)). meaning_with (ticket_of self.ticket) rows cap) (sym (rows_shorter c.args.count self.count (vec_items self.words) c.if-self-count.false)) ∙ p.1;
    }
