-- The written row is the next of the rows, and it is tidy and new.
use Rattle.std.proofs.Common.{◌≡◌, ℕ, ◌+◌, ◌*◌, ◌<◌, ◌≤◌, true, false, List, [], ◌∷◌, ◌++◌, map, length, take, drop, vec_items, vec_len, sym, ap, ◌∙◌, subst, arith, rules}
use Rattle.std.specs.Vec.{with_items}
use Rattle.std.proofs.lemmas.List.{with_items_is, map_push}
use Rattle.worlds.specs.Sets.{Worlds, none_in}
use Rattle.ticket.specs.Tickets.{ticket_of}
use Rattle.bank.specs.Meaning.{all_different}
use Rattle.bank.specs.Calls.{place_of}
use Rattle.map_bank.specs.declared.map_bank.MapBank.{MapBank}
use Rattle.map_bank.specs.Held.{rows_of, AllTidy}
use Rattle.map_bank.specs.MapBanks.{rows_in, meaning_with, capacity_of}
use Rattle.map_bank.specs.Numbers.{set_of}
use Rattle.map_bank.proofs.HeldLaws.{rows_written}
use Rattle.map_bank.proofs.PlaceLaws.{tidy_longer, different_longer}
use Rattle.map_bank.specs.Rows.{Tidy}
use Rattle.map_bank.proofs.CallLaws.{one_more, absent_place}
use Rattle.map_bank.proofs.map_bank.MapBank.push.Goals as goal

-- the rows after the write
rows_after : (b : MapBank) (row lent written : List ℕ) → length row ≡ 16 → lent ≡ vec_items b.words → length written ≡ vec_len b.words → written ≡ take (16 * b.count) lent ++ (row ++ drop (16 * b.count + 16) lent) →
    rows_of (b.count + 1) (vec_items (with_items b.words written)) ≡ rows_in b ++ row ∷ []
rows_after b row lent written long is same-long made =
    let items : List ℕ = vec_items b.words in
    let room : 16 * b.count ≤ length items = omega (arith, b.words.ok.0, b.room) in
    let here : written ≡ take (16 * b.count) items ++ (row ++ drop (16 * b.count + 16) items) =
    made ∙ ap (λ (words : List ℕ). take (16 * b.count) words ++ (row ++ drop (16 * b.count + 16) words)) is in
    ap (rows_of (b.count + 1)) (with_items_is b.words written same-long) ∙ rows_written b.count items row written long room here

pub invariant_of-self : goal.invariant_of-self
invariant_of-self c =
    let self = c.args.self.now in
    let n = (ticket_of self.ticket).conditions in
    let row = c.args.row.now.words in
    let long : length row ≡ 16 = search rules in
    let rows = rows_after self row _ c.write_row.new.words long c.as_mut_slice.ensures.value (omega arith) c.write_row.ensures in
    let held = map (set_of n) (rows_in self) in
    let cap = capacity_of (vec_len self.words) in
    let count : self.count < cap = c.requires.0 in
    let new : length held ≤ place_of n held (set_of n row) = omega (arith, absent_place (ticket_of self.ticket) (rows_in self) cap row c.requires.1.absent) in
    let tidy : Tidy n row = subst (λ (k : ℕ). Tidy k row) c.requires.1.fitting.same c.args.row.now.tidy in
    let some : none_in n (set_of n row) ≡ false = subst (λ (k : ℕ). none_in k (set_of k row) ≡ false) c.requires.1.fitting.same c.requires.1.fitting.some in
    record {
      room = omega (arith, self.words.ok.0);
      few = omega arith;
      small = self.small;
      tidy = subst (λ (all : List (List ℕ)). AllTidy n all) (sym rows) (tidy_longer n (rows_in self) row self.tidy tidy);
      different = subst (λ (all : List (List ℕ)). all_different n (map (set_of n) all) ≡ true) (sym rows)
          (subst (λ (all : List (Worlds n)). all_different n all ≡ true) (sym (map_push (set_of n) (rows_in self) row)) (different_longer n held (set_of n row) self.different some new));
    }

pub returns : goal.returns
returns c =
    let self = c.args.self.now in
    let row = c.args.row.now.words in
    let long : length row ≡ 16 = search rules in
    let rows = rows_after self row _ c.write_row.new.words long c.as_mut_slice.ensures.value (omega arith) c.write_row.ensures in
    let cap = capacity_of (vec_len self.words) in
    ap (λ (all : List (List ℕ)). meaning_with (ticket_of self.ticket) all cap) rows ∙ one_more (ticket_of self.ticket) (rows_in self) cap row
