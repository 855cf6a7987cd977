use Rattle.std.proofs.Common.{◌≡◌, ℕ, ◌^◌, ◌<◌, false, [], ◌∷◌, length, get_or, vec_len, refl, sym, ap, ◌∙◌, subst, arith, rules}
use Rattle.worlds.specs.Sets.{none_in}
use Rattle.worlds.specs.Tickets.{Ticket}
use Rattle.ticket.specs.Tickets.{ticket_of}
use Rattle.map_bank.specs.MapBanks.{means_of, meaning_with, capacity_of}
use Rattle.map_bank.specs.Numbers.{set_of}
use Rattle.map_bank.specs.Rows.{Tidy}
use Rattle.map_bank.proofs.CallLaws.{start_set, founded_is}
use Rattle.map_bank.proofs.CanonLaws.{row_is_of}
use Rattle.map_bank.proofs.TicketLaws.{starts_some}
use Rattle.map_bank.proofs.map_bank.MapBank.restart.Goals as goal

pub push-requires : goal.push-requires
push-requires c =
    let t = ticket_of c.args.ticket.now in
    let row = c.starting-row.result in
    let same : row.conditions ≡ t.conditions = c.starting-row.ensures.conditions ∙ c.conditions.ensures in
    let is = start_set t c.conditions.result _ row.words c.conditions.ensures c.terms.ensures c.starting-row.ensures.worlds in (
      omega (arith, c.requires.1),
      record {
        fitting = record {
          same = same ∙ ap (λ (u : Ticket). u.conditions) (sym c.copy_from.ensures);
          some = subst (λ (k : ℕ). none_in k (set_of k row.words) ≡ false) (sym same) (ap (none_in t.conditions) is ∙ starts_some t c.args.ticket.now.lawful);
        };
        absent = refl;
      },
    )

pub returns : goal.returns
returns c =
    let t = ticket_of c.args.ticket.now in
    let row = c.starting-row.result.words in
    let same : c.starting-row.result.conditions ≡ t.conditions = c.starting-row.ensures.conditions ∙ c.conditions.ensures in
    let is = start_set t c.conditions.result _ row c.conditions.ensures c.terms.ensures c.starting-row.ensures.worlds in
    let tidy : Tidy t.conditions row = subst (λ (k : ℕ). Tidy k row) same c.starting-row.result.tidy in
    let long : length row ≡ 16 = search rules in
    let fits : (i : ℕ) → get_or row i 0 < 2 ^ 64 = search rules in
    let cap = capacity_of (vec_len c.args.self.now.words) in
    c.push.ensures ∙ ap (λ (u : Ticket). meaning_with u (row ∷ []) cap) c.copy_from.ensures
    ∙ founded_is t (means_of c.args.self.now) row is (row_is_of t.conditions row long fits tidy)
