use Rattle.std.proofs.Common.{◌≡◌, map, sym, refl, ap, ◌∙◌, subst, lit<}
use Rattle.worlds.specs.Meaning.{listed, outcome_of}
use Rattle.records.specs.Layout.{kind, group}
use Rattle.records.specs.Content.{outcome_at}
use Rattle.records.specs.Judging.{room}
use Rattle.ticket.specs.Gathers.{HoldsAction}
use Rattle.ticket.proofs.Records.{wrong_kind, no_room_action, literal_added, kind_is, shows_kind, gathers_same}
use Rattle.ticket.proofs.Actions.{outcome_added}
use Rattle.ticket.proofs.action_draft.ActionDraftDraft.add.Goals as goal

pub returns-in_default : goal.returns-in_default
returns-in_default c = λ place ks h.
    let p = c.args.node.now.part in
    let kd = kind p.bytes.now in
    let shows = shows_kind kd in
    let gone = no_room_action kd (λ e. c.in_default.not-Literal p (shows 5 p _ c.in_ok-try_from.ensures e)) (λ e. c.in_default.not-Outcome p (shows 6 p _ c.in_ok-try_from.ensures e)) in
    wrong_kind c.args.node.now place ks (subst (λ q. room q (group kd) ≡ 0) (sym h.where_it_is) gone) _ c.refused.ensures

pub returns-in-Literal : goal.returns-in-Literal
returns-in-Literal c = λ place ks h.
    let node = c.args.node.now in
    let f = node.file.bytes.now in
    let n = node.file.conditions in
    let five = kind_is _ _ _ _ c.in_ok-try_from.ensures c.in-Literal.is (lit< tt) in
    literal_added node place ks 32 _ _ (HoldsAction (listed c.push_literal.new.list) (map outcome_of (listed c.args.self.now.outcomes)) f n place) _ five (ap (λ q. room q 5) h.where_it_is) h.literals h.lawful (c.push_literal.ensures.answer five) (c.push_literal.ensures.items five)
    (λ longer.
    record {
      where_it_is = h.where_it_is;
      literals = longer.same;
      lawful = longer.lawful;
      same = h.same ∙ sym (gathers_same f ks _ 5 longer.five (outcome_at f) 6 refl);
      each = h.each;
      few = h.few;
    })

pub returns-in-Outcome : goal.returns-in-Outcome
returns-in-Outcome c = λ place ks h.
    let node = c.args.node.now in
    let six = kind_is _ _ _ _ c.in_ok-try_from.ensures c.in-Outcome.is (lit< tt) in
    outcome_added node.file.bytes.now _ place ks _ _ _ _ _ h (ap kind (sym node.handed.bytes) ∙ six) (c.add_outcome.ensures ks six h.same)
