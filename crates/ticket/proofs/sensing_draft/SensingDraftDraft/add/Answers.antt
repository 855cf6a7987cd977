use Rattle.std.proofs.Common.{◌≡◌, sym, refl, ap, ◌∙◌, subst, lit<}
use Rattle.std.specs.Option.{option_to_list}
use Rattle.worlds.specs.Meaning.{listed}
use Rattle.records.specs.Layout.{kind, group}
use Rattle.records.specs.Content.{literal_at}
use Rattle.records.specs.Judging.{room}
use Rattle.ticket.specs.Gathers.{HoldsSensing}
use Rattle.ticket.proofs.Records.{wrong_kind, no_room_sensing, literal_added, kind_is, shows_kind, gathers_same}
use Rattle.ticket.proofs.Sensings.{sensed_added}
use Rattle.ticket.proofs.sensing_draft.SensingDraftDraft.add.Goals as goal

pub returns-in_default : goal.returns-in_default
returns-in_default c = λ place ks h.
    let p = c.args.node.now.part in
    let kd = kind p.bytes.now in
    let shows = shows_kind kd in
    let gone = no_room_sensing kd (λ e. c.in_default.not-Literal p (shows 5 p _ c.in_ok-try_from.ensures e)) (λ e. c.in_default.not-SensedLiteral p (shows 8 p _ c.in_ok-try_from.ensures e)) in
    wrong_kind c.args.node.now place ks (subst (λ q. room q (group kd) ≡ 0) (sym h.where_it_is) gone) _ c.refused.ensures

pub returns-in-Literal : goal.returns-in-Literal
returns-in-Literal c = λ place ks h.
    let node = c.args.node.now in
    let f = node.file.bytes.now in
    let n = node.file.conditions in
    let five = kind_is _ _ _ _ c.in_ok-try_from.ensures c.in-Literal.is (lit< tt) in
    literal_added node place ks 32 _ _ (HoldsSensing (listed c.push_literal.new.list) (option_to_list c.args.self.now.sensed) f n place) _ five (ap (λ q. room q 5) h.where_it_is) h.literals h.lawful (c.push_literal.ensures.answer five) (c.push_literal.ensures.items five)
    (λ longer.
    record {
      where_it_is = h.where_it_is;
      literals = longer.same;
      lawful = longer.lawful;
      same = h.same ∙ sym (gathers_same f ks _ 5 longer.five (literal_at f) 8 refl);
      within = h.within;
    })

pub returns-in-SensedLiteral : goal.returns-in-SensedLiteral
returns-in-SensedLiteral c = λ place ks h.
    let node = c.args.node.now in
    let eight = kind_is _ _ _ _ c.in_ok-try_from.ensures c.in-SensedLiteral.is (lit< tt) in
    sensed_added node.file.bytes.now _ place ks _ _ _ _ _ h (ap kind (sym node.handed.bytes) ∙ eight) (c.add_sensed.ensures ks eight h.same)
