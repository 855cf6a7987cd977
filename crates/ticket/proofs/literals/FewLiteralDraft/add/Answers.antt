use Rattle.std.proofs.Common.{eqb, ◌∙◌, lit<}
use Rattle.std.proofs.lemmas.Bool.{cond-false}
use Rattle.worlds.specs.Meaning.{listed}
use Rattle.records.specs.Layout.{kind, group}
use Rattle.ticket.specs.Gathers.{HoldsLiterals}
use Rattle.ticket.proofs.Records.{wrong_kind, literal_added, other_group, kind_is, shows_kind}
use Rattle.ticket.proofs.literals.FewLiteralDraft.add.Goals as goal

pub returns-in_default : goal.returns-in_default
returns-in_default g c = λ place earlier h.
    let node = c.args.node.now in
    let kd = kind node.part.bytes.now in
    let other = other_group kd (λ e. c.in_default.not-Literal node.part (shows_kind kd 5 node.part _ c.in_ok-try_from.ensures e)) in
    wrong_kind node place earlier (h.only _ ∙ cond-false (eqb (group kd) 5) g.row.N 0 other) _ c.refused.ensures

pub returns-in-Literal : goal.returns-in-Literal
returns-in-Literal g c = λ place earlier h.
    let node = c.args.node.now in
    let five = kind_is _ _ _ _ c.in_ok-try_from.ensures c.in-Literal.is (lit< tt) in
    literal_added node place earlier g.row.N _ _ (HoldsLiterals g.row.N (listed c.push_literal.new.list) node.file.bytes.now node.file.conditions place) _ five (h.only 5) h.same h.lawful (c.push_literal.ensures.answer five) (c.push_literal.ensures.items five)
    (λ longer. record { only = h.only; same = longer.same; lawful = longer.lawful })
