use Rattle.std.proofs.Common.{◌≡◌, ℕ, sym, ap, subst, lit<}
use Rattle.records.specs.Layout.{kind, group}
use Rattle.records.specs.Judging.{room}
use Rattle.ticket.proofs.Records.{wrong_kind, no_room_top, kind_is, shows_kind}
use Rattle.ticket.proofs.Readings.{step_read}
use Rattle.ticket.proofs.contents.gathers.ContentsDraft.add.Goals as goal

pub returns-in_default : goal.returns-in_default
returns-in_default c = λ place ks h.
    let p = c.args.node.now.part in
    let kd = kind p.bytes.now in
    let no = c.in_default in
    let shows : (d : ℕ) → kd ≡ d → _ = λ d. shows_kind kd d p _ c.in_ok-try_from.ensures in
    let gone = no_room_top kd (λ e. no.not-Term p (shows 1 e)) (λ e. no.not-Aim p (shows 2 e)) (λ e. no.not-Action p (shows 3 e)) (λ e. no.not-Sensing p (shows 4 e)) in
    wrong_kind c.args.node.now place ks (subst (λ q. room q (group kd) ≡ 0) (sym h.where_it_is) gone) _ c.refused.ensures

pub returns-in-Term : goal.returns-in-Term
returns-in-Term c = λ place ks. c.add_term.ensures place ks (kind_is _ _ _ _ c.in_ok-try_from.ensures c.in-Term.is (lit< tt))

pub returns-in-Aim : goal.returns-in-Aim
returns-in-Aim c = λ place ks. c.add_aim.ensures place ks (kind_is _ _ _ _ c.in_ok-try_from.ensures c.in-Aim.is (lit< tt))

pub returns-in-Action : goal.returns-in-Action
returns-in-Action c = λ place ks.
    let node = c.args.node.now in
    let three = kind_is (kind node.part.bytes.now) node.part _ _ c.in_ok-try_from.ensures c.in-Action.is (lit< tt) in
    c.add_step.ensures place ks (ap group three) (λ ks v good read. step_read node ks 3 v three (read good))

pub returns-in-Sensing : goal.returns-in-Sensing
returns-in-Sensing c = λ place ks.
    let node = c.args.node.now in
    let four = kind_is (kind node.part.bytes.now) node.part _ _ c.in_ok-try_from.ensures c.in-Sensing.is (lit< tt) in
    c.add_step-in-Sensing.ensures place ks (ap group four) (λ ks v good read. step_read node ks 4 v four (read good))
