use Rattle.std.proofs.Common.{◌<◌, [], Some, None, map, length, sym, refl, ap, ◌∙◌, subst, arith}
use lib.ListN.{length-map}
use Rattle.worlds.specs.Meaning.{listed, outcome_of}
use Rattle.worlds.specs.Steps.{action}
use Rattle.records.specs.Layout.{below}
use Rattle.records.specs.Content.{chain, action_from}
use Rattle.records.specs.Judging.{Judged, under_action, ended, at_record}
use Rattle.ticket.specs.Gathers.{StepRead}
use Rattle.ticket.proofs.Actions.{holds_none, action_lacks, action_complete, action_read}
use Rattle.ticket.proofs.Readings.{under_node}
use Rattle.ticket.proofs.action_draft.read_action.Goals as goal

pub returns-then-len-eq0 : goal.returns-then-len-eq0
returns-then-len-eq0 c = λ good.
    let node = c.args.node.now in
    let read = c.in_ok-gather.ensures under_action (holds_none _ _ _ _ c.none.ensures (ap (map outcome_of) c.none-2.ensures)) in
    let none = length-map (listed c.gather.new.draft.outcomes) outcome_of ∙ sym c.len.ensures ∙ c.if-len-eq0.true in
    under_node node c.below.result c.below.ensures.0 c.below.ensures.1 (λ f n k. Judged f n under_action node.part.number [] k (Some c.refused.result))
    (read.1 _ _ (ended refl (ap Some c.refused.ensures ∙ ap (at_record node.part.number) (sym (action_lacks _ _ _ _ _ read.0 none)))))

pub returns : goal.returns
returns c = λ good.
    let node = c.args.node.now in
    let d = c.gather.new.draft in
    let read = c.in_ok-gather.ensures under_action (holds_none _ _ _ _ c.none.ensures (ap (map outcome_of) c.none-2.ensures)) in
    let count = length-map (listed d.outcomes) outcome_of ∙ sym c.len.ensures in
    let some : 0 < length (map outcome_of (listed d.outcomes)) = omega arith in
    let step = action c.class.result (listed d.precondition) (map outcome_of (listed d.outcomes)) in
    let done = read.1 _ _ (ended refl (ap (at_record node.part.number) (sym (action_complete _ _ _ _ _ read.0 some)))) in
    subst (λ class. StepRead node.file.conditions (action_from node.file.bytes.now class (chain node.file.bytes.now (below node.part.bytes.now))) step × Judged node.file.bytes.now node.file.conditions under_action node.part.number [] (below node.part.bytes.now) None) (c.class.ensures.value good)
    (under_node node c.below.result c.below.ensures.0 c.below.ensures.1 (λ f n k. StepRead n (action_from f c.class.result (chain f k)) step × Judged f n under_action node.part.number [] k None)
    (action_read _ _ _ _ _ read.0 c.class.result (omega arith) some, done))
