use Rattle.std.proofs.Common.{[], ◌∷◌, Some, None, sym, refl, ap, ◌∙◌, subst, arith, w16, to_z, of_z, SFits, rules}
use Rattle.std.proofs.lemmas.Int.{to_z-of_z}
use Rattle.std.specs.Option.{option_to_list}
use Rattle.worlds.specs.Meaning.{listed}
use Rattle.worlds.specs.Steps.{sensing}
use Rattle.records.specs.Layout.{below}
use Rattle.records.specs.Content.{chain, sensing_from}
use Rattle.records.specs.Judging.{Judged, under_sensing, ended, at_record}
use Rattle.ticket.specs.Gathers.{StepRead}
use Rattle.ticket.proofs.Sensings.{holds_none, sensing_lacks, sensing_complete, sensing_read}
use Rattle.ticket.proofs.Readings.{under_node}
use Rattle.ticket.proofs.sensing_draft.read_sensing.Goals as goal

pub returns-in_default : goal.returns-in_default
returns-in_default c = λ good.
    let node = c.args.node.now in
    let read = c.in_ok-gather.ensures under_sensing (holds_none _ _ _ c.none.ensures) in
    under_node node c.below.result c.below.ensures.0 c.below.ensures.1 (λ f n k. Judged f n under_sensing node.part.number [] k (Some c.refused.result))
    (read.1 _ _ (ended refl (ap Some c.refused.ensures ∙ ap (at_record node.part.number) (sym (sensing_lacks _ _ _ _ _ read.0 (ap option_to_list c.in_default.is))))))

pub returns : goal.returns
returns c = λ good.
    let node = c.args.node.now in
    let d = c.gather.new.draft in
    let read = c.in_ok-gather.ensures under_sensing (holds_none _ _ _ c.none.ensures) in
    let fits : SFits w16 c.in-Some.sensed = search rules in
    let one = ap option_to_list c.in-Some.is ∙ ap (λ l. l ∷ []) (sym (to_z-of_z w16 _ fits)) in
    let step = sensing c.class.result (listed d.precondition) (to_z w16 (of_z w16 c.in-Some.sensed)) in
    let done = read.1 _ _ (ended refl (ap (at_record node.part.number) (sym (sensing_complete _ _ _ _ _ read.0 _ one)))) in
    subst (λ class. StepRead node.file.conditions (sensing_from node.file.bytes.now class (chain node.file.bytes.now (below node.part.bytes.now))) step × Judged node.file.bytes.now node.file.conditions under_sensing node.part.number [] (below node.part.bytes.now) None) (c.class.ensures.value good)
    (under_node node c.below.result c.below.ensures.0 c.below.ensures.1 (λ f n k. StepRead n (sensing_from f c.class.result (chain f k)) step × Judged f n under_sensing node.part.number [] k None)
    (sensing_read _ _ _ _ _ read.0 c.class.result _ (omega arith) one, done))
