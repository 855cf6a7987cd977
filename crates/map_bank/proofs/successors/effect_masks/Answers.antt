-- Each turn puts the mask of one more effect.
use Rattle.std.proofs.Common.{◌≡◌, true, List, sym, subst}
use Rattle.worlds.specs.declared.step.Effect.{Effect}
use Rattle.worlds.specs.Meaning.{effect_of}
use Rattle.worlds.specs.Tickets.{every, lawful_effect}
use Rattle.worlds.specs.Worlds.{Literal, speaks_within}
use Rattle.map_bank.proofs.SuccessorLaws.{conditions_within, effect_at}
use Rattle.map_bank.proofs.successors.effect_masks.Goals as goal

pub meet_mask-requires : goal.meet_mask-requires
meet_mask-requires c =
    let lawful = effect_at 10 c.args.effects.now c.loop-i.i c.index-effects-i.result c.loop-i-test.true c.requires.0 in
    let here = subst (λ (e : Effect). lawful_effect 10 (effect_of e) ≡ true) (sym c.index-effects-i.is) lawful in
    let fine = conditions_within 10 (effect_of c.index-effects-i.result) here in
    (subst (λ (ls : List Literal). every (speaks_within 10) ls ≡ true) (sym c.as_slice.ensures) fine, c.requires.2)
