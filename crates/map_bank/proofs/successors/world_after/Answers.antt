-- Each turn takes one more effect, if the world meets it.
use Rattle.std.proofs.Common.{◌≡◌, length, inl, inr, arith, rules, w16, SFits}
use Rattle.std.specs.Iterator.Adapters.{zip_first, zip_second}
use Rattle.std.specs.Slice.Iter.{iter_rest}
use Rattle.std.proofs.lemmas.Int.{to_z-of_z}
use Rattle.std.proofs.lemmas.Bool.{eq-eqb, ne_eqb}
use Rattle.map_bank.proofs.SuccessorLaws.{left_skip, left_take, left_none}
use Rattle.map_bank.proofs.successors.world_after.Goals as goal

pub loop-effect-preserved : goal.loop-effect-preserved
loop-effect-preserved c =
    let it = c.loop-effect.effect-iterator in
    let rest = c.next.new.self in
    record {
      can_next = search rules;
      is_finite = search rules;
      left = left_skip c.args.world c.loop-effect.next c.args.effects.now (iter_rest (zip_first it)) (iter_rest (zip_first rest)) c.in-Some.effect.now (iter_rest (zip_second it)) (iter_rest (zip_second rest)) c.in-Some.mask.now
          c.loop-effect.invariant.left c.in-Some.ensures.steps.0 c.in-Some.ensures.steps.1 (ne_eqb _ 1 c.if-met.false);
    }

pub loop-effect-preserved-then-met : goal.loop-effect-preserved-then-met
loop-effect-preserved-then-met c =
    let it = c.loop-effect.effect-iterator in
    let rest = c.next.new.self in
    let fits : SFits w16 c.in-Some.effect.now.result = search rules in
    record {
      can_next = search rules;
      is_finite = search rules;
      left = left_take c.args.world c.loop-effect.next c.changed-next.result c.args.effects.now (iter_rest (zip_first it)) (iter_rest (zip_first rest)) c.in-Some.effect.now (iter_rest (zip_second it)) (iter_rest (zip_second rest)) c.in-Some.mask.now
          c.loop-effect.invariant.left c.in-Some.ensures.steps.0 c.in-Some.ensures.steps.1 (eq-eqb _ 1 c.if-met.true) (simp to_z-of_z at c.changed-next.ensures);
    }

pub returns : goal.returns
returns c =
    let it = c.loop-effect.effect-iterator in
    let room = c.loop-effect.invariant.left.room in
    let none : length (iter_rest (zip_first it)) ≡ 0 = elim c.in-None.ensures.steps [ inl h ↦ h.1.0 | inr h ↦ omega (arith, h.1.0, room) ] in
    left_none c.args.world c.loop-effect.next c.args.effects.now (iter_rest (zip_first it)) (iter_rest (zip_second it)) none c.loop-effect.invariant.left
