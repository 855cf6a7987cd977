-- Each turn keeps, of the worlds so far, those in which the next literal is so.
use Rattle.std.proofs.Common.{get_or, pos, arith, w16, SFits, rules}
use Rattle.std.proofs.lemmas.Int.{to_z-of_z}
use Rattle.map_bank.proofs.WordLaws.{first_none, first_more, first_all}
use Rattle.map_bank.proofs.words.meet_mask.Goals as goal

pub loop-literal-init : goal.loop-literal-init
loop-literal-init c = first_none c.args.k c.args.list.now c.requires.0

pub loop-literal-preserved : goal.loop-literal-preserved
loop-literal-preserved c =
    let fits : SFits w16 (get_or c.args.list.now c.loop-literal.literal-index (pos 0)) = search rules in
    first_more c.loop-literal.mask c.literal_mask-mask.result c.args.k c.args.list.now c.loop-literal.literal-index (omega arith) c.loop-literal.invariant
    (simp to_z-of_z at c.literal_mask-mask.ensures)

pub returns : goal.returns
returns c = first_all c.loop-literal.mask c.args.k c.args.list.now c.loop-literal.literal-index (omega arith) c.loop-literal.invariant
