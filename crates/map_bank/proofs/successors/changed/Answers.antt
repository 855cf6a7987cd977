-- One bit is set or cleared, and the others stay.
use Rattle.std.proofs.Common.{◌≡◌, nat_abs, w16, SFits}
use Rattle.std.proofs.lemmas.Int.{to_z-of_z}
use Rattle.map_bank.proofs.SuccessorLaws.{changed_true, changed_false}
use Rattle.map_bank.proofs.successors.changed.Goals as goal

pub returns-then-literal-gt0 : goal.returns-then-literal-gt0
returns-then-literal-gt0 c =
    let f : SFits w16 c.args.literal = c.ranges.literal in
    let size : c.unsigned_abs.result ≡ nat_abs c.args.literal = simp to_z-of_z at c.unsigned_abs.ensures.value in
    changed_true c.args.literal c.unsigned_abs.result c.args.world (simp to_z-of_z at c.if-literal-gt0.true) size

pub returns-else-literal-gt0 : goal.returns-else-literal-gt0
returns-else-literal-gt0 c =
    let f : SFits w16 c.args.literal = c.ranges.literal in
    let size : c.unsigned_abs.result ≡ nat_abs c.args.literal = simp to_z-of_z at c.unsigned_abs.ensures.value in
    changed_false c.args.literal c.unsigned_abs.result c.args.world (simp to_z-of_z at c.if-literal-gt0.false) size
