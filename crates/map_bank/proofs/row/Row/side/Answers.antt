-- The worlds on a side are those that do not meet the literal that is denied there.
use Rattle.std.proofs.Common.{rules, w16, SFits}
use Rattle.std.proofs.lemmas.Int.{to_z-of_z}
use Rattle.map_bank.proofs.RowLaws.{side_outside}
use Rattle.map_bank.proofs.row.Row.side.Goals as goal

pub returns : goal.returns
returns c =
    let literal : SFits w16 c.args.literal = c.ranges.literal in
    let denied : SFits w16 c.denied.result = search rules in
    record {
      conditions = c.outside.ensures.conditions;
      worlds = side_outside c.args.self.now.conditions c.args.self.now.words c.outside.result.words c.args.literal c.denied.result c.args.so
          (simp to_z-of_z at c.denied.ensures.turned) (simp to_z-of_z at c.outside.ensures.worlds);
    }
