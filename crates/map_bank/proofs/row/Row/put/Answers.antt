use Rattle.std.proofs.Common.{arith}
use Rattle.map_bank.proofs.RowLaws.{few_worlds}
use Rattle.map_bank.proofs.row.Row.put.Goals as goal

pub put-requires : goal.put-requires
put-requires c = omega (arith, few_worlds c.args.self.now.conditions c.args.self.now.few)
