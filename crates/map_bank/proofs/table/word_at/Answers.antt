-- The word at a place has the bits of the rule, since the whole table keeps it.
use Rattle.std.proofs.Common.{arith}
use Rattle.map_bank.proofs.TruthTable.{truth_at}
use Rattle.map_bank.proofs.table.word_at.Goals as goal

pub returns : goal.returns
returns c = truth_at c.args.table.now c.requires.rule (omega arith) c.args.p c.args.k c.requires.place.0 c.requires.place.1 c.requires.place.2
