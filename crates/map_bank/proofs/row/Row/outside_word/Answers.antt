use Rattle.map_bank.proofs.RowLaws.{outside_word}
use Rattle.map_bank.proofs.row.Row.outside_word.Goals as goal

pub returns : goal.returns
returns c = outside_word c.args.self.now.words c.args.list.now c.args.k c.meet_mask.result c.meet_mask.type_inv c.meet_mask.ensures
