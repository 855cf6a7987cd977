use Rattle.map_bank.proofs.HeldLaws.{rows_lent}
use Rattle.map_bank.proofs.places.first_rows.Goals as goal

pub returns : goal.returns
returns c = rows_lent c.args.count c.args.words.now c.as_chunks.result.0.now c.as_chunks.ensures.front c.requires
