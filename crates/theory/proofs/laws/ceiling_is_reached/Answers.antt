use Rattle.theory.proofs.Ceilings.{ceiling_is_reached}
use Rattle.theory.proofs.laws.ceiling_is_reached.Goals as goal

pub returns : goal.returns
returns g c = ceiling_is_reached g.T.Tally.le g.T.Tally.nothing g.T.Tally.add
