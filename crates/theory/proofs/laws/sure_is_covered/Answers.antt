use Rattle.theory.proofs.Floors.{sure_is_covered}
use Rattle.theory.proofs.laws.sure_is_covered.Goals as goal

pub returns : goal.returns
returns g c = sure_is_covered g.met.T.Tally.lawful
