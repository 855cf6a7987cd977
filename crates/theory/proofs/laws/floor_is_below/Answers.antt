use Rattle.theory.proofs.Narrowing.{floor_is_below}
use Rattle.theory.proofs.laws.floor_is_below.Goals as goal

pub returns : goal.returns
returns g c = floor_is_below g.met.T.Tally.lawful
