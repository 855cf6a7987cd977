use Rattle.theory.proofs.Floors.{floor_is_not_above_sure}
use Rattle.theory.proofs.laws.floor_is_not_above_sure.Goals as goal

pub returns : goal.returns
returns g c = floor_is_not_above_sure g.met.T.Tally.lawful
