use Rattle.theory.proofs.Narrowing.{working_narrows}
use Rattle.theory.proofs.laws.working_narrows.Goals as goal

pub returns : goal.returns
returns g c = working_narrows g.met.T.Tally.lawful
