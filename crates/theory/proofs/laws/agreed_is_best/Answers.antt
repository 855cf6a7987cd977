use Rattle.theory.proofs.Leads.{agreed_is_best}
use Rattle.theory.proofs.laws.agreed_is_best.Goals as goal

pub returns : goal.returns
returns g c = agreed_is_best g.met.T.Tally.lawful
