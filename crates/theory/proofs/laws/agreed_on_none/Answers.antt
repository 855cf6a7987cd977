use Rattle.theory.proofs.Leads.{agreed_on_none}
use Rattle.theory.proofs.laws.agreed_on_none.Goals as goal

pub returns : goal.returns
returns g c = agreed_on_none g.met.T.Tally.lawful
