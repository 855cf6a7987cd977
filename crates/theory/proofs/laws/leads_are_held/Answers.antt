use Rattle.theory.proofs.Leads.{leads_are_held}
use Rattle.theory.proofs.laws.leads_are_held.Goals as goal

pub returns : goal.returns
returns g c = leads_are_held g.met.T.Tally.lawful
