use Rattle.theory.proofs.Leads.{no_lead_exactly_when_agreed}
use Rattle.theory.proofs.laws.no_lead_exactly_when_agreed.Goals as goal

pub returns : goal.returns
returns g c = no_lead_exactly_when_agreed g.met.T.Tally.lawful
