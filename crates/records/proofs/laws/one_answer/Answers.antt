use Rattle.records.proofs.Verdicts.{one_answer}
use Rattle.records.proofs.laws.one_answer.Goals as goal

pub returns : goal.returns
returns c = one_answer
