use Rattle.map_bank.proofs.StepLaws.{step_got}
use Rattle.map_bank.proofs.steps.step_at.Goals as goal

pub returns : goal.returns
returns c = rw c.copied.ensures (step_got c.steps.result.now _ c.args.step c.get.result c.steps.ensures c.get.ensures.lookup)
