use Rattle.worlds.proofs.Compatible.{some_world_meets}
use Rattle.worlds.proofs.laws.compatible_lists.Goals as goal

pub returns : goal.returns
returns c = some_world_meets
