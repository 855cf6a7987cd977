use Rattle.worlds.proofs.TakeHold.{effects_take_hold}
use Rattle.worlds.proofs.laws.effects_take_hold.Goals as goal

pub returns : goal.returns
returns c = effects_take_hold
