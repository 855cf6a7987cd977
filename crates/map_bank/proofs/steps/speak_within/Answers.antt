use Rattle.std.proofs.Common.{rules}
use Rattle.std.proofs.lemmas.Iterator.{YieldsList-from_slice}
use Rattle.std.proofs.lemmas.Iterator.Search.{all_from_yields_List}
use Rattle.worlds.specs.Worlds.{speaks_within}
use Rattle.map_bank.proofs.steps.speak_within.Goals as goal

pub returns : goal.returns
returns c = all_from_yields_List (speaks_within c.args.n) _ _ c.all.result c.all.ensures.ran (YieldsList-from_slice c.args.list.now (cc)) (λ x b q k. search rules)
