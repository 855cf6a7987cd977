use Rattle.map_bank.proofs.WordLaws.{MasksFirst}
use Rattle.map_bank.proofs.words.meet_mask.Given as goal

abbrev pub invariant-loop-literal : goal.invariant-loop-literal
invariant-loop-literal l = MasksFirst l.mask l.k l.list l.literal-index
