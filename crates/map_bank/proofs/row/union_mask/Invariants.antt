use Rattle.std.proofs.Common.{map}
use Rattle.worlds.specs.Meaning.{listed}
use Rattle.map_bank.proofs.RowLaws.{JoinsFirst}
use Rattle.map_bank.proofs.row.union_mask.Given as goal

abbrev pub invariant-loop-term : goal.invariant-loop-term
invariant-loop-term l = JoinsFirst l.mask l.k (map listed l.terms) l.term-index
