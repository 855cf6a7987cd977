use Rattle.std.proofs.Common.{◌≡◌}
use Rattle.map_bank.proofs.SuccessorLaws.{PutFirst}
use Rattle.map_bank.proofs.row.Row.successor.Given as goal

abbrev pub invariant-loop-outcome : goal.invariant-loop-outcome
invariant-loop-outcome l = record {
  same : l.next.conditions ≡ l.self.conditions;
  puts : PutFirst l.self.conditions l.outcomes l.outcome-index l.self.words l.next.words;
}
