use Rattle.std.proofs.Common.{◌≡◌, ◌*◌}
use Rattle.worlds.specs.Meaning.{outcome_of}
use Rattle.map_bank.proofs.SuccessorLaws.{Puts}
use Rattle.map_bank.proofs.row.Row.put_outcome.Given as goal

abbrev pub invariant-loop-k : goal.invariant-loop-k
invariant-loop-k l = record {
  same : l.self.conditions ≡ l.initial.self.conditions;
  puts : Puts l.from.conditions (outcome_of l.outcome) l.from.words 0 (64 * l.k) l.initial.self.words l.self.words;
}
