use Rattle.std.proofs.Common.{◌≡◌, ◌*◌, map}
use Rattle.worlds.specs.Meaning.{effect_of}
use Rattle.map_bank.proofs.SuccessorLaws.{Puts}
use Rattle.map_bank.proofs.row.Row.put_word.Given as goal

abbrev pub invariant-loop-b : goal.invariant-loop-b
invariant-loop-b l = record {
  same : l.self.conditions ≡ l.initial.self.conditions;
  puts : Puts l.from.conditions (map effect_of l.effects) l.from.words (64 * l.k) l.b l.initial.self.words l.self.words;
}
