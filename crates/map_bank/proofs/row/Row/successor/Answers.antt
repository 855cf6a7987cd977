-- Each turn puts what one more outcome gives.
use Rattle.std.proofs.Common.{◌≡◌, ℕ, map, ◌∙◌, arith, rules}
use Rattle.worlds.specs.Meaning.{outcome_of}
use Rattle.map_bank.specs.Numbers.{number, in_words}
use Rattle.map_bank.proofs.SuccessorLaws.{given, outcome_at, given_all, given_successor}
use Rattle.map_bank.proofs.row.Row.successor.Goals as goal

pub put_outcome-requires : goal.put_outcome-requires
put_outcome-requires c = (c.loop-outcome.invariant.same, search (rules, outcome_at))

pub returns : goal.returns
returns c =
    let n = c.args.self.now.conditions in
    let outcomes = c.args.outcomes.now in
    let row = c.args.self.now.words in
    let new = c.loop-outcome.next.words in
    let all : (x : ℕ) → in_words new x ≡ given n (map outcome_of outcomes) row x =
    given_all n outcomes c.loop-outcome.outcome-index row new (omega arith) c.loop-outcome.invariant.puts in
    record {
      conditions = c.loop-outcome.invariant.same;
      worlds = λ v. all (number n v) ∙ given_successor n (map outcome_of outcomes) row v c.args.self.now.few;
    }
