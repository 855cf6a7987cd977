-- The laws of a tally.
use Rattle.std.specs.Prelude.{◌≡◌, Bool, true, false}
use Rattle.worlds.specs.Steps.{Step}

-- what makes a tally lawful: `le` orders the totals, `nothing` is the least of them, `add` puts a step before a rest
pub record Laws {T : Type 0} (le : T → T → Bool) (nothing : T) (add : Step → T → T) : Type 0 where
  -- of two totals one is at most the other
  pub total : (a b : T) → le a b ≡ false → le b a ≡ true
  -- totals that are at most each other are the same
  pub antisymmetric : (a b : T) → le a b ≡ true → le b a ≡ true → a ≡ b
  -- what is at most something is at most all that this is at most
  pub transitive : (a b c : T) → le a b ≡ true → le b c ≡ true → le a c ≡ true
  -- nothing is at most every total
  pub least : (a : T) → le nothing a ≡ true
  -- adding a step never gives less than the rest
  pub no_less : (s : Step) (rest : T) → le rest (add s rest) ≡ true
  -- nor less for a larger rest
  pub monotone : (s : Step) (rest larger : T) → le rest larger ≡ true → le (add s rest) (add s larger) ≡ true
