-- A ticket as a value, and what every ticket keeps.
use Rattle.std.specs.Prelude.{ℕ, zero, suc, Bool, true, false, not, ◌&&◌, ◌||◌, List, [], ◌∷◌, length, Some, None, Option, nat_le, nat_lt}
use Rattle.worlds.specs.Worlds.{World, Literal, opposite, meets, some_world, speaks_within, same_literal, consistent}
use Rattle.worlds.specs.Steps.{Effect, Outcome, Step, action, sensing}

-- a ticket: n conditions; terms, by which its worlds may start; the aim; the steps, numbered from 0
pub record Ticket : Type 0 where
  pub conditions : ℕ
  pub terms : List (List Literal)
  pub aim : List Literal
  pub steps : List Step

-- the step of a number, if there is one; steps are numbered from 0
abbrev pub step_at : List Step → ℕ → Option Step
step_at [] k = None
step_at (x ∷ xs) zero = Some x
step_at (x ∷ xs) (suc k) = step_at xs k

-- whether a world meets at least one of some lists
abbrev pub meets_some : (n : ℕ) → World n → List (List Literal) → Bool
meets_some n w [] = false
meets_some n w (l ∷ ls) = meets n w l || meets_some n w ls

-- the starting worlds of a ticket: exactly those that meet at least one term
abbrev pub starts : (t : Ticket) → World t.conditions → Bool
starts t w = meets_some t.conditions w t.terms

-- whether all of a list pass a test
abbrev pub every : {X : Type 0} → (X → Bool) → List X → Bool
every test [] = true
every test (x ∷ xs) = test x && every test xs

-- at most so many literals, each of a condition 1 to n, none with its opposite
abbrev pub lawful_list : ℕ → ℕ → List Literal → Bool
lawful_list n most ls = nat_le (length ls) most && (every (speaks_within n) ls && consistent ls)

-- two effects clash when their results are opposite and some world meets the conditions of both
abbrev pub clash : ℕ → Effect → Effect → Bool
clash n d e =
    same_literal d.result (opposite e.result) && some_world n (λ w. meets n w d.conditions && meets n w e.conditions)

-- whether one of some effects clashes with e
abbrev pub clashes : ℕ → Outcome → Effect → Bool
clashes n [] e = false
clashes n (d ∷ ds) e = clash n d e || clashes n ds e

abbrev pub lawful_effect : ℕ → Effect → Bool
lawful_effect n e = lawful_list n 4 e.conditions && speaks_within n e.result

-- whether an effect clashes with a later one
abbrev pub clashes_later : ℕ → Effect → Outcome → Bool
clashes_later n d [] = false
clashes_later n d (e ∷ es) = clash n d e || clashes_later n d es

-- no two effects of an outcome clash
abbrev pub apart : ℕ → Outcome → Bool
apart n [] = true
apart n (e ∷ es) = not (clashes_later n e es) && apart n es

abbrev pub lawful_outcome : ℕ → Outcome → Bool
lawful_outcome n o = nat_le (length o) 4 && (every (lawful_effect n) o && apart n o)

abbrev pub lawful_step : ℕ → Step → Bool
lawful_step n (action class precondition outcomes) =
    nat_lt class 256 && (lawful_list n 32 precondition && (nat_lt 0 (length outcomes) && (nat_le (length outcomes) 4 && every (lawful_outcome n) outcomes)))
lawful_step n (sensing class precondition sensed) =
    nat_lt class 256 && (lawful_list n 32 precondition && speaks_within n sensed)

-- what every ticket keeps
abbrev pub lawful : Ticket → Bool
lawful t =
    (nat_lt 0 t.conditions && nat_le t.conditions 32)
    && ((nat_lt 0 (length t.terms) && (nat_le (length t.terms) 256 && every (lawful_list t.conditions 32) t.terms))
    && (lawful_list t.conditions 32 t.aim
    && (nat_le (length t.steps) 32 && every (lawful_step t.conditions) t.steps)))
