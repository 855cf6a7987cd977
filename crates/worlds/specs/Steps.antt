-- Actions and sensing steps, and what an outcome does to one world.
use Rattle.std.specs.Prelude.{ℕ, Bool, true, false, cond, ◌&&◌, ◌||◌, List, [], ◌∷◌, pos}
use Rattle.worlds.specs.Worlds.{World, value, world_by, Literal, meets, opposite, same_literal}

-- an effect: where a world meets the conditions, the result is so afterwards
pub record Effect : Type 0 where
  pub conditions : List Literal
  pub result : Literal

-- an outcome: effects that take hold together
abbrev pub Outcome : Type 0
Outcome = List Effect

-- a step, with its class (0 to 255) and its precondition: an action has outcomes, of which exactly one happens;
-- a sensing step tells whether its literal is so, and changes no world
pub data Step : Type 0 where
  action : (class : ℕ) (precondition : List Literal) (outcomes : List Outcome) → Step
  sensing : (class : ℕ) (precondition : List Literal) (sensed : Literal) → Step

-- whether some effect whose conditions the world meets has this result
abbrev pub brings : (n : ℕ) → Outcome → World n → Literal → Bool
brings n [] w l = false
brings n (e ∷ es) w l = (meets n w e.conditions && same_literal l e.result) || brings n es w l

-- the world after an outcome: all effects whose conditions it met beforehand take hold together, and every
-- other condition keeps its value
abbrev pub after : (n : ℕ) → Outcome → World n → World n
after n o w = world_by n (λ p. cond (brings n o w (pos p)) true (cond (brings n o w (opposite (pos p))) false (value n w p)))
