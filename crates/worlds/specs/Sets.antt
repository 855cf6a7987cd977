-- Sets of worlds, and what steps do to them. Two sets are equal when they have the same worlds: functions that agree
-- everywhere are equal.
use Rattle.std.specs.Prelude.{ℕ, zero, suc, Bool, true, false, cond, not, ◌&&◌, ◌||◌, List, [], ◌∷◌}
use Rattle.worlds.specs.Worlds.{World, Literal, holds, meets, some_world}
use Rattle.worlds.specs.Steps.{Outcome, after}

-- a set of worlds of n conditions: a belief set
abbrev pub Worlds : ℕ → Type 0
Worlds n = World n → Bool

-- whether a set has no world
abbrev pub none_in : (n : ℕ) → Worlds n → Bool
none_in n s = not (some_world n s)

-- whether every world of a set meets a list
abbrev pub all_meet : (n : ℕ) → Worlds n → List Literal → Bool
all_meet n s ls = none_in n (λ w. s w && not (meets n w ls))

-- whether two truth values are the same
abbrev pub same_value : Bool → Bool → Bool
same_value a b = cond a b (not b)

-- whether two worlds are the same
abbrev pub same_world : (n : ℕ) → World n → World n → Bool
same_world zero v w = true
same_world (suc n) v w = same_value v.0 w.0 && same_world n v.1 w.1

-- whether some outcome turns world w into world v
abbrev pub may_give : (n : ℕ) → List Outcome → World n → World n → Bool
may_give n [] w v = false
may_give n (o ∷ os) w v = same_world n (after n o w) v || may_give n os w v

-- all worlds that any outcome gives from any world of a set
abbrev pub successor : (n : ℕ) → List Outcome → Worlds n → Worlds n
successor n os s = λ v. some_world n (λ w. s w && may_give n os w v)

-- the worlds of a set in which a literal is so (true), or is not so (false)
abbrev pub side : (n : ℕ) → Literal → Bool → Worlds n → Worlds n
side n l so s = λ w. s w && same_value so (holds n w l)

-- whether two sets have the same worlds
abbrev pub same_set : (n : ℕ) → Worlds n → Worlds n → Bool
same_set n s t = none_in n (λ w. not (same_value (s w) (t w)))
