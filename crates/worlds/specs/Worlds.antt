-- Worlds, literals and what it is for a world to meet a list of literals.
use Rattle.std.specs.Prelude.{◌≡◌, ℕ, zero, suc, ◌-◌, Bool, true, false, cond, not, ◌&&◌, ◌||◌, ◌⊎◌, List, [], ◌∷◌, ℤ, pos, negsuc, neg_ℤ, ◌==◌, nat_le, nat_lt}

-- a world of n conditions: exactly n truth values, that of condition 1 first
abbrev pub World : ℕ → Type 0
World zero = Unit {0}
World (suc n) = Bool × World n

-- whether condition p is true in a world; false where p is not one of 1 to n
abbrev pub value : (n : ℕ) → World n → ℕ → Bool
value zero w p = false
value (suc n) w p = cond (p == 1) w.0 (value n w.1 (p - 1))

-- the world in which each condition has the value that a rule gives it
abbrev pub world_by : (n : ℕ) → (ℕ → Bool) → World n
world_by zero rule = tt
world_by (suc n) rule = (rule 1, world_by n (λ p. rule (suc p)))

-- whether some world of n conditions passes a test
abbrev pub some_world : (n : ℕ) → (World n → Bool) → Bool
some_world zero test = test tt
some_world (suc n) test = some_world n (λ w. test (true, w)) || some_world n (λ w. test (false, w))

-- a literal is a signed number: p says that condition p is true, -p that it is false
abbrev pub Literal : Type 0
Literal = ℤ

-- the literal that says the contrary
abbrev pub opposite : Literal → Literal
opposite l = neg_ℤ l

-- whether a literal is so in a world
abbrev pub holds : (n : ℕ) → World n → Literal → Bool
holds n w (pos p) = value n w p
holds n w (negsuc m) = not (value n w (suc m))

-- whether each literal of a list is so in a world
abbrev pub meets : (n : ℕ) → World n → List Literal → Bool
meets n w [] = true
meets n w (l ∷ ls) = holds n w l && meets n w ls

-- whether a literal speaks of one of the conditions 1 to n
abbrev pub speaks_within : ℕ → Literal → Bool
speaks_within n (pos p) = nat_lt 0 p && nat_le p n
speaks_within n (negsuc m) = nat_le (suc m) n

-- whether two literals are the same
abbrev pub same_literal : Literal → Literal → Bool
same_literal (pos a) (pos b) = a == b
same_literal (pos a) (negsuc b) = false
same_literal (negsuc a) (pos b) = false
same_literal (negsuc a) (negsuc b) = a == b

-- whether a literal stands in a list
abbrev pub has_literal : Literal → List Literal → Bool
has_literal l [] = false
has_literal l (k ∷ ks) = same_literal l k || has_literal l ks

-- whether no literal of a list has its opposite later in the list
abbrev pub consistent : List Literal → Bool
consistent [] = true
consistent (l ∷ ls) = not (has_literal (opposite l) ls) && consistent ls

-- whether no literal of one list has its opposite in another
abbrev pub compatible : List Literal → List Literal → Bool
compatible [] ks = true
compatible (l ∷ ls) ks = not (has_literal (opposite l) ks) && compatible ls ks

-- that a thing stands in a list
abbrev pub In : {X : Type 0} → X → List X → Type 0
In x [] = ⊥
In x (y ∷ ys) = (x ≡ y) ⊎ In x ys
