-- Laws of the subject, each as one statement.
use Rattle.std.specs.Prelude.{◌≡◌, ℕ, ◌≤◌, true, ◌&&◌, List, pos, ◌≢◌}
use Rattle.worlds.specs.Worlds.{World, value, Literal, opposite, holds, meets, some_world, speaks_within, consistent, compatible, In}
use Rattle.worlds.specs.Steps.{Effect, Outcome, after}
use Rattle.worlds.specs.Tickets.{every, lawful_outcome}

-- of two lawful lists, some world meets both exactly where no literal of one has its opposite in the other
abbrev pub CompatibleLists : Type 0
CompatibleLists = (n : ℕ) (ls ks : List Literal) → every (speaks_within n) ls ≡ true → consistent ls ≡ true → every (speaks_within n) ks ≡ true → consistent ks ≡ true → some_world n (λ w. meets n w ls && meets n w ks) ≡ compatible ls ks

-- in the world after a lawful outcome the result of every effect that was met beforehand holds, and each condition that
-- no such effect speaks of has the value that it had
abbrev pub EffectsTakeHold : Type 0
EffectsTakeHold = (n : ℕ) (o : Outcome) (w : World n) → lawful_outcome n o ≡ true →
    ((e : Effect) → In e o → meets n w e.conditions ≡ true → holds n (after n o w) e.result ≡ true)
    × ((p : ℕ) → 1 ≤ p → p ≤ n → ((e : Effect) → In e o → meets n w e.conditions ≡ true → (e.result ≢ pos p) × (e.result ≢ opposite (pos p))) → value n (after n o w) p ≡ value n w p)
