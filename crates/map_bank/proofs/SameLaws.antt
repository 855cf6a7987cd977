-- Values, worlds and sets that the tests take for the same.
-- Assumes nothing.
use Rattle.std.specs.Prelude.{◌≡◌, ℕ, zero, suc, Bool, true, false, not, refl}
use Rattle.std.proofs.Common.{sym, ap, ap₂}
use Rattle.std.proofs.lemmas.Bool.{false≢true, both_ways, and_parts, and_from}
use Rattle.worlds.specs.Worlds.{World, some_world}
use Rattle.worlds.specs.Sets.{Worlds, same_set, same_value, same_world}
use Rattle.worlds.proofs.Compatible.{the_world, cannot_pass}

pub same_value_self : (b : Bool) → same_value b b ≡ true
same_value_self true = refl
same_value_self false = refl

pub same_value_is : (a b : Bool) → same_value a b ≡ true → a ≡ b
same_value_is true b h = sym h
same_value_is false true h = absurd (false≢true h)
same_value_is false false h = refl

pub same_world_self : (n : ℕ) (w : World n) → same_world n w w ≡ true
same_world_self zero w = refl
same_world_self (suc n) w = and_from _ _ (same_value_self w.0) (same_world_self n w.1)

pub same_world_is : (n : ℕ) (v w : World n) → same_world n v w ≡ true → v ≡ w
same_world_is zero v w same = refl
same_world_is (suc n) v w same =
    let parts = and_parts (same_value v.0 w.0) (same_world n v.1 w.1) same in
    ap₂ (λ (b : Bool) (u : World n). (b, u)) (same_value_is v.0 w.0 parts.0) (same_world_is n v.1 w.1 parts.1)

no_world : (n : ℕ) (test : World n → Bool) → ((w : World n) → test w ≡ false) → some_world n test ≡ false
no_world n test never = cannot_pass (some_world n test) (λ some. let found = the_world n test some in both_ways _ (never found.0) found.1)

pub same_set_self : (n : ℕ) (s : Worlds n) → same_set n s s ≡ true
same_set_self n s = ap not (no_world n (λ w. not (same_value (s w) (s w))) (λ w. ap not (same_value_self (s w))))
