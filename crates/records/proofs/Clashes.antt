-- For lawful effects, a clash told by their literals is a clash told by worlds.
use Rattle.std.proofs.Common.{◌≡◌, ℕ, Bool, true, false, not, ◌&&◌, ◌||◌, leb, [], ◌∷◌, length, sym, refl, ap, ◌∙◌}
use Rattle.std.proofs.lemmas.Bool.{and_parts}
use Rattle.std.proofs.lemmas.Bool.Decides.{same_from_decides}
use Rattle.worlds.specs.Worlds.{Literal, same_literal, opposite, speaks_within, consistent}
use Rattle.worlds.specs.Steps.{Effect, Outcome}
use Rattle.worlds.specs.Tickets.{every, clash, clashes, lawful_list, lawful_effect}
use Rattle.worlds.proofs.Compatible.{some_world_meets, same_literal_is, same_literal_self}
use Rattle.records.specs.Conflicts.{conflict, conflicts}

-- a test that turns on two others
pub not_both : (a b : Bool) → not (not a && b) ≡ (a || not b)
not_both true b = refl
not_both false b = refl

-- it does not matter which literal is named first
turned : (a b : Literal) → same_literal a b ≡ same_literal b a
turned a b =
    same_from_decides {P = a ≡ b} _ _
    (same_literal_is a b, λ e. ap (same_literal a) (sym e) ∙ same_literal_self a)
    (λ h. sym (same_literal_is b a h), λ e. ap (same_literal b) e ∙ same_literal_self b)

pub conflict_is : (n : ℕ) (d e : Effect) → lawful_effect n d ≡ true → lawful_effect n e ≡ true → conflict d e ≡ clash n d e
conflict_is n d e h k =
    let dl = (and_parts (leb (length d.conditions) 4) (every (speaks_within n) d.conditions && consistent d.conditions) (and_parts (lawful_list n 4 d.conditions) (speaks_within n d.result) h).0).1 in
    let el = (and_parts (leb (length e.conditions) 4) (every (speaks_within n) e.conditions && consistent e.conditions) (and_parts (lawful_list n 4 e.conditions) (speaks_within n e.result) k).0).1 in
    let dp = and_parts (every (speaks_within n) d.conditions) (consistent d.conditions) dl in
    let ep = and_parts (every (speaks_within n) e.conditions) (consistent e.conditions) el in
    let worlds = some_world_meets n d.conditions e.conditions dp.0 dp.1 ep.0 ep.1 in
    let back = sym worlds in
    λ i. turned (opposite e.result) d.result i && back i

pub conflicts_is : (n : ℕ) (ds : Outcome) (e : Effect) → every (lawful_effect n) ds ≡ true → lawful_effect n e ≡ true → conflicts ds e ≡ clashes n ds e
conflicts_is n [] e h k = refl
conflicts_is n (d ∷ ds) e h k =
    let p = and_parts (lawful_effect n d) (every (lawful_effect n) ds) h in
    λ i. conflict_is n d e p.0 k i || conflicts_is n ds e p.1 k i
