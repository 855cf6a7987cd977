-- What a lawful ticket says of its steps and terms, and which sets are not empty.
-- Assumes nothing.
use Rattle.std.specs.Prelude.{◌≡◌, ℕ, zero, suc, ◌<◌, ◌≤◌, Bool, true, false, ◌&&◌, List, [], ◌∷◌, length, pos, negsuc, Some, None, Option, FitsSigned, nat_le, nat_lt, refl}
use Rattle.std.proofs.Common.{◌∙◌, subst, arith}
use Rattle.std.specs.Int.{w16}
use Rattle.std.proofs.lemmas.Bool.{and_parts, and_from, ltb-true, leb-true, le-leb, or_left, not-false, not_from_true}
use Rattle.worlds.specs.Worlds.{World, Literal, meets, speaks_within, consistent, compatible}
use Rattle.worlds.specs.Steps.{Outcome, Step, action, sensing, after}
use Rattle.worlds.specs.Sets.{Worlds, none_in, may_give, successor}
use Rattle.worlds.specs.Tickets.{Ticket, every, lawful, lawful_list, lawful_outcome, lawful_step, starts, meets_some, step_at}
use Rattle.worlds.proofs.Compatible.{some_world_from, the_world, some_world_meets}
use Rattle.bank.specs.Calls.{outcomes_of, sensed_of}
use Rattle.map_bank.proofs.SameLaws.{same_world_self}

-- ## The parts of a ticket's law

terms_lawful_parts : (t : Ticket) → lawful t ≡ true → (0 < length t.terms) × (every (lawful_list t.conditions 32) t.terms ≡ true)
terms_lawful_parts t h =
    let n = t.conditions in
    let a = (and_parts (nat_lt 0 n && nat_le n 32) _ h).1 in
    let b = and_parts (nat_lt 0 (length t.terms) && (nat_le (length t.terms) 256 && every (lawful_list n 32) t.terms)) _ a in
    let terms = and_parts (nat_lt 0 (length t.terms)) (nat_le (length t.terms) 256 && every (lawful_list n 32) t.terms) b.0 in
    (ltb-true 0 _ terms.0, (and_parts (nat_le (length t.terms) 256) (every (lawful_list n 32) t.terms) terms.1).1)

steps_lawful : (t : Ticket) → lawful t ≡ true → every (lawful_step t.conditions) t.steps ≡ true
steps_lawful t h =
    let n = t.conditions in
    let a = (and_parts (nat_lt 0 n && nat_le n 32) _ h).1 in
    let b = and_parts (nat_lt 0 (length t.terms) && (nat_le (length t.terms) 256 && every (lawful_list n 32) t.terms)) _ a in
    (and_parts (nat_le (length t.steps) 32) (every (lawful_step n) t.steps) (and_parts (lawful_list n 32 t.aim) _ b.1).1).1

-- ## The step of a number is lawful

abbrev LawfulIf : ℕ → Option Step → Type 0
LawfulIf n None = Unit {0}
LawfulIf n (Some s) = lawful_step n s ≡ true

step_lawful : (n : ℕ) (steps : List Step) (k : ℕ) → every (lawful_step n) steps ≡ true → LawfulIf n (step_at steps k)
step_lawful n [] k h = tt
step_lawful n (s ∷ ss) zero h = (and_parts (lawful_step n s) (every (lawful_step n) ss) h).0
step_lawful n (s ∷ ss) (suc k) h = step_lawful n ss k (and_parts (lawful_step n s) (every (lawful_step n) ss) h).1

outcomes_lawful_of : (n : ℕ) (s : Option Step) (os : List Outcome) → LawfulIf n s → outcomes_of s ≡ Some os → (0 < length os) × (every (lawful_outcome n) os ≡ true)
outcomes_lawful_of n None os h e = let z : ◌≡◌ {A = ℕ} 0 1 = cc in absurd (omega arith)
outcomes_lawful_of n (Some (action class precondition outcomes)) os h e =
    let is : outcomes ≡ os = cc in
    let a = (and_parts (nat_lt class 256) _ h).1 in
    let b = (and_parts (lawful_list n 32 precondition) _ a).1 in
    let d = and_parts (nat_lt 0 (length outcomes)) _ b in
    let f = (and_parts (nat_le (length outcomes) 4) (every (lawful_outcome n) outcomes) d.1).1 in
    (subst (λ (x : List Outcome). 0 < length x) is (ltb-true 0 _ d.0), subst (λ (x : List Outcome). every (lawful_outcome n) x ≡ true) is f)
outcomes_lawful_of n (Some (sensing class precondition sensed)) os h e = let z : ◌≡◌ {A = ℕ} 0 1 = cc in absurd (omega arith)

sensed_lawful_of : (n : ℕ) (s : Option Step) (l : Literal) → LawfulIf n s → sensed_of s ≡ Some l → speaks_within n l ≡ true
sensed_lawful_of n None l h e = let z : ◌≡◌ {A = ℕ} 0 1 = cc in absurd (omega arith)
sensed_lawful_of n (Some (action class precondition outcomes)) l h e = let z : ◌≡◌ {A = ℕ} 0 1 = cc in absurd (omega arith)
sensed_lawful_of n (Some (sensing class precondition sensed)) l h e =
    let is : sensed ≡ l = cc in
    let a = (and_parts (nat_lt class 256) _ h).1 in
    subst (λ (x : Literal). speaks_within n x ≡ true) is (and_parts (lawful_list n 32 precondition) _ a).1

pub outcomes_lawful : (t : Ticket) (k : ℕ) (os : List Outcome) → lawful t ≡ true → outcomes_of (step_at t.steps k) ≡ Some os → (0 < length os) × (every (lawful_outcome t.conditions) os ≡ true)
outcomes_lawful t k os h e = outcomes_lawful_of t.conditions (step_at t.steps k) os (step_lawful t.conditions t.steps k (steps_lawful t h)) e

pub sensed_lawful : (t : Ticket) (k : ℕ) (l : Literal) → lawful t ≡ true → sensed_of (step_at t.steps k) ≡ Some l → speaks_within t.conditions l ≡ true
sensed_lawful t k l h e = sensed_lawful_of t.conditions (step_at t.steps k) l (step_lawful t.conditions t.steps k (steps_lawful t h)) e

-- ## Literals of few conditions

pub speaks_wider : (n : ℕ) (l : Literal) → n ≤ 10 → speaks_within n l ≡ true → speaks_within 10 l ≡ true
speaks_wider n (pos p) few h =
    let parts = and_parts (nat_lt 0 p) (nat_le p n) h in
    let low = leb-true p n parts.1 in
    and_from _ _ parts.0 (le-leb p 10 (omega arith))
speaks_wider n (negsuc m) few h = let low = leb-true (suc m) n h in le-leb (suc m) 10 (omega arith)

-- where each that passes one test passes another, a list that passes the one passes the other
pub every_more : {X : Type 0} (test other : X → Bool) → ((x : X) → test x ≡ true → other x ≡ true) → (xs : List X) → every test xs ≡ true → every other xs ≡ true
every_more test other more [] all = refl
every_more test other more (x ∷ xs) all =
    let parts = and_parts (test x) (every test xs) all in
    and_from (other x) (every other xs) (more x parts.0) (every_more test other more xs parts.1)

pub all_speak_wider : (n : ℕ) (ls : List Literal) → n ≤ 10 → every (speaks_within n) ls ≡ true → every (speaks_within 10) ls ≡ true
all_speak_wider n ls few = every_more (speaks_within n) (speaks_within 10) (λ l h. speaks_wider n l few h) ls

-- ## Sets that are not empty

gives_first : (n : ℕ) (os : List Outcome) (w : World n) → 0 < length os → (v : World n) × (may_give n os w v ≡ true)
gives_first n [] w some = absurd (omega arith)
gives_first n (o ∷ os) w some = (after n o w, or_left _ _ (same_world_self n (after n o w)))

-- what an action makes of a set that has a world has one
pub successor_some : (n : ℕ) (os : List Outcome) (s : Worlds n) → 0 < length os → none_in n s ≡ false → none_in n (successor n os s) ≡ false
successor_some n os s some has =
    let was = the_world n s (not-false _ has) in
    let gives = gives_first n os was.0 some in
    not_from_true _ (some_world_from n (successor n os s) gives.0
    (some_world_from n (λ w. s w && may_give n os w gives.0) was.0 (and_from _ _ was.1 gives.1)))

compatible_none : (ls : List Literal) → compatible ls [] ≡ true
compatible_none [] = refl
compatible_none (l ∷ ls) = compatible_none ls

meets_first : (n : ℕ) (terms : List (List Literal)) → 0 < length terms → every (lawful_list n 32) terms ≡ true → (w : World n) × (meets_some n w terms ≡ true)
meets_first n [] some h = absurd (omega arith)
meets_first n (ls ∷ terms) some h =
    let fine = (and_parts (lawful_list n 32 ls) (every (lawful_list n 32) terms) h).0 in
    let parts = and_parts (every (speaks_within n) ls) (consistent ls) (and_parts (nat_le (length ls) 32) _ fine).1 in
    let met = the_world n (λ w. meets n w ls && true) (some_world_meets n ls [] parts.0 parts.1 refl refl ∙ compatible_none ls) in
    (met.0, or_left _ _ (and_parts (meets n met.0 ls) true met.1).0)

-- a lawful ticket starts somewhere
pub starts_some : (t : Ticket) → lawful t ≡ true → none_in t.conditions (starts t) ≡ false
starts_some t h =
    let parts = terms_lawful_parts t h in
    let met = meets_first t.conditions t.terms parts.0 parts.1 in
    not_from_true _ (some_world_from t.conditions (starts t) met.0 met.1)

-- a literal of few conditions is a small number
pub literal_fits : (n : ℕ) (l : Literal) → n ≤ 10 → speaks_within n l ≡ true → FitsSigned w16 l
literal_fits n (pos p) few h = let low = leb-true p n (and_parts (nat_lt 0 p) (nat_le p n) h).1 in record { sfits = omega arith }
literal_fits n (negsuc m) few h = let low = leb-true (suc m) n h in record { sfits = omega arith }
