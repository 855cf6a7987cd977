-- Lists of steps, and places past the end of a list.
-- Assumes nothing.
use Rattle.std.proofs.Common.{slice_get, ap, ◌≡◌, ℕ, zero, suc, ◌<◌, ◌⊎◌, List, [], ◌∷◌, map, length, get_or, Some, None, Option, sym, refl, ◌∙◌, inl, inr}
use Rattle.std.proofs.lemmas.Bool.{cases_lt}
use Rattle.std.proofs.lemmas.List.{get_or_past}
use Rattle.std.specs.Option.{option_map}
use Rattle.std.proofs.lemmas.Option.{none-some, slice_get-map, slice_get-get_or, slice_get_within}
use Rattle.worlds.specs.Steps.{Step}
use Rattle.worlds.specs.Tickets.{step_at}

-- a step of a number is a member of the list by its place
step_at_get : (xs : List Step) (k : ℕ) → step_at xs k ≡ slice_get xs k
step_at_get [] k = refl
step_at_get (x ∷ xs) zero = refl
step_at_get (x ∷ xs) (suc k) = step_at_get xs k

-- the step of a number, of steps that stand for others
pub step_at_map : {X : Type 0} (f : X → Step) (xs : List X) (k : ℕ) (d : X) → k < length xs → step_at (map f xs) k ≡ Some (f (get_or xs k d))
step_at_map f xs k d h = step_at_get (map f xs) k ∙ slice_get-map f xs k ∙ ap (option_map f) (slice_get-get_or xs k d h)

-- where a list has a step of a number, the number lies within it
pub step_within : (xs : List Step) (k : ℕ) (x : Step) → step_at xs k ≡ Some x → k < length xs
step_within xs k x e = slice_get_within xs k x (sym (step_at_get xs k) ∙ e)

-- each option is none, or some value
pub cases_some : {X : Type 0} (o : Option X) → (o ≡ None) ⊎ ((x : X) × (o ≡ Some x))
cases_some None = inl refl
cases_some (Some x) = inr (x, refl)

-- where a list has some value at a place, the place lies within it
pub some_within : {X : Type 0} (xs : List (Option X)) (i : ℕ) (x : X) → get_or xs i None ≡ Some x → i < length xs
some_within xs i x e =
    elim (cases_lt i (length xs)) [
      | inl h ↦ h
      | inr h ↦ absurd (none-some x (sym (get_or_past xs i None h) ∙ e))
    ]
