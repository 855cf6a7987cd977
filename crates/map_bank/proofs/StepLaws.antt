-- The step of a number.
-- Assumes nothing.
use Rattle.std.proofs.Common.{◌≡◌, ℕ, List, map, length, Option, Some, None, sym, refl, ap, ◌∙◌, Bor}
use Rattle.std.proofs.lemmas.Option.{slice_get-map, slice_get_read, slice_get_past}
use Rattle.std.specs.List.{slice_get}
use Rattle.std.specs.Prelude.{option_copied, option_map}
use Rattle.std.specs.Slice.{IsItemAt}
use Rattle.worlds.specs.Steps.{Step}
use Rattle.worlds.specs.Tickets.{step_at}
use Rattle.worlds.specs.Meaning.{step_of}
use Rattle.worlds.specs.declared.step.Step as code_step

item_copied : {X : Type 0} (xs : List X) (k : ℕ) (r : Option (Bor X)) → IsItemAt xs k r → option_copied r ≡ slice_get xs k
item_copied xs k None got = sym (slice_get_past xs k got.3)
item_copied xs k (Some x) got = sym (slice_get_read xs (length xs) k x.now refl got.3.0 got.1)

-- the step that `get` lends, if there is one
pub step_got : (steps : List code_step.Step) (all : List Step) (k : ℕ) (r : Option (Bor code_step.Step)) → map step_of steps ≡ all → IsItemAt steps k r → option_map step_of (option_copied r) ≡ step_at all k
step_got steps all k r is got =
    ap (option_map step_of) (item_copied steps k r got) ∙ sym (slice_get-map step_of steps k) ∙ ap (λ (ss : List Step). step_at ss k) is
