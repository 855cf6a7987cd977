use Rattle.std.proofs.Common.{Bool, map, ◌||◌, ◌∙◌, refl, rules}
use Rattle.std.proofs.lemmas.Iterator.{YieldsList-from_slice}
use Rattle.std.proofs.lemmas.Iterator.Search.{any_from_yields_List}
use Rattle.std.proofs.lemmas.List.Recursion.{same_from_clauses}
use Rattle.std.specs.List.{list_any}
use borrow.Author.Tests.{tests}
use Rattle.worlds.specs.declared.step.Effect as code
use Rattle.worlds.specs.Meaning.{effect_of}
use Rattle.records.specs.Conflicts.{conflict, conflicts}
use Rattle.records.proofs.opposites.is_clashing.Goals as goal

pub returns : goal.returns
returns c =
    let e = effect_of c.args.effect.now in
    let test : code.Effect → Bool = λ d. conflict (effect_of d) e in
    any_from_yields_List test _ _ _ c.any.ensures.ran (YieldsList-from_slice c.args.earlier.now cc) (λ x b q k. search (rules, tests))
    ∙ same_from_clauses (list_any test) (λ ds. conflicts (map effect_of ds) e) (λ x b. test x || b) refl (λ _ _. refl) (λ _ _. refl) c.args.earlier.now
