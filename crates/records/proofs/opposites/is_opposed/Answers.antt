use Rattle.std.proofs.Common.{◌||◌, ◌∙◌, refl, rules}
use Rattle.std.proofs.lemmas.Iterator.{YieldsList-from_slice}
use Rattle.std.proofs.lemmas.Iterator.Search.{any_from_yields_List}
use Rattle.std.proofs.lemmas.List.Recursion.{same_from_clauses}
use Rattle.std.specs.List.{list_any}
use borrow.Author.Tests.{tests}
use Rattle.worlds.specs.Worlds.{same_literal, has_literal, opposite}
use Rattle.records.proofs.opposites.is_opposed.Goals as goal

pub returns : goal.returns
returns c =
    let test = same_literal (opposite c.args.literal) in
    any_from_yields_List test _ _ _ c.any.ensures.ran (YieldsList-from_slice c.args.list.now cc) (λ x b q k. search (rules, tests))
    ∙ same_from_clauses (list_any test) (has_literal (opposite c.args.literal)) (λ x b. test x || b) refl (λ _ _. refl) (λ _ _. refl) c.args.list.now
