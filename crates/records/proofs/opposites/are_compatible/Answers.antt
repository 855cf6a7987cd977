use Rattle.std.proofs.Common.{not, Bool, ◌&&◌, ◌∙◌, refl, rules}
use Rattle.std.proofs.lemmas.Iterator.{YieldsList-from_slice}
use Rattle.std.proofs.lemmas.Iterator.Search.{all_from_yields_List}
use Rattle.std.proofs.lemmas.List.Recursion.{same_from_clauses}
use Rattle.std.specs.List.{list_all}
use borrow.Author.Tests.{tests}
use Rattle.worlds.specs.Worlds.{Literal, has_literal, opposite, compatible}
use Rattle.records.proofs.opposites.are_compatible.Goals as goal

pub returns : goal.returns
returns c =
    let other = c.args.other.now in
    let test : Literal → Bool = λ l. not (has_literal (opposite l) other) in
    all_from_yields_List test _ _ _ c.all.ensures.ran (YieldsList-from_slice c.args.list.now cc) (λ x b q k. search (rules, tests))
    ∙ same_from_clauses (list_all test) (λ ls. compatible ls other) (λ x b. test x && b) refl (λ _ _. refl) (λ _ _. refl) c.args.list.now
