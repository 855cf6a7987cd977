-- A word of worlds that do not meet the list is 0 where all do; where it is not, some world of the tidy row does not.
use Rattle.std.proofs.Common.{refl, arith, rules}
use Rattle.std.proofs.lemmas.Iterator.{YieldsList-from_range, cases_from_all}
use Rattle.map_bank.proofs.RowLaws.{NoneOutside, SomeOutside, meets_by_words}
use Rattle.map_bank.proofs.row.Row.meets.Goals as goal

pub returns : goal.returns
returns c =
    let row = c.args.self.now.words in
    let list = c.args.list.now in
    meets_by_words c.args.self.now.conditions row list c.all.result c.args.self.now.few c.args.self.now.tidy
    (cases_from_all _ _ c.all.result (NoneOutside row list) (SomeOutside row list) c.all.ensures.ran (YieldsList-from_range 0 16 16 refl (omega arith))
    (λ x q k. search rules) (λ x q k. search rules))
