-- A word that is not 0 has a world, since the row is tidy; words that are 0 have none.
use Rattle.std.proofs.Common.{◌≡◌, ℕ, ◌<◌, ◌^◌, rules}
use Rattle.std.proofs.lemmas.Iterator.{YieldsList-from_slice, cases_from_all}
use Rattle.map_bank.proofs.RowLaws.{empty_row}
use Rattle.map_bank.proofs.row.Row.is_empty.Goals as goal

pub returns : goal.returns
returns c =
    empty_row c.args.self.now.conditions c.args.self.now.words c.all.result c.args.self.now.few c.args.self.now.tidy (search rules)
    (cases_from_all _ _ c.all.result (λ (x : ℕ). x ≡ 0) (λ (x : ℕ). (x ≡ 0 → ⊥) × (x < 2 ^ 64)) c.all.ensures.ran (YieldsList-from_slice c.args.self.now.words (cc)) (λ x q k. search rules) (λ x q k. (search rules, search rules)))
