use Rattle.std.proofs.Common.{map, rules}
use Rattle.worlds.specs.Meaning.{listed}
use Rattle.map_bank.proofs.RowLaws.{UnionWord, made_words, union_worlds}
use Rattle.map_bank.proofs.row.union_words.Goals as goal

pub returns : goal.returns
returns c =
    union_worlds (map listed c.args.terms.now) c.from_fn.result
    (made_words _ (UnionWord (map listed c.args.terms.now)) _ (λ k word q few called. search rules) c.from_fn.result c.from_fn.ensures.items)
