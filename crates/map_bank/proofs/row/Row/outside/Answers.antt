use Rattle.std.proofs.Common.{refl, rules}
use Rattle.map_bank.proofs.RowLaws.{OutsideWord, made_words, outside_worlds, outside_tidy}
use Rattle.map_bank.proofs.row.Row.outside.Goals as goal

pub invariant_of-result : goal.invariant_of-result
invariant_of-result c = record {
  few = c.args.self.now.few;
  tidy = outside_tidy c.args.self.now.conditions c.args.self.now.words c.from_fn.result c.args.list.now c.args.self.now.few c.args.self.now.tidy
      (made_words _ (OutsideWord c.args.self.now.words c.args.list.now) _ (λ k word q few called. search rules) c.from_fn.result c.from_fn.ensures.items);
}

pub returns : goal.returns
returns c = record {
  conditions = refl;
  worlds = outside_worlds c.args.self.now.conditions c.args.self.now.words c.from_fn.result c.args.list.now c.args.self.now.few
      (made_words _ (OutsideWord c.args.self.now.words c.args.list.now) _ (λ k word q few called. search rules) c.from_fn.result c.from_fn.ensures.items);
}
