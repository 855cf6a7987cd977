use Rattle.std.proofs.Common.{◌-◌, ◌++◌, length, get_or, take, drop, pos, codes, sym, ap, ◌∙◌, arith, w16, SFits, rules}
use Rattle.std.proofs.Output.{has_written_append, has_written_of_eq}
use Rattle.std.proofs.lemmas.Int.{to_z-of_z}
use Rattle.show.specs.Words.{literal_words, further_words}
use Rattle.show.proofs.Lists.{further_more}
use Rattle.show.proofs.words.ListInWordsDisplay.fmt.Goals as goal

pub loop-literal-preserved : goal.loop-literal-preserved
loop-literal-preserved g c = λ plain.
    let i = c.loop-literal.literal-index in
    let rest = take (length c.args.self.now.0.now - 1) (drop 1 c.args.self.now.0.now) in
    let fits : SFits w16 (get_or rest i (pos 0)) = search rules in
    has_written_of_eq _ _ _ _ _ (ap (λ l. further_words (take i rest) ++ (codes ", " ++ literal_words l)) (to_z-of_z w16 _ fits) ∙ sym (further_more rest i (omega arith)))
    (has_written_append _ _ _ _ _ _ (c.loop-literal.invariant plain) (search rules))
