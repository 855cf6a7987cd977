-- Each turn puts what the outcome gives from one more word of the row.
use Rattle.std.proofs.Common.{ℕ, List, ◌+◌, ◌*◌, map, sym, ◌∙◌, ap, subst, refl}
use Rattle.worlds.specs.declared.step.Effect.{Effect}
use Rattle.worlds.specs.Meaning.{effect_of, outcome_of}
use Rattle.map_bank.specs.declared.row.Row.{Row}
use Rattle.map_bank.proofs.SuccessorLaws.{Puts, puts_none, puts_empty, puts_word}
use Rattle.map_bank.proofs.row.Row.put_outcome.Goals as goal
use Rattle.map_bank.proofs.row.Row.put_outcome.Goals.{then-word-ne0, else-word-ne0}

pub loop-k-init : goal.loop-k-init
loop-k-init c = record {
  same = refl;
  puts = puts_none c.args.from.now.conditions (outcome_of c.args.outcome.now) c.args.from.now.words 0 c.args.self.now.words;
}

pub loop-k-preserved : goal.loop-k-preserved
loop-k-preserved c =
    let n = c.args.from.now.conditions in
    let o = outcome_of c.args.outcome.now in
    let row = c.args.from.now.words in
    let k = c.loop-k.k in
    let old = c.args.self.now.words in
    let mid = c.loop-k.self.words in
    let word = λ (new : List ℕ) (puts : Puts n (map effect_of c.as_slice-effects.result.now) row (64 * k) 64 mid new).
    subst (λ (es : List Effect). Puts n (map effect_of es) row (64 * k) 64 mid new) c.as_slice-effects.ensures puts in
    elim c.if-word-ne0.branch [
      | then-word-ne0 w ↦ record {
        same = ap (λ (r : Row). r.conditions) w.self-is ∙ w.put_word.ensures.conditions ∙ c.loop-k.invariant.same;
        puts = subst (λ (r : Row). Puts n o row 0 (64 * (k + 1)) old r.words) (sym w.self-is)
            (puts_word n o row k old mid w.put_word.new.self.words c.loop-k.invariant.puts (word w.put_word.new.self.words w.put_word.ensures.worlds));
      }
      | else-word-ne0 w ↦ record {
        same = ap (λ (r : Row). r.conditions) w.self-is ∙ c.loop-k.invariant.same;
        puts = subst (λ (r : Row). Puts n o row 0 (64 * (k + 1)) old r.words) (sym w.self-is)
            (puts_word n o row k old mid mid c.loop-k.invariant.puts (puts_empty n o row k mid w.if-word-ne0.false));
      }
    ]
