-- Each turn puts what the outcome gives from one more world, if the row has it.
use Rattle.std.proofs.Common.{◌≡◌, ℕ, ◌+◌, ◌*◌, ◌/◌, ◌^◌, ◌<◌, true, map, sym, refl, ◌∙◌, ap, subst, arith}
use Rattle.std.proofs.lemmas.Bool.{and_right}
use Rattle.worlds.specs.Meaning.{effect_of}
use Rattle.worlds.specs.Steps.{after}
use Rattle.map_bank.specs.Numbers.{world_of, in_words}
use Rattle.map_bank.specs.Successors.{Masked}
use Rattle.map_bank.specs.declared.row.Row.{Row}
use Rattle.map_bank.proofs.NumberLaws.{number_lt}
use Rattle.map_bank.proofs.RowLaws.{tidy_below}
use Rattle.map_bank.proofs.SuccessorLaws.{Puts, lawful_ten, lawful_few, after_number, puts_none, puts_world, puts_not}
use Rattle.map_bank.proofs.row.Row.put_word.Goals as goal
use Rattle.map_bank.proofs.row.Row.put_word.Goals.{then-has, else-has}

-- a world that the row has is one of its conditions
inside : (row : Row) (k b : ℕ) → k < 16 → b < 64 → in_words row.words (64 * k + b) ≡ true → 64 * k + b < 2 ^ row.conditions
inside row k b hk hb has = tidy_below row.conditions row.words (64 * k + b) row.tidy (omega arith) has

pub effect_masks-masks-requires : goal.effect_masks-masks-requires
effect_masks-masks-requires c =
    let n = c.args.from.now.conditions in
    (lawful_ten n (map effect_of c.args.effects.now) c.args.from.now.few c.requires.2, lawful_few n c.args.effects.now c.requires.2, c.requires.1)

pub loop-b-init : goal.loop-b-init
loop-b-init c = record {
  same = refl;
  puts = puts_none c.args.from.now.conditions (map effect_of c.args.effects.now) c.args.from.now.words (64 * c.args.k) c.args.self.now.words;
}

pub world_after-requires : goal.world_after-requires
world_after-requires c =
    let n = c.args.from.now.conditions in
    let word : c.args.k ≡ (64 * c.args.k + c.loop-b.b) / 64 = omega arith in (
      lawful_ten n (map effect_of c.args.effects.now) c.args.from.now.few c.requires.2,
      lawful_few n c.args.effects.now c.requires.2,
      subst (λ (k : ℕ). Masked k c.args.effects.now c.effect_masks-masks.result) word c.effect_masks-masks.ensures,
    )

pub put-requires : goal.put-requires
put-requires c =
    let n = c.args.from.now.conditions in
    let effects = c.args.effects.now in
    let world = 64 * c.args.k + c.loop-b.b in
    let is = after_number n world c.world_after.result effects c.args.from.now.few c.requires.2 (inside c.args.from.now c.args.k c.loop-b.b c.requires.1 c.loop-b-test.true (sym c.if-has.ensures)) c.world_after.ensures in
    subst (λ (m : ℕ). c.world_after.result < 2 ^ m) (sym (c.loop-b.invariant.same ∙ c.requires.0))
    (subst (λ (x : ℕ). x < 2 ^ n) (sym is) (number_lt n (after n (map effect_of effects) (world_of n world))))

pub loop-b-preserved : goal.loop-b-preserved
loop-b-preserved c =
    let n = c.args.from.now.conditions in
    let effects = c.args.effects.now in
    let o = map effect_of effects in
    let row = c.args.from.now.words in
    let start = 64 * c.args.k in
    let b = c.loop-b.b in
    let old = c.args.self.now.words in
    let mid = c.loop-b.self.words in
    elim c.if-has.branch [
      | then-has w ↦
          let below = inside c.args.from.now c.args.k b c.requires.1 c.loop-b-test.true (sym w.if-has.ensures) in
          let is = after_number n (start + b) w.world_after.result effects c.args.from.now.few c.requires.2 below w.world_after.ensures in
          record {
            same = ap (λ (r : Row). r.conditions) w.self-is ∙ w.put.ensures.conditions ∙ c.loop-b.invariant.same;
            puts = subst (λ (r : Row). Puts n o row start (b + 1) old r.words) (sym w.self-is)
                (puts_world n o row start b w.world_after.result old mid w.put.new.self.words c.loop-b.invariant.puts below (sym w.if-has.ensures) is w.put.ensures.worlds);
          }
      | else-has w ↦ record {
        same = ap (λ (r : Row). r.conditions) w.self-is ∙ c.loop-b.invariant.same;
        puts = subst (λ (r : Row). Puts n o row start (b + 1) old r.words) (sym w.self-is)
            (puts_not n o row start b old mid c.loop-b.invariant.puts (and_right _ (in_words row (start + b)) (sym w.if-has.ensures)));
      }
    ]
