-- Each turn decides one world number of the union of the terms' worlds.
use Rattle.std.proofs.Common.{◌+◌, ◌*◌, ◌%◌, ◌^◌, map, sym, ◌∙◌, subst, ap, arith}
use Rattle.worlds.specs.Meaning.{listed}
use Rattle.map_bank.specs.declared.row.Row.{Row}
use Rattle.map_bank.proofs.RowLaws.{TrimmedTo, lawful_speak, shift_worlds, few_worlds, trimmed_with, trimmed_without, start_worlds}
use Rattle.map_bank.proofs.row.Row.starting.Goals as goal
use Rattle.map_bank.proofs.row.Row.starting.Goals.{then-has, else-has}

pub union_words-union-requires : goal.union_words-union-requires
union_words-union-requires c = lawful_speak c.args.n c.requires.0 (map listed c.args.terms.now) c.requires.1

pub has-requires : goal.has-requires
has-requires c = omega (arith, shift_worlds c.args.n c.requires.0, few_worlds c.args.n c.requires.0)

pub loop-world-preserved : goal.loop-world-preserved
loop-world-preserved c =
    let union = c.union_words-union.result in
    let world = c.loop-world.world in
    elim c.if-has.branch [
      | then-has w ↦ record {
        same = ap (λ (r : Row). r.conditions) w.start-is ∙ w.put.ensures.conditions ∙ c.loop-world.invariant.same;
        trimmed = subst (λ (r : Row). TrimmedTo union r.words (world + 1)) (sym w.start-is)
            (trimmed_with union c.loop-world.start.words w.put.new.self.words world (sym w.if-has.ensures) w.put.ensures.worlds c.loop-world.invariant.trimmed);
      }
      | else-has w ↦ record {
        same = ap (λ (r : Row). r.conditions) w.start-is ∙ c.loop-world.invariant.same;
        trimmed = subst (λ (r : Row). TrimmedTo union r.words (world + 1)) (sym w.start-is)
            (trimmed_without union c.loop-world.start.words world (sym w.if-has.ensures) c.loop-world.invariant.trimmed);
      }
    ]

pub returns : goal.returns
returns c =
    let n = c.args.n in
    let union = c.union_words-union.result in
    let row = c.loop-world.start.words in
    let all : TrimmedTo union row ((1 * 2 ^ n) % 2 ^ 64) = subst (TrimmedTo union row) (omega arith) c.loop-world.invariant.trimmed in
    record {
      conditions = c.loop-world.invariant.same;
      worlds = start_worlds n (map listed c.args.terms.now) union row (c.union_words-union.ensures n c.requires.0)
          (subst (TrimmedTo union row) (shift_worlds n c.requires.0) all);
    }
