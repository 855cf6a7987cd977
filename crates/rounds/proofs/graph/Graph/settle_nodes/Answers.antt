use Rattle.std.proofs.Common.{ℕ, ◌≤◌, cond, Option, None, is_some, sym, ap, ◌∙◌, arith}
use Rattle.std.proofs.lemmas.List.Elements.{All-from_get_or}
use Rattle.std.proofs.lemmas.List.Sums.{sum_by-le}
use Rattle.rounds.proofs.Settling.{part_none, round_within, round_leaves, all_settled, all_full}
use Rattle.rounds.proofs.graph.Graph.settle_nodes.Goals as goal

pub loop-rank-init : goal.loop-rank-init
loop-rank-init g c =
    let one : Option g.row.T-Total.Denot → ℕ = λ t. cond (is_some t) 1 0 in
    let all = All-from_get_or (λ t. one t ≤ 0) c.args.totals.now None (λ i h. let e = ap one (c.requires.clear i h) in omega arith) in
    (part_none c.requires.clear, omega (arith, sum_by-le one 0 c.args.totals.now all))

pub returns-in_default : goal.returns-in_default
returns-in_default g c = all_settled g.met.T.Tally.lawful c.loop-rank.invariant.0 (omega arith) (sym c.in_default.is ∙ c.best_node.ensures)

pub write_down-requires : goal.write_down-requires
write_down-requires g c =
    let within = round_within g.met.T.Tally.lawful c.loop-rank.invariant.0 (omega arith) (sym c.in-Some.is ∙ c.best_node.ensures) in
    (within, omega (arith, within))

pub loop-rank-preserved : goal.loop-rank-preserved
loop-rank-preserved g c =
    let left = round_leaves g.met.T.Tally.lawful c.loop-rank.invariant.0 (omega arith) (sym c.in-Some.is ∙ c.best_node.ensures) (omega arith) c.write_down.ensures.totals c.write_down.ensures.marks in
    (left.0, omega (arith, left.1))

pub returns : goal.returns
returns g c = all_full g.met.T.Tally.lawful c.loop-rank.invariant.0 (omega arith) (omega arith) (omega arith) c.loop-rank.invariant.1
