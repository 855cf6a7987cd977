use Rattle.std.proofs.Common.{length, zero-add, ap, ◌∙◌, arith, rules}
use Rattle.std.specs.List.{range_with_len}
use Rattle.std.proofs.lemmas.Iterator.{YieldsList-from_range}
use Rattle.std.proofs.lemmas.Iterator.Consumers.{YieldsList-from_filter_map}
use Rattle.std.proofs.lemmas.List.FromFn.{length-range_with_len, get_or-range_with_len}
use Rattle.rounds.specs.Graph.{graph_of}
use Rattle.rounds.specs.Rounds.{best_below, tentative}
use Rattle.rounds.proofs.Chains.{best_of_chain}
use Rattle.rounds.proofs.rounds.Round.best_node.Goals as goal

pub returns : goal.returns
returns g c =
    let size = length c.args.self.now.totals.now in
    let le = g.T.Tally.le in
    let rule = tentative le g.T.Tally.nothing g.T.Tally.add (graph_of c.args.self.now.graph size) c.args.self.now.totals.now in
    best_of_chain le _ rule rule (range_with_len 0 size) c.reduce.ensures.ran
    (YieldsList-from_filter_map _ rule (YieldsList-from_range 0 size size c.filter_map.ensures.source (omega arith)) c.filter_map.ensures.closure (λ x r q k. search rules))
    (λ a x b q k. search rules)
    (λ k d h. ap rule (get_or-range_with_len 0 size k d (omega (arith, h, length-range_with_len 0 size)) ∙ zero-add k))
    ∙ ap (best_below le rule) (length-range_with_len 0 size)
