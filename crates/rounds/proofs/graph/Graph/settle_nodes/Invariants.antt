use Rattle.std.proofs.Common.{◌≡◌, length, is_some, count_by}
use Rattle.rounds.specs.Graph.{graph_of}
use Rattle.rounds.proofs.Settling.{Part}
use Rattle.rounds.proofs.graph.Graph.settle_nodes.Given as goal

-- each round settles one node more
abbrev pub invariant-loop-rank : goal.invariant-loop-rank
invariant-loop-rank g l =
    Part g.T.Tally.le g.T.Tally.nothing g.T.Tally.add (graph_of l.self (length l.initial.totals)) l.totals l.marks l.rank
    × (l.rank ≡ count_by is_some l.totals)
