use Rattle.std.proofs.Common.{◌≡◌, length, drop, arith, length-take}
use Rattle.std.proofs.lemmas.Slice.{drop-append-drop}
use Rattle.rounds.specs.Graph.{nodes_in}
use Rattle.rounds.proofs.Settling.{settled_before_more}
use Rattle.rounds.proofs.graph.Graph.settle.Goals as goal

pub returns : goal.returns
returns g c =
    let size = c.min-size.result in
    let ts = c.args.totals.now in
    let ms = c.args.marks.now in
    let n = nodes_in c.args.self.now.moves.now c.args.self.now.ends.now ts ms in
    let same : size ≡ n = omega arith in
    let of-totals : length c.settle_nodes.new.totals ≡ size = omega (arith, length-take size ts) in
    let of-marks : length c.settle_nodes.new.marks ≡ size = omega (arith, length-take size ms) in
    record {
      settled =
          settled_before_more g.T.Tally.le g.T.Tally.nothing g.T.Tally.add c.args.self.now (length c.fill.new.self) n c.settle_nodes.new.totals (drop size ts) c.settle_nodes.new.marks (drop size ms) c.settle_nodes.result
          (omega arith) (omega arith) (omega arith) c.settle_nodes.ensures;
      totals_beyond = drop-append-drop size ts c.settle_nodes.new.totals n (omega arith) of-totals;
      marks_beyond = drop-append-drop size ms c.settle_nodes.new.marks n (omega arith) of-marks;
    }
