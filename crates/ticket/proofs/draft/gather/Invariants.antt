use Rattle.std.proofs.Common.{◌≡◌, []}
use Rattle.records.specs.Judging.{Place}
use Rattle.ticket.proofs.Walks.{Walked, left}
use Rattle.ticket.proofs.draft.gather.Given as goal

abbrev pub invariant-loop-node : goal.invariant-loop-node
invariant-loop-node g l =
    let f = l.fn.chain.file.bytes.now in
    let n = l.fn.chain.file.conditions in
    record {
      same_file : l.chain.file ≡ l.fn.chain.file;
      walked : (place : Place) → g.D.Draft.holds l.fn.draft f n place [] → Walked f n place l.fn.chain.place l.chain.place (g.D.Draft.holds l.draft f n place);
    }

abbrev pub decreases-loop-node : goal.decreases-loop-node
decreases-loop-node g l = left l.fn.chain.file.bytes.now l.chain.place
