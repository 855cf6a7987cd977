use Rattle.std.proofs.Common.{Ok}
use Rattle.worlds.specs.Meaning.{listed}
use Rattle.ticket.specs.Drafts.{Reads}
use Rattle.ticket.specs.Gathers.{ListRead}
use Rattle.ticket.proofs.Records.{lawful_none}
use Rattle.ticket.proofs.Readings.{under_node}
use Rattle.ticket.proofs.literals.read_literals.Goals as goal

pub returns : goal.returns
returns g c = λ place only.
    let read = c.in_ok-gather.ensures place (record { only = only; same = c.none-list.ensures; lawful = lawful_none _ _ _ c.none-list.ensures }) in
    under_node c.args.node.now c.below.result c.below.ensures.0 c.below.ensures.1 (λ f n k. Reads f n place k (λ list. ListRead g.row.N f n k (listed list)) (Ok c.gather.new.draft))
    (record { same = read.0.same; lawful = read.0.lawful }, read.1)
