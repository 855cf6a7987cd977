use Rattle.std.proofs.lemmas.Result.{err_from_is_err_and}
use Rattle.records.specs.Layout.{kind}
use Rattle.ticket.proofs.Readings.{broke_itself, read_below, on_ok}
use Rattle.ticket.proofs.Records.{passed_room}
use Rattle.ticket.proofs.node.Node.read.Goals as goal

pub returns-in_err-judged : goal.returns-in_err-judged
returns-in_err-judged g c =
    let p = err_from_is_err_and c.from_residual.result c.from_residual.ensures.1 in
    record { answer = rw (p.1, p.2) (broke_itself _ _ _ _ _ c.in_err-judged.ensures); room = rw p.1 tt }

pub returns : goal.returns
returns g c =
    let node = c.args.self.now in
    record {
      answer = read_below _ _ _ _ _ c.in_ok-judged.ensures _ c.read.ensures;
      room = on_ok c.read.result (passed_room node.file.conditions (kind node.part.bytes.now) c.args.room c.args.standing node.part.number node.part.bytes.now _ c.in_ok-judged.ensures);
    }
