use Rattle.std.proofs.Common.{◌/◌, ◌<◌, [], length, get_or, ap, ◌∙◌, rules}
use Rattle.records.specs.Layout.{part}
use Rattle.ticket.proofs.Parts.{chunk_is_part}
use Rattle.ticket.proofs.chain_reader.takes.part_at.Goals as goal

pub returns-clause-bytes : goal.returns-clause-bytes
returns-clause-bytes c =
    let f = c.args.file.now in
    let inside : c.from.result < length f / 8 = search rules in
    ap (λ rows. get_or rows c.from.result []) c.as_chunks.ensures.front ∙ chunk_is_part (length f / 8) c.from.result f inside ∙ ap (part f) (search rules)
