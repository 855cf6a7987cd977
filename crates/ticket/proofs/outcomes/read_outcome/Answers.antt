use Rattle.std.proofs.Common.{map, Ok, sym, refl, ap, ◌∙◌}
use Rattle.worlds.specs.Meaning.{outcome_of}
use Rattle.worlds.specs.Tickets.{lawful_outcome}
use Rattle.records.specs.Content.{effect_at}
use Rattle.records.specs.Judging.{under_outcome}
use Rattle.ticket.specs.Drafts.{Reads}
use Rattle.ticket.specs.Gathers.{OutcomeRead}
use Rattle.ticket.proofs.Readings.{under_node}
use Rattle.ticket.proofs.outcomes.read_outcome.Goals as goal

pub returns : goal.returns
returns c =
    let empty = c.no_effects-outcome.ensures in
    let file = c.below.result.file in
    let read = c.in_ok-gather.ensures under_outcome (record { where_it_is = refl; all = refl; same = empty; lawful = ap (lawful_outcome file.conditions) empty }) in
    under_node c.args.node.now c.below.result c.below.ensures.0 c.below.ensures.1 (λ f n k. Reads f n under_outcome k (λ o. OutcomeRead f n k (outcome_of o)) (Ok c.gather.new.draft))
    (record { same = read.0.same ∙ ap (map (effect_at file.bytes.now)) (sym read.0.all); lawful = read.0.lawful }, read.1)
