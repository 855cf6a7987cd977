use Rattle.std.proofs.Common.{◌+◌, ◌*◌, ◌≤◌, length, Ok, sym, refl, ap, ◌∙◌, subst, rules}
use Rattle.std.proofs.lemmas.Result.{err_from_is_err_and}
use Rattle.records.specs.Layout.{links_good, next}
use Rattle.ticket.specs.declared.file.File.{File}
use Rattle.ticket.specs.Chains.{Handed}
use Rattle.ticket.specs.Takes.{Takes}
use Rattle.ticket.specs.Drafts.{Added}
use Rattle.ticket.proofs.Walks.{Walked, started, one_more, gathered, broken_link}
use Rattle.ticket.proofs.draft.gather.Goals as goal

pub loop-node-init : goal.loop-node-init
loop-node-init g c = record { same_file = refl; walked = λ place h. started _ _ place _ _ h }

pub returns-in_err-node : goal.returns-in_err-node
returns-in_err-node g c =
    let p = err_from_is_err_and c.from_residual.result c.from_residual.ensures.1 in
    let at = c.loop-node.invariant in
    let fault = c.in_err-node.ensures in
    rw (p.1, p.2)
    (λ place h above. broken_link _ _ place _ _ _ (at.walked place h) fault.0 (ap (λ (x : File). links_good x.bytes.now c.loop-node.chain.place) (sym at.same_file) ∙ fault.1) _ fault.2 above)

pub loop-node-preserved : goal.loop-node-preserved
loop-node-preserved g c =
    let file = c.args.chain.file in
    let f = file.bytes.now in
    let at = c.loop-node.invariant in
    let node = c.in-Some.node in
    let taken = subst (λ o. Takes c.loop-node.chain c.take.new.self (Ok o)) c.in-Some.is c.in_ok-node.ensures in
    let there = taken.0 ∙ at.same_file in
    let handed = subst (λ (x : File). Handed x.bytes.now node.part.number node.part) there node.handed in
    let inside = subst (λ (x : File). 8 * node.part.number + 8 ≤ length x.bytes.now) there node.inside in
    record {
      same_file = search rules;
      walked = λ place h.
          let w = subst (λ k. Walked f file.conditions place c.args.chain.place k (g.D.Draft.holds c.loop-node.draft f file.conditions place)) (sym taken.1) (at.walked place h) in
          let added = subst (λ (x : File). g.D.Draft.holds c.loop-node.draft x.bytes.now x.conditions place w.so_far → Added x.bytes.now x.conditions place w.so_far node.part.number (g.D.Draft.holds c.add.new.self x.bytes.now x.conditions place) (Ok c.in_ok-add.field-0)) there (c.in_ok-add.ensures place w.so_far) w.kept in
          one_more f file.conditions place _ node.part.number _ _ _ w handed.some inside handed.links (taken.3 ∙ ap next handed.bytes) added.0 added.1;
    }

pub returns : goal.returns
returns g c =
    let taken = subst (λ o. Takes c.loop-node.chain c.take.new.self (Ok o)) c.in_default.is c.in_ok-node.ensures in
    λ place h. gathered _ _ place _ _ _ (c.loop-node.invariant.walked place h) taken.0
