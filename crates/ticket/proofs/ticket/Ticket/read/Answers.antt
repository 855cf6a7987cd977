use Rattle.std.proofs.Common.{[], Some, refl, subst, inr}
use Rattle.std.proofs.lemmas.Result.{err_from_is_err_and}
use Rattle.records.specs.Layout.{conditions}
use Rattle.records.specs.Judging.{Judged, at_top}
use Rattle.ticket.proofs.ticket.Ticket.read.Goals as goal

pub returns-in_err-fill : goal.returns-in_err-fill
returns-in_err-fill c =
    let p = err_from_is_err_and c.from_residual-in_err-fill.result c.from_residual-in_err-fill.ensures.1 in
    let f = c.args.file.now in
    let n = c.in_ok-top.top.file.conditions in
    let k = c.in_ok-top.top.place in
    let opened = c.in_ok-top.ensures in
    let r = c.in_err-fill.field-0.0 in
    let there = subst (λ g. Judged g n at_top 0 [] k (Some r)) opened.1 c.in_err-fill.ensures in
    rw (p.1, p.2) (
      (r.fault, refl, inr (opened.0, subst (λ j. Judged f (conditions f) at_top 0 [] j (Some r)) opened.3 (subst (λ m. Judged f m at_top 0 [] k (Some r)) opened.2 there))),
      refl,
    )
