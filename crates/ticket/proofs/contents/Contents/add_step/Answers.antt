use Rattle.std.proofs.Common.{◌≡◌, ◌<◌, true, eqb, [], ◌∷◌, ◌++◌, map, vec_items, Ok, Err, sym, ap, ◌∙◌, subst}
use lib.ListN.{length-map}
use Rattle.std.proofs.lemmas.List.{map-append}
use Rattle.std.proofs.lemmas.Result.{err_from_is_err_and}
use Rattle.worlds.specs.Meaning.{step_of}
use Rattle.worlds.specs.Tickets.{lawful_step}
use Rattle.records.specs.Layout.{kind, group}
use Rattle.ticket.specs.Meaning.{steps_of}
use Rattle.ticket.proofs.Readings.{step_stands, step_record}
use Rattle.ticket.proofs.Tops.{step_added}
use Rattle.ticket.proofs.contents.Contents.add_step.Goals as goal

pub returns-in_err-step : goal.returns-in_err-step
returns-in_err-step g c =
    let p = err_from_is_err_and c.from_residual.result c.from_residual.ensures.1 in
    let node = c.args.node.now in
    rw (p.1, p.2)
    (λ place ks three reads h.
    let f = node.file.bytes.now in
    let stands = step_stands node ks _ _ three h.steps_same (c.len.ensures ∙ c.args.self.now.steps.ok.0) in
    step_added f _ place ks _ _ _ _ h (steps_of c.args.self.now) (Err c.in_err-step.field-0.0) (ap (λ b. eqb (group (kind b)) 3) (sym node.handed.bytes) ∙ ap (λ j. eqb j 3) three)
    (step_record _ node _ (Err c.in_err-step.field-0.0) c.in_err-step.ensures.answer ks three stands reads))

pub returns : goal.returns
returns g c = λ place ks three reads h.
    let node = c.args.node.now in
    let f = node.file.bytes.now in
    let n = node.file.conditions in
    let xs = vec_items c.args.self.now.steps in
    let len = c.len.ensures ∙ c.args.self.now.steps.ok.0 in
    let stands = step_stands node ks _ _ three h.steps_same len in
    let read = step_record _ node _ (Ok c.in_ok-step.step) c.in_ok-step.ensures.answer ks three stands reads in
    step_added f n place ks _ _ _ _ h _ (Ok tt) (ap (λ b. eqb (group (kind b)) 3) (sym node.handed.bytes) ∙ ap (λ j. eqb j 3) three)
    (record {
      sound = read.0;
      longer = ap (map step_of) c.push_reserved.ensures.items ∙ map-append step_of xs (c.in_ok-step.step ∷ []) ∙ ap (λ l. map step_of xs ++ l ∷ []) read.1.0.same;
      lawful = subst (λ l. lawful_step n l ≡ true) read.1.0.same read.1.0.lawful;
      room_left = subst (λ m. m < 32) (len ∙ sym (length-map xs step_of)) read.1.1;
    })
