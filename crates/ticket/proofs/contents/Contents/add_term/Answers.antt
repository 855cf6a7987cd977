use Rattle.std.proofs.Common.{◌≡◌, ◌<◌, true, [], ◌∷◌, ◌++◌, map, vec_items, Ok, Err, sym, refl, ap, ◌∙◌, subst}
use lib.ListN.{length-map}
use Rattle.std.proofs.lemmas.List.{map-append}
use Rattle.std.proofs.lemmas.Result.{err_from_is_err_and}
use Rattle.worlds.specs.Meaning.{listed}
use Rattle.worlds.specs.Tickets.{lawful_list}
use Rattle.records.specs.Layout.{kind, below}
use Rattle.records.specs.Content.{list_at, literals_from}
use Rattle.records.specs.Judging.{at_top}
use Rattle.ticket.specs.Gathers.{ListRead}
use Rattle.ticket.specs.Meaning.{terms_of}
use Rattle.ticket.specs.Nodes.{Stands}
use Rattle.ticket.proofs.Records.{counted}
use Rattle.ticket.proofs.Readings.{record_read}
use Rattle.ticket.proofs.Tops.{term_added}
use Rattle.ticket.proofs.contents.Contents.add_term.Goals as goal

pub returns-in_err-term : goal.returns-in_err-term
returns-in_err-term c =
    let p = err_from_is_err_and c.from_residual.result c.from_residual.ensures.1 in
    let node = c.args.node.now in
    rw (p.1, p.2)
    (λ place ks e h.
    let f = node.file.bytes.now in
    let stands : Stands node at_top ks 1 256 c.len.result = record { kind_is = e; space = refl; count = counted f 1 ks (list_at f) listed _ h.terms_same ∙ sym (c.len.ensures ∙ c.args.self.now.terms.ok.0); no_literal = refl } in
    term_added f _ place ks _ _ _ _ h (terms_of c.args.self.now) (Err c.in_err-term.field-0.0) (ap kind (sym node.handed.bytes) ∙ e)
    (record_read _ node 256 _ (Err c.in_err-term.field-0.0) c.in_err-term.ensures.answer at_top ks 1 stands (λ list. ListRead 32 f node.file.conditions (below node.part.bytes.now) (listed list)) (λ w r. r _ (λ g. refl)) (λ f ls n above. refl)))

pub returns : goal.returns
returns c = λ place ks e h.
    let node = c.args.node.now in
    let f = node.file.bytes.now in
    let n = node.file.conditions in
    let xs = vec_items c.args.self.now.terms in
    let len = c.len.ensures ∙ c.args.self.now.terms.ok.0 in
    let stands : Stands node at_top ks 1 256 c.len.result = record { kind_is = e; space = refl; count = counted f 1 ks (list_at f) listed _ h.terms_same ∙ sym len; no_literal = refl } in
    let read = record_read _ node 256 _ (Ok c.in_ok-term.term) c.in_ok-term.ensures.answer at_top ks 1 stands (λ list. ListRead 32 f node.file.conditions (below node.part.bytes.now) (listed list)) (λ w r. r _ (λ g. refl)) (λ f ls n above. refl) in
    let is = read.1.0.same ∙ ap (λ b. literals_from f (below b)) node.handed.bytes in
    term_added f n place ks _ _ _ _ h _ (Ok tt) (ap kind (sym node.handed.bytes) ∙ e)
    (record {
      sound = read.0;
      longer = ap (map listed) c.push_reserved.ensures.items ∙ map-append listed xs (c.in_ok-term.term ∷ []) ∙ ap (λ l. map listed xs ++ l ∷ []) is;
      lawful = subst (λ l. lawful_list n 32 l ≡ true) is read.1.0.lawful;
      room_left = subst (λ m. m < 256) (len ∙ sym (length-map xs listed)) read.1.1;
    })
