use Rattle.std.proofs.Common.{◌≡◌, ◌<◌, true, [], ◌∷◌, ◌++◌, map, length, Ok, Err, sym, refl, ap, ◌∙◌, subst}
use lib.ListN.{length-map}
use Rattle.std.specs.Option.{option_to_list}
use Rattle.std.proofs.lemmas.Result.{err_from_is_err_and}
use Rattle.worlds.specs.Meaning.{listed}
use Rattle.worlds.specs.Tickets.{lawful_list}
use Rattle.records.specs.Layout.{kind, below}
use Rattle.records.specs.Content.{list_at, literals_from}
use Rattle.records.specs.Judging.{at_top}
use Rattle.ticket.specs.Gathers.{ListRead}
use Rattle.ticket.specs.Meaning.{aims_of}
use Rattle.ticket.specs.Nodes.{Stands}
use Rattle.ticket.proofs.Records.{counted, how_many, nil_from_length}
use Rattle.ticket.proofs.Readings.{record_read}
use Rattle.ticket.proofs.Tops.{aim_added}
use Rattle.ticket.proofs.contents.Contents.add_aim.Goals as goal

pub returns-in_err-aim : goal.returns-in_err-aim
returns-in_err-aim c =
    let p = err_from_is_err_and c.from_residual.result c.from_residual.ensures.1 in
    let node = c.args.node.now in
    rw (p.1, p.2)
    (λ place ks e h.
    let f = node.file.bytes.now in
    let many = how_many c.args.self.now.aim _ _ c.is_some.ensures c.from.ensures in
    let stands : Stands node at_top ks 2 1 c.from.result = record { kind_is = e; space = refl; count = counted f 2 ks (list_at f) listed _ h.aims_same ∙ sym many; no_literal = refl } in
    aim_added f _ place ks _ _ _ _ h (aims_of c.args.self.now) (Err c.in_err-aim.field-0.0) (ap kind (sym node.handed.bytes) ∙ e)
    (record_read _ node 1 _ (Err c.in_err-aim.field-0.0) c.in_err-aim.ensures.answer at_top ks 2 stands (λ list. ListRead 32 f node.file.conditions (below node.part.bytes.now) (listed list)) (λ w r. r _ (λ g. refl)) (λ f ls n above. refl)))

pub returns : goal.returns
returns c = λ place ks e h.
    let node = c.args.node.now in
    let f = node.file.bytes.now in
    let n = node.file.conditions in
    let was = option_to_list c.args.self.now.aim in
    let many = how_many c.args.self.now.aim _ _ c.is_some.ensures c.from.ensures in
    let stands : Stands node at_top ks 2 1 c.from.result = record { kind_is = e; space = refl; count = counted f 2 ks (list_at f) listed _ h.aims_same ∙ sym many; no_literal = refl } in
    let read = record_read _ node 1 _ (Ok c.in_ok-aim.aim) c.in_ok-aim.ensures.answer at_top ks 2 stands (λ list. ListRead 32 f node.file.conditions (below node.part.bytes.now) (listed list)) (λ w r. r _ (λ g. refl)) (λ f ls n above. refl) in
    let is = read.1.0.same ∙ ap (λ b. literals_from f (below b)) node.handed.bytes in
    let few : length was < 1 = subst (λ m. m < 1) many read.1.1 in
    aim_added f n place ks _ _ _ _ h _ (Ok tt) (ap kind (sym node.handed.bytes) ∙ e)
    (record {
      sound = read.0;
      longer = ap (λ l. l ∷ []) is ∙ sym (ap (λ l. map listed l ++ list_at f node.part.number ∷ []) (nil_from_length was few));
      lawful = subst (λ l. lawful_list n 32 l ≡ true) is read.1.0.lawful;
      room_left = subst (λ m. m < 1) (sym (length-map was listed)) few;
    })
