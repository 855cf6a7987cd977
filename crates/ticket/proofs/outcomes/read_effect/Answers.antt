use Rattle.std.proofs.Common.{true, length, false, Some, sym, refl, ◌∙◌, subst, w16, SFits, rules}
use lib.ListN.{length-map}
use Rattle.std.proofs.lemmas.Result.{err_from_is_err_and}
use Rattle.std.proofs.lemmas.Int.{to_z-of_z}
use Rattle.std.proofs.lemmas.Bool.{leb-false}
use Rattle.worlds.specs.Meaning.{listed, effect_of}
use Rattle.records.specs.Judging.{under_outcome, under_effect, Judged}
use Rattle.ticket.specs.Nodes.{Stands}
use Rattle.ticket.proofs.Records.{own_broke, own_passed, below_broke, below_sound}
use Rattle.ticket.proofs.Effects.{effect_is, effect_lawful, clash_is, ends}
use Rattle.ticket.proofs.outcomes.read_effect.Goals as goal

pub returns-in_err-judged : goal.returns-in_err-judged
returns-in_err-judged c =
    let p = err_from_is_err_and c.from_residual.result c.from_residual.ensures.1 in
    rw (p.1, p.2) (λ ks e count same lawful. own_broke c.args.node.now under_outcome ks 7 4 _ (record { kind_is = e; space = refl; count = count; no_literal = refl }) _ c.in_err-judged.ensures)

pub returns-in_err-read_literals : goal.returns-in_err-read_literals
returns-in_err-read_literals c =
    let p = err_from_is_err_and c.from_residual-in_err-read_literals.result c.from_residual-in_err-read_literals.ensures.1 in
    let node = c.args.node.now in
    rw (p.1, p.2)
    (λ ks e count same lawful.
    let stands : Stands node under_outcome ks 7 4 (length c.args.earlier.now) = record { kind_is = e; space = refl; count = count; no_literal = refl } in
    let passed = own_passed node under_outcome ks 7 4 _ stands _ c.in_ok-judged.ensures in
    let read = c.in_err-read_literals.ensures (under_effect ks) (λ k. refl) in
    below_broke node under_outcome ks 7 4 _ stands passed.0 _ (read _))

pub returns-then-is_clashing : goal.returns-then-is_clashing
returns-then-is_clashing c = λ ks e count same lawful above.
    let node = c.args.node.now in
    let fits : SFits w16 c.value.result = search rules in
    let is = to_z-of_z w16 _ fits ∙ c.value.ensures in
    let stands : Stands node under_outcome ks 7 4 (length c.args.earlier.now) = record { kind_is = e; space = refl; count = count; no_literal = refl } in
    let passed = own_passed node under_outcome ks 7 4 _ stands _ c.in_ok-judged.ensures in
    let read = c.in_ok-read_literals.ensures (under_effect ks) (λ k. refl) in
    let end = ends node ks (listed c.in_ok-read_literals.field-0) _ read.0 is _ same lawful _ passed.1 true (sym c.if-is_clashing.ensures) in
    subst (λ r. Judged node.file.bytes.now node.file.conditions under_outcome above ks node.part.number (Some r)) (sym c.refused.ensures)
    (below_broke node under_outcome ks 7 4 _ stands passed.0 _ (read.1 _ _ end) above)

pub returns : goal.returns
returns c = λ ks e count same lawful.
    let node = c.args.node.now in
    let fits : SFits w16 c.value.result = search rules in
    let is = to_z-of_z w16 _ fits ∙ c.value.ensures in
    let stands : Stands node under_outcome ks 7 4 (length c.args.earlier.now) = record { kind_is = e; space = refl; count = count; no_literal = refl } in
    let passed = own_passed node under_outcome ks 7 4 _ stands _ c.in_ok-judged.ensures in
    let read = c.in_ok-read_literals.ensures (under_effect ks) (λ k. refl) in
    let end = ends node ks (listed c.in_ok-read_literals.field-0) _ read.0 is _ same lawful _ passed.1 false (sym c.if-is_clashing.ensures) in
    record {
      sound = below_sound node under_outcome ks 7 4 _ stands passed.0 (read.1 _ _ end);
      same = effect_is node ks _ _ read.0 is;
      lawful = effect_lawful node ks _ _ read.0 is _ passed.1;
      apart_from = clash_is node ks _ _ read.0 is _ same lawful _ passed.1 ∙ sym c.if-is_clashing.ensures;
      room_left = rw (length-map c.args.earlier.now effect_of) (leb-false 4 _ passed.1.space);
    }
