use Rattle.std.proofs.Common.{◌<◌, false, [], ◌∷◌, length, sym, refl, ap, ◌∙◌, subst, w16, SFits, rules}
use lib.ListN.{length-map}
use Rattle.std.proofs.lemmas.Result.{err_from_is_err_and}
use Rattle.std.proofs.lemmas.Int.{to_z-of_z}
use Rattle.std.proofs.lemmas.Bool.{leb-false}
use Rattle.records.specs.Layout.{value, kind}
use Rattle.records.specs.Content.{among, literal_at}
use Rattle.records.specs.Judging.{under_sensing}
use Rattle.ticket.proofs.Records.{own_broke, own_passed, bare_sound, Passes, nil_from_length, how_many}
use Rattle.ticket.proofs.sensing_draft.add_sensed.Goals as goal

pub returns-in_err-judged : goal.returns-in_err-judged
returns-in_err-judged c =
    let p = err_from_is_err_and c.from_residual.result c.from_residual.ensures.1 in
    let node = c.args.node.now in
    let f = node.file.bytes.now in
    rw (p.1, p.2)
    (λ ks e same.
    let count = sym (length-map (among f 8 ks) (literal_at f)) ∙ ap length (sym same) ∙ sym (how_many _ _ _ c.is_some.ensures c.from.ensures) in
    own_broke node under_sensing ks 8 1 _ (record { kind_is = e; space = refl; count = count; no_literal = refl }) _ c.in_err-judged.ensures)

pub returns : goal.returns
returns c = λ ks e same.
    let node = c.args.node.now in
    let f = node.file.bytes.now in
    let n = node.file.conditions in
    let bytes = node.handed.bytes in
    let count = sym (length-map (among f 8 ks) (literal_at f)) ∙ ap length (sym same) ∙ sym (how_many _ _ _ c.is_some.ensures c.from.ensures) in
    let passed = own_passed node under_sensing ks 8 1 _ (record { kind_is = e; space = refl; count = count; no_literal = refl }) _ c.in_ok-judged.ensures in
    let here = subst (λ b. Passes n 8 1 c.from.result false b) bytes passed.1 in
    let fits : SFits w16 c.value.result = search rules in
    let none : length (among f 8 ks) < 1 = subst (λ m. m < 1) (sym count) (leb-false 1 _ here.space) in
    record {
      sound = bare_sound f n under_sensing ks _ 8 1 _ _ (ap kind (sym bytes) ∙ e) refl refl passed.0 here;
      only = ap (λ l. l ∷ []) (to_z-of_z w16 _ fits ∙ c.value.ensures ∙ ap value bytes);
      first = nil_from_length _ none;
      within = here.value_fits;
    }
