use Rattle.std.proofs.Common.{◌≡◌, ◌<◌, cond, [], ◌∷◌, ◌++◌, map, length, Some, sym, ap, ◌∙◌, subst, lit<}
use lib.ListN.{length-map}
use Rattle.std.proofs.lemmas.List.{map-append}
use Rattle.std.proofs.lemmas.Result.{err_from_is_err_and}
use Rattle.std.proofs.lemmas.Bool.{lt-ltb}
use Rattle.worlds.specs.Meaning.{listed, effect_of}
use Rattle.records.specs.Layout.{kind, group}
use Rattle.records.specs.Judging.{room, Judged}
use Rattle.ticket.specs.Drafts.{Sound}
use Rattle.ticket.specs.Gathers.{HoldsEffects}
use Rattle.ticket.proofs.Records.{wrong_kind, no_room_outcome, kind_is, shows_kind}
use Rattle.ticket.proofs.Effects.{effects_more, held_count, held_same, held_lawful}
use Rattle.ticket.proofs.outcomes.OutcomeDraft.add.Goals as goal

pub returns-in_default : goal.returns-in_default
returns-in_default c = λ place earlier h.
    let node = c.args.node.now in
    let kd = kind node.part.bytes.now in
    let gone = no_room_outcome kd (λ e. c.in_default.not-Effect node.part (shows_kind kd 7 node.part _ c.in_ok-try_from.ensures e)) in
    wrong_kind node place earlier (subst (λ q. room q (group kd) ≡ 0) (sym h.where_it_is) gone) _ c.refused.ensures

pub returns-in_err-effect : goal.returns-in_err-effect
returns-in_err-effect c =
    let p = err_from_is_err_and c.from_residual-in_err-effect.result c.from_residual-in_err-effect.ensures.1 in
    let node = c.args.node.now in
    rw (p.1, p.2)
    (λ place earlier h above.
    let seven = kind_is _ _ _ _ c.in_ok-try_from.ensures c.in-Effect.is (lit< tt) in
    let slice = c.as_slice.ensures in
    subst (λ w. Judged node.file.bytes.now node.file.conditions w above earlier node.part.number (Some c.in_err-effect.field-0.0)) (sym h.where_it_is)
    (c.in_err-effect.ensures earlier seven (held_count _ _ place earlier _ _ h slice) (held_same _ _ place earlier _ _ h slice) (held_lawful _ _ place earlier _ _ h slice) above))

pub returns : goal.returns
returns c = λ place earlier h.
    let node = c.args.node.now in
    let f = node.file.bytes.now in
    let n = node.file.conditions in
    let l = listed c.args.self.now.effects in
    let e = c.in_ok-effect.effect in
    let seven = kind_is _ _ _ _ c.in_ok-try_from.ensures c.in-Effect.is (lit< tt) in
    let slice = c.as_slice.ensures in
    let read = c.in_ok-effect.ensures earlier seven (held_count _ _ place earlier _ _ h slice) (held_same _ _ place earlier _ _ h slice) (held_lawful _ _ place earlier _ _ h slice) in
    let few : length l < 4 = subst (λ m. m < 4) (length-map c.as_slice.result.now effect_of ∙ ap length slice) read.room_left in
    let pushed = c.append.ensures ∙ ap (λ b. cond b (l ++ e ∷ []) l) (lt-ltb _ 4 few) in
    let longer = ap (map effect_of) pushed ∙ map-append effect_of l (e ∷ []) ∙ ap (λ xs. map effect_of xs ++ effect_of e ∷ []) (sym slice) in (
      subst (λ w. Sound f n w earlier node.part.number) (sym h.where_it_is) read.sound,
      effects_more f n place earlier node.part.number _ _ _ (subst (λ xs. HoldsEffects (map effect_of xs) f n place earlier) (sym slice) h) read (ap kind (sym node.handed.bytes) ∙ seven) longer,
    )
