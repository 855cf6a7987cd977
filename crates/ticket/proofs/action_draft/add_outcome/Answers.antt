use Rattle.std.proofs.Common.{◌≡◌, ℕ, ◌<◌, cond, List, [], ◌∷◌, ◌++◌, map, length, Ok, Err, sym, refl, ap, ◌∙◌, subst}
use lib.ListN.{length-map}
use Rattle.std.proofs.lemmas.List.{map-append}
use Rattle.std.proofs.lemmas.Result.{err_from_is_err_and}
use Rattle.std.proofs.lemmas.Bool.{lt-ltb}
use Rattle.worlds.specs.declared.step.Outcome as code_outcome
use Rattle.worlds.specs.Meaning.{listed, outcome_of}
use Rattle.records.specs.Content.{chain, among, effect_at, outcome_at}
use Rattle.records.specs.Layout.{kind, below}
use Rattle.records.specs.Judging.{under_action}
use Rattle.ticket.specs.declared.node.Node.{Node}
use Rattle.ticket.specs.Nodes.{Stands}
use Rattle.ticket.specs.Gathers.{OutcomeRead}
use Rattle.ticket.proofs.Records.{counted}
use Rattle.ticket.proofs.Readings.{record_read}
use Rattle.ticket.proofs.action_draft.add_outcome.Goals as goal

abbrev is : Node → code_outcome.Outcome → Type 0
is node o = OutcomeRead node.file.bytes.now node.file.conditions (below node.part.bytes.now) (outcome_of o)

-- the record comes after the outcomes before it
stands : (node : Node) (ks : List ℕ) (outcomes : List code_outcome.Outcome) (m : ℕ) → kind node.part.bytes.now ≡ 6 → map outcome_of outcomes ≡ map (outcome_at node.file.bytes.now) (among node.file.bytes.now 6 ks) → m ≡ length outcomes → Stands node under_action ks 6 4 m
stands node ks outcomes m e same count =
    record { kind_is = e; space = refl; count = counted node.file.bytes.now 6 ks (outcome_at node.file.bytes.now) outcome_of outcomes same ∙ sym count; no_literal = refl }

pub returns-in_err-outcome : goal.returns-in_err-outcome
returns-in_err-outcome c =
    let p = err_from_is_err_and c.from_residual.result c.from_residual.ensures.1 in
    let node = c.args.node.now in
    rw (p.1, p.2) (λ ks e same. record_read _ node 4 _ (Err c.in_err-outcome.field-0.0) c.in_err-outcome.ensures.answer under_action ks 6 (stands node ks _ _ e same c.len.ensures) (is node) (λ w r. r) (λ f ls n above. refl))

pub returns : goal.returns
returns c = λ ks e same.
    let node = c.args.node.now in
    let f = node.file.bytes.now in
    let l = listed c.args.outcomes.now in
    let o = c.in_ok-outcome.outcome in
    let read = record_read _ node 4 _ (Ok o) c.in_ok-outcome.ensures.answer under_action ks 6 (stands node ks _ _ e same c.len.ensures) (is node) (λ w r. r) (λ f ls n above. refl) in
    let few : length l < 4 = subst (λ m. m < 4) c.len.ensures read.1.1 in
    let pushed = c.append.ensures ∙ ap (λ b. cond b (l ++ o ∷ []) l) (lt-ltb _ 4 few) in
    record {
      sound = read.0;
      last = outcome_of o;
      longer = ap (map outcome_of) pushed ∙ map-append outcome_of l (o ∷ []);
      same = read.1.0.same ∙ ap (λ b. map (effect_at f) (among f 7 (chain f (below b)))) node.handed.bytes;
      lawful = read.1.0.lawful;
      room_left = subst (λ m. m < 4) (sym (length-map l outcome_of)) few;
    }
