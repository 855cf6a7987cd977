-- Each turn adds the worlds that meet the next term.
use Rattle.std.proofs.Common.{◌≡◌, ℕ, ◌<◌, true, List, [], map, length, get_or, sym, ap, ◌∙◌, subst, arith}
use lib.ListN.{length-map}
use Rattle.std.proofs.lemmas.List.{get_or-map}
use Rattle.worlds.specs.Worlds.{Literal, speaks_within}
use Rattle.worlds.specs.Tickets.{every}
use Rattle.worlds.specs.Meaning.{listed}
use Rattle.map_bank.proofs.RowLaws.{MeetWord, joins_first_within, joins_first_more, joins_first_all}
use Rattle.map_bank.proofs.row.union_mask.Goals as goal

-- the literals of the next term
next : {X : Type 0} (f : X → List Literal) (xs : List X) (i : ℕ) (x : X) (list : List Literal) → i < length xs → x ≡ get_or xs i x → list ≡ f x → get_or (map f xs) i [] ≡ list
next f xs i x list h is made = get_or-map f xs i x [] h ∙ ap f (sym is) ∙ sym made

pub meet_mask-mask-requires : goal.meet_mask-mask-requires
meet_mask-mask-requires c =
    let here : get_or (map listed c.args.terms.now) c.loop-term.term-index [] ≡ c.as_slice.result.now =
    next listed c.args.terms.now c.loop-term.term-index c.term-item.result c.as_slice.result.now
    c.loop-term-test.true c.term-item.is c.as_slice.ensures in (
      subst (λ (list : List Literal). every (speaks_within 10) list ≡ true) here
          (joins_first_within c.loop-term.mask c.args.k (map listed c.args.terms.now) c.loop-term.term-index
          (simp length-map (omega arith)) c.loop-term.invariant),
      c.requires.1,
    )

pub loop-term-preserved : goal.loop-term-preserved
loop-term-preserved c =
    let here : get_or (map listed c.args.terms.now) c.loop-term.term-index [] ≡ c.as_slice.result.now =
    next listed c.args.terms.now c.loop-term.term-index c.term-item.result c.as_slice.result.now
    c.loop-term-test.true c.term-item.is c.as_slice.ensures in
    joins_first_more c.loop-term.mask c.meet_mask-mask.result c.args.k (map listed c.args.terms.now) c.loop-term.term-index
    (simp length-map (omega arith)) c.loop-term.invariant
    (subst (λ (list : List Literal). MeetWord list c.args.k c.meet_mask-mask.result) (sym here)
    c.meet_mask-mask.ensures)

pub returns : goal.returns
returns c =
    joins_first_all c.loop-term.mask c.args.k (map listed c.args.terms.now) c.loop-term.term-index
    (simp length-map (omega arith)) c.loop-term.invariant
