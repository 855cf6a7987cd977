use Rattle.std.proofs.Common.{◌≡◌, ℕ, ◌<◌, true, false, eqb, length, sym, refl, ap, arith}
use Rattle.std.proofs.lemmas.Bool.{or_parts, eqb-false}
use Rattle.records.specs.Judging.{at_top, ended, at_record}
use Rattle.ticket.specs.Meaning.{terms_of, aims_of}
use Rattle.ticket.proofs.Tops.{holds_none, top_ends}
use Rattle.ticket.proofs.contents.Contents.fill.Goals as goal

not_none : (m : ℕ) → eqb m 0 ≡ false → 0 < m
not_none m e = let ne = eqb-false m 0 e in omega arith

pub returns-then-is_incomplete : goal.returns-then-is_incomplete
returns-then-is_incomplete c =
    let read = c.in_ok-gather.ensures at_top (holds_none _ _ _ _ _ c.clear.ensures.0 c.clear.ensures.1 c.clear.ensures.2) in
    read.1 _ _ (ended refl (ap (at_record 0) (sym (top_ends _ _ _ _ _ _ read.0 true (sym c.if-is_incomplete.ensures)))))

pub returns : goal.returns
returns c =
    let read = c.in_ok-gather.ensures at_top (holds_none _ _ _ _ _ c.clear.ensures.0 c.clear.ensures.1 c.clear.ensures.2) in
    let d = c.gather.new.draft in
    let has = sym c.if-is_incomplete.ensures in
    let parts = or_parts (eqb (length (terms_of d)) 0) (eqb (length (aims_of d)) 0) has in
    record {
      holds = read.0;
      some_term = not_none _ parts.0;
      some_aim = not_none _ parts.1;
      faultless = read.1 _ _ (ended refl (ap (at_record 0) (sym (top_ends _ _ _ _ _ _ read.0 false has))));
    }
