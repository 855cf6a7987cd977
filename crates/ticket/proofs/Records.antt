-- From what the code tests of a record to the rules of judging.
use Rattle.std.proofs.Common.{◌≡◌, ℕ, ◌<◌, Bool, true, false, cond, not, ◌&&◌, ◌||◌, eqb, leb, List, [], ◌∷◌, ◌++◌, map, length, is_ok, is_some, Some, None, Ok, Err, Option, Result, sym, refl, ap, ◌∙◌, subst, append-nil, arith, length-append}
use lib.ListN.{length-map}
use Rattle.std.proofs.lemmas.List.{map-append}
use Rattle.std.proofs.lemmas.Bool.{cond-true, or_parts, and_parts, and_from, and_left, eqb-true, leb-false, le-leb, not-false}
use Rattle.std.proofs.lemmas.List.Elements.{filter-append}
use Rattle.std.proofs.lemmas.Bool.Decides.{nat_tests}
use Rattle.std.specs.Int.{from_bool}
use Rattle.std.specs.Option.{option_to_list}
use Rattle.worlds.specs.Worlds.{Literal, opposite, has_literal, speaks_within, consistent}
use Rattle.worlds.specs.Tickets.{every, lawful_list}
use Rattle.worlds.proofs.Compatible.{every_snoc, consistent_snoc}
use Rattle.records.specs.declared.part.Part.{Part}
use Rattle.records.specs.declared.kinds.Record.{Record}
use Rattle.records.specs.declared.kinds.Record.TheVariants as shows
use Rattle.records.specs.declared.refusal.Refusal.{Refusal}
use Rattle.records.specs.declared.refusal.Fault.{Fault}
use Rattle.records.specs.declared.refusal.Fault.TheVariants.{Kind, Value, Opposite, Limit}
use Rattle.records.specs.Kinds.{recognised, shown}
use Rattle.records.specs.Layout.{kind, value, below, part, links_good, group}
use Rattle.records.specs.Content.{among, literals_among, literal_at}
use Rattle.ticket.specs.declared.node.Node.{Node}
use Rattle.ticket.specs.Nodes.{Stands}
use Rattle.records.specs.Judging.{Place, room, under, bare, value_good, fault_of, opposed, fault_as, record_fault, Judged, ended, faulty, faulty_below, under_literal, under_list, under_effect, under_outcome, under_action, under_sensing, at_top, verdict}
use Rattle.ticket.specs.Drafts.{Sound, Added}

-- the kind that a record is shown as
abbrev pub tag : Record → ℕ
tag (shows.Term p) = 1
tag (shows.Aim p) = 2
tag (shows.Action p) = 3
tag (shows.Sensing p) = 4
tag (shows.Literal p) = 5
tag (shows.Outcome p) = 6
tag (shows.Effect p) = 7
tag (shows.SensedLiteral p) = 8
tag (shows.Unknown p) = 0

abbrev pub held : Record → Part
held (shows.Term p) = p
held (shows.Aim p) = p
held (shows.Action p) = p
held (shows.Sensing p) = p
held (shows.Literal p) = p
held (shows.Outcome p) = p
held (shows.Effect p) = p
held (shows.SensedLiteral p) = p
held (shows.Unknown p) = p

-- a record is shown with its part, and as its kind
pub shown_held : (kd : ℕ) (p : Part) → held (shown kd p) ≡ p
shown_held kd p = grind (arith, nat_tests)

pub shown_tag : (kd : ℕ) (p : Part) → 0 < tag (shown kd p) → kd ≡ tag (shown kd p)
shown_tag kd p h = grind (arith, nat_tests)

pub held_is : (kd : ℕ) (p : Part) (r : Record) → r ≡ shown kd p → held r ≡ p
held_is kd p r e = ap held e ∙ shown_held kd p

pub shown_kind : (kd : ℕ) (p : Part) (r : Record) → r ≡ shown kd p → 0 < tag r → kd ≡ tag r
shown_kind kd p r e some = shown_tag kd p (subst (λ (x : Record). 0 < tag x) e some) ∙ ap tag (sym e)

-- a part that is not shown as a literal, at a place for literals only
pub not_literal : (p : Part) → ((q : Part) → shown (kind p.bytes.now) p ≡ shows.Literal q → ⊥) → kind p.bytes.now ≡ 5 → ⊥
not_literal p never e = never p (ap (λ d. shown d p) e)

abbrev pub tag_of : Result Record Refusal → ℕ
tag_of (Ok r) = tag r
tag_of (Err e) = 0

-- a record is recognised as its kind
recognised_tag : (kd : ℕ) (p : Part) → 0 < tag_of (recognised kd p) → kd ≡ tag_of (recognised kd p)
recognised_tag kd p h = grind (arith, nat_tests)

pub kind_is : (kd : ℕ) (p : Part) (r s : Record) → Ok r ≡ recognised kd p → r ≡ s → 0 < tag s → kd ≡ tag s
kind_is kd p r s e is some =
    let tags = ap tag (sym is) ∙ ap tag_of e in
    recognised_tag kd p (subst (λ j. 0 < j) tags some) ∙ sym tags

-- what a part of the kind kd is recognised as, if at all
abbrev pub or_else : Record → Result Record Refusal → Record
or_else r (Ok q) = q
or_else r (Err e) = r

abbrev pub as_kind : Part → Record → ℕ → Record
as_kind p r kd = or_else r (recognised kd p)

pub shows_kind : (kd d : ℕ) (p : Part) (r : Record) → Ok r ≡ recognised kd p → kd ≡ d → r ≡ as_kind p r d
shows_kind kd d p r e is = ap (or_else r) e ∙ ap (as_kind p r) is

-- a kind that no record has stands nowhere
unrecognised_is : (kd : ℕ) (p : Part) → tag_of (recognised kd p) ≡ 0 → recognised kd p ≡ Err (record { fault = Kind; «record» = p.number })
unrecognised_is kd p h = grind (arith, nat_tests)

no_room_unrecognised : (place : Place) (kd : ℕ) (p : Part) → tag_of (recognised kd p) ≡ 0 → room place (group kd) ≡ 0
no_room_unrecognised at_top kd p h = grind (arith, nat_tests)
no_room_unrecognised under_list kd p h = grind (arith, nat_tests)
no_room_unrecognised under_action kd p h = grind (arith, nat_tests)
no_room_unrecognised under_sensing kd p h = grind (arith, nat_tests)
no_room_unrecognised under_outcome kd p h = grind (arith, nat_tests)
no_room_unrecognised (under_effect earlier) kd p h = grind (arith, nat_tests)
no_room_unrecognised under_literal kd p h = refl

err_is : {X : Type 0} {r q : Refusal} → ◌≡◌ {A = Result X Refusal} (Err r) (Err q) → r ≡ q
err_is {X} {r} h = ap (fault_or r) h
  where
    fault_or : Refusal → Result X Refusal → Refusal
    fault_or r (Ok x) = r
    fault_or r (Err q) = q

-- no answer is both
some_none : {X : Type 0} {x : X} → ◌≡◌ {A = Option X} (Some x) None → ⊥
some_none h = let z : ◌≡◌ {A = ℕ} 0 1 = cc in omega arith

ok_err : {X Y : Type 0} {x : X} {y : Y} → ◌≡◌ {A = Result X Y} (Ok x) (Err y) → ⊥
ok_err h = let z : ◌≡◌ {A = ℕ} 0 1 = cc in omega arith

-- what a record without fault of its own has passed
pub record Passes (n kd most standing : ℕ) (over : Bool) (r : List ℕ) : Type 0 where
  pub kind_stands : (leb most 0 || (bare kd && not (eqb (below r) 0))) ≡ false
  pub space : leb most standing ≡ false
  pub value_fits : value_good n kd (value r) ≡ true
  pub unopposed : over ≡ false

none_parts : (a b c d : Bool) → cond a (Some Kind) (cond b (Some Limit) (cond (not c) (Some Value) (cond d (Some Opposite) None))) ≡ None → (a ≡ false) × (b ≡ false) × (c ≡ true) × (d ≡ false)
none_parts true b c d h = absurd (some_none h)
none_parts false true c d h = absurd (some_none h)
none_parts false false true true h = absurd (some_none h)
none_parts false false true false h = (refl, refl, refl, refl)
none_parts false false false d h = absurd (some_none h)

pub passes : (n kd most standing : ℕ) (over : Bool) (r : List ℕ) → fault_of n kd most standing over r ≡ None → Passes n kd most standing over r
passes n kd most standing over r h =
    let p = none_parts (leb most 0 || (bare kd && not (eqb (below r) 0))) (leb most standing) (value_good n kd (value r)) over h in
    record { kind_stands = p.0; space = p.1; value_fits = p.2; unopposed = p.3 }

module _ (f : List ℕ) (n : ℕ) (place : Place) (earlier : List ℕ) (k : ℕ) where
  -- the fault of a record of known kind with good links
  pub fault_at : (kd : ℕ) → links_good f k ≡ true → kind (part f k) ≡ kd → record_fault f n place earlier k ≡ fault_of n kd (room place (group kd)) (length (among f (group kd) earlier)) (opposed f earlier kd (part f k)) (part f k)
  fault_at kd links e = ap (fault_as f n place earlier k) e ∙ cond-true (links_good f k) _ _ links

  -- the record's own fault is the answer
  pub itself_faulty : (own : Option Fault) → record_fault f n place earlier k ≡ own → 0 < k → (r : Refusal) → Err r ≡ verdict k own → (above : ℕ) → Judged f n place above earlier k (Some r)
  itself_faulty None h some r v above = absurd (ok_err (sym v))
  itself_faulty (Some x) h some r v above = faulty x some h cc

  pub itself_sound : (own : Option Fault) → record_fault f n place earlier k ≡ own → (u : Unit {0}) → Ok u ≡ verdict k own → own ≡ None
  itself_sound None h u v = refl
  itself_sound (Some x) h u v = absurd (ok_err v)

  -- the fault of a literal, by the literals before it
  pub literal_fault : (most : ℕ) (list : List Literal) → links_good f k ≡ true → kind (part f k) ≡ 5 → room place 5 ≡ most → list ≡ literals_among f earlier → record_fault f n place earlier k ≡ fault_of n 5 most (length list) (has_literal (opposite (value (part f k))) list) (part f k)
  literal_fault most list links e space same =
      let long : length (among f 5 earlier) ≡ length list = sym (ap length same ∙ length-map (among f 5 earlier) (literal_at f)) in
      let back = sym same in
      fault_at 5 links e ∙ (λ i. fault_of n 5 (space i) (long i) (has_literal (opposite (value (part f k))) (back i)) (part f k))

  -- a literal, sensed or not, that has no fault of its own has nothing under it either
  pub bare_sound : (kd most standing : ℕ) (over : Bool) → kind (part f k) ≡ kd → bare kd ≡ true → under kd earlier ≡ under_literal → record_fault f n place earlier k ≡ None → Passes n kd most standing over (part f k) → Sound f n place earlier k
  bare_sound kd most standing over e lone where-under h p =
      let stands = (or_parts (leb most 0) (bare kd && not (eqb (below (part f k)) 0)) p.kind_stands).1 in
      let empty : eqb (below (part f k)) 0 ≡ true = not-false _ (subst (λ b. (b && not (eqb (below (part f k)) 0)) ≡ false) lone stands) in
      record {
        itself = h;
        chain_under = subst (λ q. Judged f n q k [] (below (part f k)) None) (sym (ap (λ d. under d earlier) e ∙ where-under)) (ended (eqb-true _ 0 empty) refl);
      }

module _ (node : Node) (place : Place) (earlier : List ℕ) where
  -- a kind that cannot stand at the place
  pub wrong_kind : room place (group (kind node.part.bytes.now)) ≡ 0 → (r : Refusal) → r ≡ record { fault = Kind; «record» = node.part.number } → (above : ℕ) → Judged node.file.bytes.now node.file.conditions place above earlier node.part.number (Some r)
  wrong_kind none r e above =
      let f = node.file.bytes.now in
      let k = node.part.number in
      let h = node.handed in
      let gone : room place (group (kind (part f k))) ≡ 0 = ap (λ b. room place (group (kind b))) (sym h.bytes) ∙ none in
      let first : (leb (room place (group (kind (part f k)))) 0 || (bare (kind (part f k)) && not (eqb (below (part f k)) 0))) ≡ true = rw gone refl in
      faulty Kind h.some (fault_at f _ place earlier k _ h.links refl ∙ cond-true _ _ _ first) (ap Some e)

  pub unrecognised : (r : Refusal) → Err r ≡ recognised (kind node.part.bytes.now) node.part → (above : ℕ) → Judged node.file.bytes.now node.file.conditions place above earlier node.part.number (Some r)
  unrecognised r e =
      let none = sym (ap tag_of e) in
      wrong_kind (no_room_unrecognised place (kind node.part.bytes.now) node.part none) r (err_is (e ∙ unrecognised_is (kind node.part.bytes.now) node.part none))

-- one record more of a group, or of another
module _ (f : List ℕ) (ks : List ℕ) (k kd : ℕ) (e : kind (part f k) ≡ kd) where
  among_one : (g : ℕ) → among f g (ks ++ k ∷ []) ≡ among f g ks ++ cond (eqb (group kd) g) (k ∷ []) []
  among_one g =
      filter-append (λ j. eqb (group (kind (part f j))) g) ks (k ∷ []) ∙ ap (λ d. among f g ks ++ cond (eqb (group d) g) (k ∷ []) []) e

  pub among_more : (g : ℕ) → eqb (group kd) g ≡ true → among f g (ks ++ k ∷ []) ≡ among f g ks ++ k ∷ []
  among_more g h = among_one g ∙ ap (λ b. among f g ks ++ cond b (k ∷ []) []) h

  pub among_same : (g : ℕ) → eqb (group kd) g ≡ false → among f g (ks ++ k ∷ []) ≡ among f g ks
  among_same g h = among_one g ∙ ap (λ b. among f g ks ++ cond b (k ∷ []) []) h ∙ append-nil (among f g ks)

  pub gathers_more : {X : Type 0} (at : ℕ → X) (g : ℕ) → eqb (group kd) g ≡ true → map at (among f g (ks ++ k ∷ [])) ≡ map at (among f g ks) ++ at k ∷ []
  gathers_more at g h = ap (map at) (among_more g h) ∙ map-append at (among f g ks) (k ∷ [])

  pub gathers_same : {X : Type 0} (at : ℕ → X) (g : ℕ) → eqb (group kd) g ≡ false → map at (among f g (ks ++ k ∷ [])) ≡ map at (among f g ks)
  gathers_same at g h = ap (map at) (among_same g h)

-- a lawful list with one literal more
pub lawful_more : (n most : ℕ) (list : List Literal) (l : Literal) → lawful_list n most list ≡ true → length list < most → speaks_within n l ≡ true → has_literal (opposite l) list ≡ false → lawful_list n most (list ++ l ∷ []) ≡ true
lawful_more n most list l lawful space within none =
    let parts = and_parts (leb (length list) most) (every (speaks_within n) list && consistent list) lawful in
    let inner = and_parts (every (speaks_within n) list) (consistent list) parts.1 in
    and_from _ _
    (le-leb _ most (simp length-append (omega arith)))
    (and_from _ _ (every_snoc (speaks_within n) list l inner.0 within) (consistent_snoc list l inner.1 none))

-- what `push_literal` answers of record k, and does to the list of the literals before it, as the judging of that record
module _ (f : List ℕ) (n : ℕ) (place : Place) (earlier : List ℕ) (k most : ℕ) (list after : List Literal) where
  -- what holds of the longer list
  pub record Longer : Type 0 where
    pub five : kind (part f k) ≡ 5
    pub same : after ≡ literals_among f (earlier ++ k ∷ [])
    pub lawful : lawful_list n most after ≡ true

  abbrev pub own : Option Fault
  own = fault_of n 5 most (length list) (has_literal (opposite (value (part f k))) list) (part f k)

  pub literal_answer : (is : List ℕ → Type 0) (r : Result (Unit {0}) Refusal) → 0 < k → links_good f k ≡ true → kind (part f k) ≡ 5 → room place 5 ≡ most → list ≡ literals_among f earlier → lawful_list n most list ≡ true → r ≡ verdict k own → after ≡ cond (is_ok r) (list ++ value (part f k) ∷ []) list → (Longer → is (earlier ++ k ∷ [])) → Added f n place earlier k is r
  literal_answer is (Err e) some links e5 space same lawful answer items on =
      itself_faulty f n place earlier k own (literal_fault f n place earlier k most list links e5 space same) some e answer
  literal_answer is (Ok u) some links e5 space same lawful answer items on =
      let h = literal_fault f n place earlier k most list links e5 space same in
      let clean = itself_sound f n place earlier k own h u answer in
      let p = passes n 5 most (length list) _ (part f k) clean in (
        bare_sound f n place earlier k 5 most _ _ e5 refl refl (h ∙ clean) p,
        on (record {
          five = e5;
          same = items ∙ ap (λ l. l ++ value (part f k) ∷ []) same ∙ sym (gathers_more f earlier k 5 e5 (literal_at f) 5 refl);
          lawful = subst (λ l. lawful_list n most l ≡ true) (sym items) (lawful_more n most list (value (part f k)) lawful (leb-false most (length list) p.space) p.value_fits p.unopposed);
        }),
      )

-- the same, as the code says it
pub literal_added : (node : Node) (place : Place) (earlier : List ℕ) (most : ℕ) (list after : List Literal) (is : List ℕ → Type 0) (r : Result (Unit {0}) Refusal) → kind node.part.bytes.now ≡ 5 → room place 5 ≡ most → list ≡ literals_among node.file.bytes.now earlier → lawful_list node.file.conditions most list ≡ true → r ≡ verdict node.part.number (fault_of node.file.conditions 5 most (length list) (has_literal (opposite (value node.part.bytes.now)) list) node.part.bytes.now) → after ≡ cond (is_ok r) (list ++ value node.part.bytes.now ∷ []) list → (Longer node.file.bytes.now node.file.conditions place earlier node.part.number most list after → is (earlier ++ node.part.number ∷ [])) → Added node.file.bytes.now node.file.conditions place earlier node.part.number is r
literal_added node place earlier most list after is r five space same lawful answer items on =
    let h = node.handed in
    let bytes = h.bytes in
    literal_answer _ _ place earlier node.part.number most list after is r h.some h.links (ap kind (sym bytes) ∙ five) space same lawful
    (answer ∙ (λ i. verdict node.part.number (fault_of node.file.conditions 5 most (length list) (has_literal (opposite (value (bytes i))) list) (bytes i))))
    (items ∙ (λ i. cond (is_ok r) (list ++ value (bytes i) ∷ []) list))
    on

pub other_group : (kd : ℕ) → (kd ≡ 5 → ⊥) → eqb (group kd) 5 ≡ false
other_group kd h = grind (arith, nat_tests)

-- the list without literals is lawful
pub lawful_none : (n most : ℕ) (list : List Literal) → list ≡ [] → lawful_list n most list ≡ true
lawful_none n most list e = rw e (and_from _ _ (le-leb 0 most (omega arith)) refl)

-- a record with a chain under it, as the code goes about it: first the record by itself, then the chain
module _ (node : Node) (place : Place) (earlier : List ℕ) (kd most standing : ℕ) (s : Stands node place earlier kd most standing) where
  abbrev f : List ℕ
  f = node.file.bytes.now

  abbrev n : ℕ
  n = node.file.conditions

  abbrev k : ℕ
  k = node.part.number

  abbrev bytes : List ℕ
  bytes = node.part.bytes.now

  -- the fault that the code looks for
  abbrev pub sought : Option Fault
  sought = fault_of n (kind bytes) most standing false bytes

  kind_here : kind (part f k) ≡ kd
  kind_here = ap kind (sym node.handed.bytes) ∙ s.kind_is

  sought_is : record_fault f n place earlier k ≡ sought
  sought_is =
      let free : opposed f earlier kd (part f k) ≡ false = and_left _ _ s.no_literal in
      let back = sym s.kind_is in
      let there = sym node.handed.bytes in
      fault_at f n place earlier k kd node.handed.links kind_here ∙ (λ i. fault_of n (back i) (s.space i) (s.count i) (free i) (there i))

  pub own_broke : (r : Refusal) → Err r ≡ verdict k sought → (above : ℕ) → Judged f n place above earlier k (Some r)
  own_broke r v = itself_faulty f n place earlier k sought sought_is node.handed.some r v

  pub own_passed : (u : Unit {0}) → Ok u ≡ verdict k sought → (record_fault f n place earlier k ≡ None) × Passes n kd most standing false bytes
  own_passed u v =
      let clean = itself_sound f n place earlier k sought sought_is u v in
      (sought_is ∙ clean, subst (λ d. Passes n d most standing false bytes) s.kind_is (passes _ _ _ _ _ _ clean))

  -- the chain under it
  pub below_broke : record_fault f n place earlier k ≡ None → (r : Refusal) → Judged f n (under kd earlier) k [] (below bytes) (Some r) → (above : ℕ) → Judged f n place above earlier k (Some r)
  below_broke clean r d above = faulty_below r node.handed.some clean (subst (λ q. Judged f n q k [] (below (part f k)) (Some r)) (ap (λ j. under j earlier) (sym kind_here)) (subst (λ j. Judged f n (under kd earlier) k [] j (Some r)) (ap below node.handed.bytes) d)) refl

  pub below_sound : record_fault f n place earlier k ≡ None → Judged f n (under kd earlier) k [] (below bytes) None → Sound f n place earlier k
  below_sound clean d =
      record {
        itself = clean;
        chain_under = subst (λ q. Judged f n q k [] (below (part f k)) None) (ap (λ j. under j earlier) (sym kind_here)) (subst (λ j. Judged f n (under kd earlier) k [] j None) (ap below node.handed.bytes) d);
      }

-- what kinds cannot stand where
pub no_room_outcome : (kd : ℕ) → (kd ≡ 7 → ⊥) → room under_outcome (group kd) ≡ 0
no_room_outcome kd a = grind (arith, nat_tests)

pub no_room_action : (kd : ℕ) → (kd ≡ 5 → ⊥) → (kd ≡ 6 → ⊥) → room under_action (group kd) ≡ 0
no_room_action kd a b = grind (arith, nat_tests)

pub no_room_sensing : (kd : ℕ) → (kd ≡ 5 → ⊥) → (kd ≡ 8 → ⊥) → room under_sensing (group kd) ≡ 0
no_room_sensing kd a b = grind (arith, nat_tests)

pub no_room_top : (kd : ℕ) → (kd ≡ 1 → ⊥) → (kd ≡ 2 → ⊥) → (kd ≡ 3 → ⊥) → (kd ≡ 4 → ⊥) → room at_top (group kd) ≡ 0
no_room_top kd a b c d = grind (arith, nat_tests)

-- a record that passed leaves room for itself
pub passed_room : (n kd most standing k : ℕ) (r : List ℕ) (u : Unit {0}) → Ok u ≡ verdict k (fault_of n kd most standing false r) → standing < most
passed_room n kd most standing k r u v = leb-false most standing (passes n kd most standing false r (no_fault (fault_of n kd most standing false r) v)).space
  where
    no_fault : (own : Option Fault) → Ok u ≡ verdict k own → own ≡ None
    no_fault None e = refl
    no_fault (Some x) e = absurd (ok_err e)

-- counting what was gathered so far
pub counted : {X Y : Type 0} (f : List ℕ) (g : ℕ) (ks : List ℕ) (at : ℕ → Y) (of : X → Y) (xs : List X) → map of xs ≡ map at (among f g ks) → length (among f g ks) ≡ length xs
counted f g ks at of xs same = sym (length-map (among f g ks) at) ∙ ap length (sym same) ∙ length-map xs of

-- a list without elements
pub nil_from_length : {X : Type 0} (xs : List X) → length xs < 1 → xs ≡ []
nil_from_length [] h = refl
nil_from_length (x ∷ xs) h = absurd (omega arith)

-- a step is an action or a sensing step
pub step_group : (kd : ℕ) → eqb (group kd) 3 ≡ true → (group kd ≡ 3) × (eqb kd 5 ≡ false)
step_group kd h = (eqb-true (group kd) 3 h, grind (arith, nat_tests))

-- how many there are of what may stand once
pub how_many : {X : Type 0} (one : Option X) (there : Bool) (m : ℕ) → there ≡ is_some one → m ≡ from_bool there → m ≡ length (option_to_list one)
how_many None there m e h = h ∙ ap from_bool e
how_many (Some x) there m e h = h ∙ ap from_bool e
