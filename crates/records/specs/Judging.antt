-- How a file is judged: each record, next the chain under it, next its follower; the first fault is the answer.
use Rattle.std.specs.Prelude.{◌≡◌, ℕ, ◌<◌, Bool, false, cond, not, ◌&&◌, ◌||◌, List, [], ◌∷◌, ◌++◌, map, length, ℤ, pos, negsuc, Some, None, Ok, Err, Option, Result, ◌==◌, nat_le, nat_lt}
use Rattle.worlds.specs.Worlds.{opposite, speaks_within, has_literal}
use Rattle.worlds.specs.Tickets.{clashes}
use Rattle.records.specs.declared.refusal.Refusal.{Refusal}
use Rattle.records.specs.declared.refusal.Fault.{Fault}
use Rattle.records.specs.declared.refusal.Fault.TheVariants.{Link, Kind, Value, Opposite, Limit, Missing}
use Rattle.records.specs.Layout.{kind, value, below, next, part, links_good, group}
use Rattle.records.specs.Content.{among, literals_among, effect_at}

-- where a chain stands: the top chain, or the chain under a record of some kind. Under an effect it is also told which
-- effects stand before that one in its outcome
pub data Place : Type 0 where
  at_top : Place
  under_list : Place
  under_action : Place
  under_sensing : Place
  under_outcome : Place
  under_effect : (earlier : List ℕ) → Place
  under_literal : Place

-- the place of the chain under a record of kind kd: under a term (1) or an aim (2) stands a list of literals
abbrev pub under : ℕ → List ℕ → Place
under kd earlier =
    cond (kd == 3) under_action (cond (kd == 4) under_sensing (cond (kd == 6) under_outcome
    (cond (kd == 7) (under_effect earlier) (cond (kd == 1 || kd == 2) under_list under_literal))))

-- how many records of a group may stand in a chain; none, where the kind cannot stand there.
-- Kinds: 1 term, 2 aim, 3 action and 4 sensing (the group 3), 5 literal, 6 outcome, 7 effect, 8 sensed literal
abbrev pub room : Place → ℕ → ℕ
room at_top g = cond (g == 1) 256 (cond (g == 2) 1 (cond (g == 3) 32 0))
room under_list g = cond (g == 5) 32 0
room under_action g = cond (g == 5) 32 (cond (g == 6) 4 0)
room under_sensing g = cond (g == 5) 32 (cond (g == 8) 1 0)
room under_outcome g = cond (g == 7) 4 0
room (under_effect earlier) g = cond (g == 5) 4 0
room under_literal g = 0

-- a class is 0 to 255
abbrev pub class_good : ℤ → Bool
class_good (pos v) = nat_lt v 256
class_good (negsuc m) = false

abbrev pub is_zero : ℤ → Bool
is_zero (pos v) = v == 0
is_zero (negsuc m) = false

-- whether a record's value is one that its kind may have: 0 for a term, an aim and an outcome; a class for a step;
-- a literal of a condition 1 to n for the others
abbrev pub value_good : ℕ → ℕ → ℤ → Bool
value_good n kd v =
    cond (kd == 1 || (kd == 2 || kd == 6)) (is_zero v) (cond (kd == 3 || kd == 4) (class_good v) (speaks_within n v))

-- a literal, sensed or not, has no chain under it
abbrev pub bare : ℕ → Bool
bare kd = kd == 5 || kd == 8

-- the fault of a record r of kind kd, in a chain with room for so many of its group, of which so many stand before it
abbrev pub fault_of : ℕ → ℕ → ℕ → ℕ → Bool → List ℕ → Option Fault
fault_of n kd most standing contradicted r =
    cond (nat_le most 0 || (bare kd && not (below r == 0))) (Some Kind)
    (cond (nat_le most standing) (Some Limit)
    (cond (not (value_good n kd (value r))) (Some Value)
    (cond contradicted (Some Opposite) None)))

-- whether r is a literal whose opposite is among the literals before it in its chain
abbrev pub opposed : List ℕ → List ℕ → ℕ → List ℕ → Bool
opposed f earlier kd r = kd == 5 && has_literal (opposite (value r)) (literals_among f earlier)

abbrev pub fault_as : List ℕ → ℕ → Place → List ℕ → ℕ → ℕ → Option Fault
fault_as f n place earlier k kd =
    cond (links_good f k)
    (fault_of n kd (room place (group kd)) (length (among f (group kd) earlier)) (opposed f earlier kd (part f k)) (part f k))
    (Some Link)

-- the first fault of record k itself, standing in a chain at a place after the records `earlier`
abbrev pub record_fault : List ℕ → ℕ → Place → List ℕ → ℕ → Option Fault
record_fault f n place earlier k = fault_as f n place earlier k (kind (part f k))

-- whether none of some records is of a group
abbrev pub lacks : List ℕ → ℕ → List ℕ → Bool
lacks f g ks = length (among f g ks) == 0

-- the fault at the end of a chain with the records ks, which is answered at the record above it: something that must be
-- there is missing, or an effect clashes with an earlier one
abbrev pub end_fault : List ℕ → ℕ → Place → ℕ → List ℕ → Option Fault
end_fault f n at_top above ks = cond (lacks f 1 ks || lacks f 2 ks) (Some Missing) None
end_fault f n under_list above ks = None
end_fault f n under_action above ks = cond (lacks f 6 ks) (Some Missing) None
end_fault f n under_sensing above ks = cond (lacks f 8 ks) (Some Missing) None
end_fault f n under_outcome above ks = None
end_fault f n (under_effect earlier) above ks = cond (clashes n (map (effect_at f) earlier) (effect_at f above)) (Some Opposite) None
end_fault f n under_literal above ks = None

-- a fault, if any, at a record
abbrev pub at_record : ℕ → Option Fault → Option Refusal
at_record k None = None
at_record k (Some x) = Some (record { fault = x; «record» = k })

-- the answer at record k where its own fault, if any, is this
abbrev pub verdict : ℕ → Option Fault → Result (Unit {0}) Refusal
verdict k None = Ok tt
verdict k (Some x) = Err (record { fault = x; «record» = k })

-- Judged f n place above earlier k v: in a file f of n conditions, judging a chain at a place under the record `above`
-- from record k on, after the records `earlier` of that chain, answers v: no fault, or the first one
pub data Judged (f : List ℕ) (n : ℕ) : Place → ℕ → List ℕ → ℕ → Option Refusal → Type 0 where
  -- zero ends the chain
  ended : {place : Place} {above : ℕ} {earlier : List ℕ} {k : ℕ} {v : Option Refusal} → k ≡ 0 → v ≡ at_record above (end_fault f n place above earlier) → Judged f n place above earlier k v
  -- the record itself is at fault
  faulty : {place : Place} {above : ℕ} {earlier : List ℕ} {k : ℕ} {v : Option Refusal} (x : Fault) → 0 < k → record_fault f n place earlier k ≡ Some x → v ≡ at_record k (Some x) → Judged f n place above earlier k v
  -- the record is not, but something in the chain under it is
  faulty_below : {place : Place} {above : ℕ} {earlier : List ℕ} {k : ℕ} {v : Option Refusal} (r : Refusal) → 0 < k → record_fault f n place earlier k ≡ None → Judged f n (under (kind (part f k)) earlier) k [] (below (part f k)) (Some r) → v ≡ Some r → Judged f n place above earlier k v
  -- neither is: its follower is next
  onward : {place : Place} {above : ℕ} {earlier : List ℕ} {k : ℕ} {v : Option Refusal} → 0 < k → record_fault f n place earlier k ≡ None → Judged f n (under (kind (part f k)) earlier) k [] (below (part f k)) None → Judged f n place above (earlier ++ k ∷ []) (next (part f k)) v → Judged f n place above earlier k v
