-- What it is to gather the records of a chain, one after another.
use Rattle.std.specs.Prelude.{◌≡◌, ℕ, List, [], ◌∷◌, ◌++◌, Some, None, Ok, Err, Option, Result}
use Rattle.records.specs.declared.refusal.Refusal.{Refusal}
use Rattle.records.specs.Layout.{part, kind, below}
use Rattle.records.specs.Content.{chain}
use Rattle.records.specs.Judging.{Place, Judged, record_fault, under}

-- neither record k nor anything under it is at fault
pub record Sound (f : List ℕ) (n : ℕ) (place : Place) (earlier : List ℕ) (k : ℕ) : Type 0 where
  pub itself : record_fault f n place earlier k ≡ None
  pub chain_under : Judged f n (under (kind (part f k)) earlier) k [] (below (part f k)) None

-- what adding record k to a draft that holds the records `earlier` answers: nothing is at fault and the draft holds k
-- too, as `is` says of some records, or the first fault
abbrev pub Added : List ℕ → ℕ → Place → List ℕ → ℕ → (List ℕ → Type 0) → Result (Unit {0}) Refusal → Type 0
Added f n place earlier k is (Ok x) = Sound f n place earlier k × is (earlier ++ k ∷ [])
Added f n place earlier k is (Err r) = (above : ℕ) → Judged f n place above earlier k (Some r)

-- what gathering the chain from record k answers: all of it is held and what is left to judge is its end, or the
-- first fault
abbrev pub Gathered : List ℕ → ℕ → Place → ℕ → (List ℕ → Type 0) → Result (Unit {0}) Refusal → Type 0
Gathered f n place k is (Ok x) =
    is (chain f k) × ((above : ℕ) (v : Option Refusal) → Judged f n place above (chain f k) 0 v → Judged f n place above [] k v)
Gathered f n place k is (Err r) = (above : ℕ) → Judged f n place above [] k (Some r)

-- what reading the chain from record k into a value answers: the value is what the chain holds, as `is` says, and what is
-- left to judge is the chain's end, or the first fault
abbrev pub Reads : {X : Type 0} → List ℕ → ℕ → Place → ℕ → (X → Type 0) → Result X Refusal → Type 0
Reads f n place k is (Ok x) =
    is x × ((above : ℕ) (v : Option Refusal) → Judged f n place above (chain f k) 0 v → Judged f n place above [] k v)
Reads f n place k is (Err r) = (above : ℕ) → Judged f n place above [] k (Some r)

-- what reading the chain from record k into a value answers, with its end, at a place under the record `above`: the value
-- is what the chain holds, as `is` says, and there is no fault, or the first fault
abbrev pub ReadsWhole : {X : Type 0} → List ℕ → ℕ → Place → ℕ → ℕ → (X → Type 0) → Result X Refusal → Type 0
ReadsWhole f n place above k is (Ok x) = is x × Judged f n place above [] k None
ReadsWhole f n place above k is (Err r) = Judged f n place above [] k (Some r)

-- what reading record k, with all that is under it, into a value answers, after the records `earlier` of its chain: nothing
-- is at fault and the value is as `is` says, or the first fault
abbrev pub ReadsRecord : {X : Type 0} → List ℕ → ℕ → Place → List ℕ → ℕ → (X → Type 0) → Result X Refusal → Type 0
ReadsRecord f n place earlier k is (Ok x) = Sound f n place earlier k × is x
ReadsRecord f n place earlier k is (Err r) = (above : ℕ) → Judged f n place above earlier k (Some r)
