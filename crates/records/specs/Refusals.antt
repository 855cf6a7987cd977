-- The number of each fault of a ticket file, and a refusal as users are told of it.
use Rattle.std.specs.Prelude.{ℕ, List, ◌++◌, codes, decimal}
use Rattle.records.specs.declared.refusal.Refusal.{Refusal}
use Rattle.records.specs.declared.refusal.Fault.{Fault}
use Rattle.records.specs.declared.refusal.Fault.TheVariants.{Length, Mark, Conditions, Link, Kind, Value, Opposite, Limit, Missing}

abbrev pub number_of : Fault → ℕ
number_of Length = 1
number_of Mark = 2
number_of Conditions = 3
number_of Link = 4
number_of Kind = 5
number_of Value = 6
number_of Opposite = 7
number_of Limit = 8
number_of Missing = 9

-- the word `ticket`, the number of the fault and the record, between blanks
abbrev pub refusal_words : Refusal → List ℕ
refusal_words r = codes "ticket " ++ (decimal (number_of r.fault) ++ (codes " " ++ decimal r.«record»))
