-- What the contents of a ticket hold while they are gathered.
use Rattle.std.specs.Prelude.{ℕ, List}
use Rattle.records.specs.Judging.{Place}
use Rattle.ticket.specs.declared.contents.Contents.{Contents}
use Rattle.ticket.specs.Gathers.{HoldsTop}
use Rattle.ticket.specs.Meaning.{terms_of, aims_of, steps_of}

-- the contents are just what these records of a chain at this place hold, in a file f of n conditions
abbrev pub HoldsContents : Contents → List ℕ → ℕ → Place → List ℕ → Type 0
HoldsContents d f n place ks = HoldsTop (terms_of d) (aims_of d) (steps_of d) f n place ks
