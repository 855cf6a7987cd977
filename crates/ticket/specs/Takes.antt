-- What a chain reader does.
use Rattle.std.specs.Prelude.{◌≡◌, ℕ, ◌<◌, false, List, Some, None, Ok, Err, Option, Result}
use Rattle.records.specs.declared.refusal.Refusal.{Refusal}
use Rattle.records.specs.declared.refusal.Fault.TheVariants.{Link}
use Rattle.records.specs.Layout.{conditions, top, next, links_good}
use Rattle.records.specs.Judging.{at_record}
use Rattle.records.specs.Answers.{head_fault}
use Rattle.ticket.specs.declared.node.Node.{Node}
use Rattle.ticket.specs.declared.chain_reader.ChainReader.{ChainReader}

-- what opening a file answers: its top chain, or the first fault of record 0
abbrev pub Opens : List ℕ → Result ChainReader Refusal → Type 0
Opens f (Ok c) = (head_fault f ≡ None) × (c.file.bytes.now ≡ f) × (c.file.conditions ≡ conditions f) × (c.place ≡ top f)
Opens f (Err r) = at_record 0 (head_fault f) ≡ Some r

-- what `take` answers, and the reader before and after it, which stays in its file: nothing at place zero, the record at
-- its place, whose links are good, while it goes on to that record's follower, or a fault in the links
abbrev pub Takes : ChainReader → ChainReader → Result (Option Node) Refusal → Type 0
Takes was is (Ok None) = (was.place ≡ 0) × (is.file ≡ was.file)
Takes was is (Ok (Some node)) = (node.file ≡ was.file) × (node.part.number ≡ was.place) × (is.file ≡ was.file) × (is.place ≡ next node.part.bytes.now)
Takes was is (Err r) = (0 < was.place) × (links_good was.file.bytes.now was.place ≡ false) × (r ≡ record { fault = Link; «record» = was.place })
