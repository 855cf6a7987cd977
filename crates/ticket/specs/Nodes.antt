-- What it is to read a record and the chain under it.
use Rattle.std.specs.Prelude.{◌≡◌, ℕ, ◌<◌, true, false, List, length, Ok, Result, ◌==◌, ⊤}
use Rattle.records.specs.declared.refusal.Refusal.{Refusal}
use Rattle.records.specs.Layout.{kind, value, below, group}
use Rattle.records.specs.Content.{among, step_at}
use Rattle.records.specs.Judging.{Place, class_good, room, under, value_good}
use Rattle.ticket.specs.declared.node.Node.{Node}
use Rattle.worlds.specs.declared.step.Step as code_step
use Rattle.worlds.specs.Meaning.{step_of}
use Rattle.ticket.specs.Drafts.{ReadsRecord, ReadsWhole}
use Rattle.ticket.specs.Gathers.{StepRead}

-- a record of the kind kd, which is not a literal, comes after the records ks in a chain at this place, which has room for
-- `most` of its group, of which so many stand among ks
pub record Stands (node : Node) (place : Place) (ks : List ℕ) (kd most standing : ℕ) : Type 0 where
  pub kind_is : kind node.part.bytes.now ≡ kd
  pub space : room place (group kd) ≡ most
  pub count : length (among node.file.bytes.now (group kd) ks) ≡ standing
  pub no_literal : (kd == 5) ≡ false

-- whatever a reading of the record may answer, as `read` says, is what judging the chain under it answers, given a value
-- that the record's kind may have
abbrev pub JudgesBelow : {X : Type 0} → (Result X Refusal → Type 0) → Node → List ℕ → ℕ → Type 0
JudgesBelow {X} read node ks kd =
    (v : Result X Refusal) → value_good node.file.conditions kd (value node.part.bytes.now) ≡ true → read v → ReadsWhole node.file.bytes.now node.file.conditions (under kd ks) node.part.number (below node.part.bytes.now) (λ x. ⊤) v

-- the record passed, and was read into x
pub record Past {X : Type 0} (read : Result X Refusal → Type 0) (node : Node) (kd most standing : ℕ) (x : X) : Type 0 where
  pub value_fits : value_good node.file.conditions kd (value node.part.bytes.now) ≡ true
  pub room_left : standing < most
  pub answered : read (Ok x)

-- what judging a record by itself, and next such a reading, answers
abbrev pub ReadsNode : {X : Type 0} → (Result X Refusal → Type 0) → Node → ℕ → ℕ → Result X Refusal → Type 0
ReadsNode read node most standing v =
    (place : Place) (ks : List ℕ) (kd : ℕ) → Stands node place ks kd most standing → JudgesBelow read node ks kd → ReadsRecord node.file.bytes.now node.file.conditions place ks node.part.number (Past read node kd most standing) v

-- whatever a reading answers of a record with a class is the step that the record holds, or the first fault
abbrev pub ReadsStep : (Result code_step.Step Refusal → Type 0) → Node → Type 0
ReadsStep read node =
    let f = node.file.bytes.now in
    let n = node.file.conditions in
    let r = node.part.bytes.now in
    (ks : List ℕ) (v : Result code_step.Step Refusal) → class_good (value r) ≡ true → read v → ReadsWhole f n (under (kind r) ks) node.part.number (below r) (λ s. StepRead n (step_at f node.part.number) (step_of s)) v
