-- Reading a record and the chain under it is judging them.
use Rattle.std.proofs.Common.{◌≡◌, ℕ, ◌<◌, true, false, cond, eqb, unsigned_abs, ℤ, map, length, List, None, Ok, Err, Result, OnOk, sym, refl, ap, ◌∙◌, subst, arith}
use Rattle.std.specs.Bool.{⊤}
use Rattle.std.proofs.lemmas.Bool.{leb-false}
use Rattle.std.proofs.lemmas.Bool.Decides.{nat_tests}
use Rattle.worlds.specs.declared.step.Step as code_step
use Rattle.worlds.specs.Steps.{Step}
use Rattle.worlds.specs.Meaning.{step_of}
use Rattle.records.specs.declared.refusal.Refusal.{Refusal}
use Rattle.records.specs.Layout.{kind, value, below, group}
use Rattle.records.specs.Content.{chain, among, action_from, sensing_from, step_at}
use Rattle.records.specs.Judging.{Place, at_top, room, fault_of, verdict, value_good, class_good, under, end_fault, at_record, ended}
use Rattle.ticket.specs.declared.chain_reader.ChainReader.{ChainReader}
use Rattle.ticket.specs.declared.file.File.{File}
use Rattle.ticket.specs.declared.node.Node.{Node}
use Rattle.ticket.specs.Drafts.{Reads, ReadsRecord, ReadsWhole}
use Rattle.ticket.specs.Gathers.{StepRead}
use Rattle.ticket.specs.Nodes.{Stands, JudgesBelow, ReadsNode, ReadsStep}
use Rattle.ticket.proofs.Records.{own_broke, own_passed, below_broke, below_sound, counted, step_group}

module _ {X : Type 0} (read : Result X Refusal → Type 0) (node : Node) (most standing : ℕ) where
  abbrev pub judgement : Result (Unit {0}) Refusal
  judgement = verdict node.part.number (fault_of node.file.conditions (kind node.part.bytes.now) most standing false node.part.bytes.now)

  pub broke_itself : (r : Refusal) → Err r ≡ judgement → ReadsNode read node most standing (Err r)
  broke_itself r v place ks kd s judges = own_broke node place ks kd most standing s r v

  pub read_below : (u : Unit {0}) → Ok u ≡ judgement → (v : Result X Refusal) → read v → ReadsNode read node most standing v
  read_below u clean (Err r) answers place ks kd s judges =
      let passed = own_passed node place ks kd most standing s u clean in
      below_broke node place ks kd most standing s passed.0 r (judges (Err r) passed.1.value_fits answers)
  read_below u clean (Ok x) answers place ks kd s judges =
      let passed = own_passed node place ks kd most standing s u clean in (
        below_sound node place ks kd most standing s passed.0 (judges (Ok x) passed.1.value_fits answers).1,
        record { value_fits = passed.1.value_fits; room_left = leb-false most standing passed.1.space; answered = answers },
      )

pub on_ok : {X : Type 0} (v : Result X Refusal) {P : Type 0} → P → OnOk v P
on_ok (Err r) h = tt
on_ok (Ok x) h = h

-- what holds of the chain under a record, by its file and its first record
pub under_node : (node : Node) (c : ChainReader) → c.file ≡ node.file → c.place ≡ below node.part.bytes.now → (is : List ℕ → ℕ → ℕ → Type 0) → is c.file.bytes.now c.file.conditions c.place → is node.file.bytes.now node.file.conditions (below node.part.bytes.now)
under_node node c file place is h =
    subst (λ (x : File). is x.bytes.now x.conditions (below node.part.bytes.now)) file (subst (λ k. is c.file.bytes.now c.file.conditions k) place h)

-- reading a record into what the chain under it holds, where the chain's end is never at fault
module _ {X : Type 0} (read : Result X Refusal → Type 0) (node : Node) (ks : List ℕ) (kd : ℕ) (is : X → Type 0) (reads : (w : Result X Refusal) → read w → Reads node.file.bytes.now node.file.conditions (under kd ks) (below node.part.bytes.now) is w) (end : (f ls : List ℕ) (n above : ℕ) → end_fault f n (under kd ks) above ls ≡ None) where
  judges : JudgesBelow read node ks kd
  judges (Err r) fits a = reads (Err r) a node.part.number
  judges (Ok x) fits a = (tt, (reads (Ok x) a).1 _ _ (ended refl (ap (at_record node.part.number) (sym (end node.file.bytes.now (chain node.file.bytes.now (below node.part.bytes.now)) node.file.conditions node.part.number)))))

pub record_read : {X : Type 0} (read : Result X Refusal → Type 0) (node : Node) (most standing : ℕ) (v : Result X Refusal) → ReadsNode read node most standing v → (place : Place) (ks : List ℕ) (kd : ℕ) → Stands node place ks kd most standing → (is : X → Type 0) → ((w : Result X Refusal) → read w → Reads node.file.bytes.now node.file.conditions (under kd ks) (below node.part.bytes.now) is w) → ((f ls : List ℕ) (n above : ℕ) → end_fault f n (under kd ks) above ls ≡ None) → ReadsRecord node.file.bytes.now node.file.conditions place ks node.part.number (λ x. is x × (standing < most)) v
record_read read node most standing (Err r) h place ks kd s is reads end = h place ks kd s (judges read node ks kd is reads end)
record_read read node most standing (Ok x) h place ks kd s is reads end =
    let p = h place ks kd s (judges read node ks kd is reads end) in
    (p.0, ((reads (Ok x) p.1.answered).0, p.1.room_left))

-- the value of a step that passed is a class
class_of : (n kd : ℕ) (v : ℤ) → group kd ≡ 3 → value_good n kd v ≡ true → class_good v ≡ true
class_of n kd v h e = grind (arith, nat_tests)

-- a step comes after the steps before it
pub step_stands : (node : Node) (ks : List ℕ) (steps : List code_step.Step) (m : ℕ) → group (kind node.part.bytes.now) ≡ 3 → map step_of steps ≡ map (step_at node.file.bytes.now) (among node.file.bytes.now 3 ks) → m ≡ length steps → Stands node at_top ks (kind node.part.bytes.now) 32 m
step_stands node ks steps m three same many =
    let f = node.file.bytes.now in
    record {
      kind_is = refl;
      space = ap (room at_top) three;
      count = ap (λ j. length (among f j ks)) three ∙ counted f 3 ks (step_at f) step_of steps same ∙ sym many;
      no_literal = (step_group (kind node.part.bytes.now) (ap (λ j. eqb j 3) three)).1;
    }

judged_there : {X : Type 0} (f : List ℕ) (n : ℕ) (place : Place) (above k : ℕ) (is : X → Type 0) (v : Result X Refusal) → ReadsWhole f n place above k is v → ReadsWhole f n place above k (λ x. ⊤) v
judged_there f n place above k is (Err r) h = h
judged_there f n place above k is (Ok x) h = (tt, h.1)

abbrev step_is : Node → code_step.Step → Type 0
step_is node s = StepRead node.file.conditions (step_at node.file.bytes.now node.part.number) (step_of s)

-- reading its record gives the step that the record holds
pub step_record : (read : Result code_step.Step Refusal → Type 0) (node : Node) (standing : ℕ) (v : Result code_step.Step Refusal) → ReadsNode read node 32 standing v → (ks : List ℕ) → group (kind node.part.bytes.now) ≡ 3 → Stands node at_top ks (kind node.part.bytes.now) 32 standing → ReadsStep read node → ReadsRecord node.file.bytes.now node.file.conditions at_top ks node.part.number (λ s. step_is node s × (standing < 32)) v
step_record read node standing (Err r) h ks three s reads =
    h at_top ks _ s (λ v fits a. judged_there _ _ _ _ _ (step_is node) v (reads ks v (class_of node.file.conditions (kind node.part.bytes.now) (value node.part.bytes.now) three fits) a))
step_record read node standing (Ok x) h ks three s reads =
    let p = h at_top ks _ s (λ v fits a. judged_there _ _ _ _ _ (step_is node) v (reads ks v (class_of node.file.conditions (kind node.part.bytes.now) (value node.part.bytes.now) three fits) a)) in
    (p.0, ((reads ks (Ok x) (class_of node.file.conditions (kind node.part.bytes.now) (value node.part.bytes.now) three p.1.value_fits) p.1.answered).0, p.1.room_left))

-- the step that a record with these bytes holds, were it of the kind kd
abbrev step_with : List ℕ → List ℕ → ℕ → Step
step_with f bytes kd =
    cond (eqb kd 3)
    (action_from f (unsigned_abs (value bytes)) (chain f (below bytes)))
    (sensing_from f (unsigned_abs (value bytes)) (chain f (below bytes)))

-- a reading of the record of a step, by its kind
pub step_read : (node : Node) (ks : List ℕ) (kd : ℕ) (v : Result code_step.Step Refusal) → kind node.part.bytes.now ≡ kd → ReadsWhole node.file.bytes.now node.file.conditions (under kd ks) node.part.number (below node.part.bytes.now) (λ s. StepRead node.file.conditions (step_with node.file.bytes.now node.part.bytes.now kd) (step_of s)) v → ReadsWhole node.file.bytes.now node.file.conditions (under (kind node.part.bytes.now) ks) node.part.number (below node.part.bytes.now) (step_is node) v
step_read node ks kd v e read =
    let f = node.file.bytes.now in
    let n = node.file.conditions in
    let bytes = node.part.bytes.now in
    let is = ap (step_with f bytes) (sym e) ∙ ap (λ b. step_with f b (kind b)) node.handed.bytes in
    subst (λ d. ReadsWhole f n (under d ks) node.part.number (below bytes) (step_is node) v) (sym e)
    (subst (λ t. ReadsWhole f n (under kd ks) node.part.number (below bytes) (λ s. StepRead n t (step_of s)) v) is read)
