-- An effect that was read is the one that its record holds, and its clash with an earlier one is the end of its chain.
use Rattle.std.proofs.Common.{◌≡◌, ℕ, Bool, true, false, cond, ◌&&◌, leb, List, [], ◌∷◌, ◌++◌, map, length, ℤ, Some, None, sym, refl, ap, ◌∙◌, subst, arith, length-append}
use lib.ListN.{length-map}
use Rattle.std.proofs.lemmas.Bool.{and_parts, and_from, le-leb}
use Rattle.std.proofs.lemmas.List.{map-append}
use Rattle.worlds.specs.Worlds.{Literal, speaks_within}
use Rattle.worlds.specs.Steps.{Effect, Outcome}
use Rattle.worlds.specs.Tickets.{every, lawful_effect, clashes, apart}
use Rattle.worlds.proofs.Compatible.{every_snoc, apart_snoc}
use Rattle.records.specs.declared.refusal.Fault.TheVariants.{Opposite}
use Rattle.records.specs.Layout.{kind, value, below, part}
use Rattle.worlds.specs.Meaning.{effect_of}
use Rattle.worlds.specs.declared.step.Effect as code_effect
use Rattle.records.specs.Content.{chain, among, literals_from, effect_at}
use Rattle.ticket.specs.declared.node.Node.{Node}
use Rattle.records.specs.Conflicts.{conflicts}
use Rattle.records.specs.Judging.{Place, Judged, ended, under_effect, end_fault, at_record}
use Rattle.ticket.specs.Gathers.{ListRead, HoldsEffects, EffectRead}
use Rattle.records.proofs.Clashes.{conflicts_is}
use Rattle.ticket.proofs.Records.{Passes, among_more}

module _ (node : Node) (ks : List ℕ) (list : List Literal) (result : ℤ) (read : ListRead 4 node.file.bytes.now node.file.conditions (below node.part.bytes.now) list) (is : result ≡ value node.part.bytes.now) where
  abbrev f : List ℕ
  f = node.file.bytes.now

  abbrev n : ℕ
  n = node.file.conditions

  abbrev k : ℕ
  k = node.part.number

  abbrev pub the_effect : Effect
  the_effect = record { conditions = list; result = result }

  pub effect_is : the_effect ≡ effect_at f k
  effect_is =
      let conditions = read.same ∙ ap (λ b. literals_from f (below b)) node.handed.bytes in
      let value-is = is ∙ ap value node.handed.bytes in
      λ i. record { conditions = conditions i; result = value-is i }

  pub effect_lawful : (standing : ℕ) → Passes n 7 4 standing false node.part.bytes.now → lawful_effect n the_effect ≡ true
  effect_lawful standing passed = and_from _ _ read.lawful (subst (λ l. speaks_within n l ≡ true) (sym is) passed.value_fits)

  -- a clash with the earlier effects, told by their literals, is the fault at the end of the effect's chain
  module _ (earlier : Outcome) (same : earlier ≡ map (effect_at f) ks) (lawful : every (lawful_effect n) earlier ≡ true) (standing : ℕ) (passed : Passes n 7 4 standing false node.part.bytes.now) where
    pub clash_is : clashes n earlier the_effect ≡ conflicts earlier the_effect
    clash_is = sym (conflicts_is n earlier the_effect lawful (effect_lawful standing passed))

    pub at_the_end : (b : Bool) → conflicts earlier the_effect ≡ b → end_fault f n (under_effect ks) k (chain f (below node.part.bytes.now)) ≡ cond b (Some Opposite) None
    at_the_end b e =
        let there : clashes n earlier the_effect ≡ clashes n (map (effect_at f) ks) (effect_at f k) = λ i. clashes n (same i) (effect_is i) in
        ap (λ c. cond c (Some Opposite) None) (sym there ∙ clash_is ∙ e)

    pub ends : (b : Bool) → conflicts earlier the_effect ≡ b → Judged f n (under_effect ks) k (chain f (below node.part.bytes.now)) 0 (at_record k (cond b (Some Opposite) None))
    ends b e = ended refl (ap (at_record k) (sym (at_the_end b e)))

-- one effect more
pub effects_more : (f : List ℕ) (n : ℕ) (place : Place) (ks : List ℕ) (k : ℕ) (effects after : Outcome) (e : Effect) → HoldsEffects effects f n place ks → EffectRead f n ks k effects e → kind (part f k) ≡ 7 → after ≡ effects ++ e ∷ [] → HoldsEffects after f n place (ks ++ k ∷ [])
effects_more f n place ks k effects after e h read seven longer =
    let outer = and_parts (leb (length effects) 4) (every (lawful_effect n) effects && apart n effects) h.lawful in
    let inner = and_parts (every (lawful_effect n) effects) (apart n effects) outer.1 in
    let ends = ap (λ d. d ∷ []) read.same in
    let space = read.room_left in
    record {
      where_it_is = h.where_it_is;
      all = among_more f ks k 7 seven 7 refl ∙ ap (λ l. l ++ k ∷ []) h.all;
      same = longer ∙ (λ i. h.same i ++ ends i) ∙ sym (map-append (effect_at f) ks (k ∷ []));
      lawful = rw longer (and_from _ _ (le-leb _ 4 (simp length-append (omega arith))) (and_from _ _ (every_snoc (lawful_effect n) effects e inner.0 read.lawful) (apart_snoc n effects e inner.1 read.apart_from)));
    }

-- what the effects held so far say of a slice with the same elements
module _ (f : List ℕ) (n : ℕ) (place : Place) (ks : List ℕ) (xs slice : List code_effect.Effect) (h : HoldsEffects (map effect_of xs) f n place ks) (e : slice ≡ xs) where
  pub held_count : length (among f 7 ks) ≡ length slice
  held_count = ap length h.all ∙ sym (length-map ks (effect_at f)) ∙ ap length (sym h.same) ∙ length-map xs effect_of ∙ ap length (sym e)

  pub held_same : map effect_of slice ≡ map (effect_at f) ks
  held_same = ap (map effect_of) e ∙ h.same

  pub held_lawful : every (lawful_effect n) (map effect_of slice) ≡ true
  held_lawful =
      let outer = and_parts (leb (length (map effect_of xs)) 4) (every (lawful_effect n) (map effect_of xs) && apart n (map effect_of xs)) h.lawful in
      ap (λ l. every (lawful_effect n) (map effect_of l)) e ∙ (and_parts (every (lawful_effect n) (map effect_of xs)) (apart n (map effect_of xs)) outer.1).0
