-- No procedure that surely reaches the aim has a total below the floor.
-- Assumes nothing.
use Rattle.std.proofs.Common.{◌≡◌, ℕ, Bool, true, false, not, ◌||◌, List, Some, None, Option, sym, refl, ap, ◌∙◌, subst, inl, inr}
use Rattle.std.proofs.lemmas.Bool.{cases_Bool, not_from_true, not-false, and_from, or_left, or_parts, cond-false}
use Rattle.worlds.specs.Worlds.{World, Literal, some_world}
use Rattle.worlds.specs.Steps.{Outcome, Step, action, sensing}
use Rattle.worlds.specs.Tickets.{Ticket, step_at}
use Rattle.worlds.specs.Sets.{Worlds, none_in, all_meet, successor, side}
use Rattle.tally.specs.Laws.{Laws}
use Rattle.theory.specs.Procedures.{Belief, Procedure, empty, act, sense, Acts, Senses, Sure, Surely, branch_total, action_total, sensing_total, total}
use Rattle.theory.specs.Bounds.{end, by_action, by_sensing, way_total, FloorWay, aim_set, OpenStep}
use Rattle.theory.specs.Theorems.{SureIsCovered, FloorIsNotAboveSure}
use Rattle.worlds.proofs.Compatible.{some_world_from}
use Rattle.theory.proofs.Order.{larger_left, larger_right, larger_mono}
use Rattle.theory.proofs.Believed.{all_meet_from, one_unmet, successor_from, side_from, other_value, other_side}

-- ## What surely reaching the aim asks of a first step

-- an action that is taken in every world of a set has its precondition met there
acts_met : (n : ℕ) (class : ℕ) (precondition : List Literal) (outcomes : List Outcome) (s : Worlds n) (Then : World n → Type 0) → ((w : World n) → s w ≡ true → Acts n (Some (action class precondition outcomes)) w Then) → all_meet n s precondition ≡ true
acts_met n class precondition outcomes s Then taken = all_meet_from n s precondition (λ w within. (taken w within).0)

-- and what comes after is so in every world of the successor
acts_after : (n : ℕ) (class : ℕ) (precondition : List Literal) (outcomes : List Outcome) (s : Worlds n) (Then : World n → Type 0) → ((w : World n) → s w ≡ true → Acts n (Some (action class precondition outcomes)) w Then) → (v : World n) → successor n outcomes s v ≡ true → Then v
acts_after n class precondition outcomes s Then taken v given =
    let from = successor_from n outcomes s v given in
    subst Then from.4 ((taken from.0 from.2).1 from.1 from.3)

-- a set that is equal to one with a world has some world
some_in : (n : ℕ) (s r : Worlds n) (w : World n) → s w ≡ true → r ≡ s → some_world n r ≡ true
some_in n s r w within same =
    subst (λ (u : Worlds n). some_world n u ≡ true) (sym same) (some_world_from n s w within)

module _ {T : Type 0} {le : T → T → Bool} {nothing : T} {add : Step → T → T} (laws : Laws le nothing add) where
  -- a procedure for the floor of a set, with a total not above a given one
  abbrev Under : (t : Ticket) → (worked : Belief t → Bool) → Belief t → T → Type 0
  Under t worked s most = (q : FloorWay t worked s) × (le (way_total le nothing add q) most ≡ true)

  -- where the procedure may end, there is one at nothing
  at_once : (t : Ticket) (worked : Belief t → Bool) (s : Belief t) (most : T) → (aim_set t s || not (worked s)) ≡ true → Under t worked s most
  at_once t worked s most ends = (end s ends, laws.least most)

  -- the rest of an action from its successor gives one for the action
  after_action : (t : Ticket) (worked : Belief t → Bool) (s : Belief t) (k : ℕ) (x : Option Step) (rest : Procedure) → step_at t.steps k ≡ x → worked s ≡ true → (w : World t.conditions) → s w ≡ true → ((v : World t.conditions) → s v ≡ true → Acts t.conditions x v (λ u. Sure t rest u)) → ((r : Belief t) → Surely t r rest → Under t worked r (total le nothing add t rest r)) → Under t worked s (action_total le nothing add t.conditions x s (λ r. total le nothing add t rest r))
  after_action t worked s k None rest is was w within taken under = absurd (taken w within)
  after_action t worked s k (Some (sensing class precondition l)) rest is was w within taken under = absurd (taken w within)
  after_action t worked s k (Some (action class precondition outcomes)) rest is was w within taken under =
      let n = t.conditions in
      let q = under (successor n outcomes s) (acts_after n class precondition outcomes s (λ u. Sure t rest u) taken) in
      let opened : OpenStep t s k (action class precondition outcomes) = record { of_ticket = is; is_open = acts_met n class precondition outcomes s (λ u. Sure t rest u) taken } in
      (by_action s k class precondition outcomes was opened q.0, laws.monotone _ _ _ q.1)

  -- a branch whose side has some world counts in full
  branch_full : (n : ℕ) (s : Worlds n) (rest : Worlds n → T) → some_world n s ≡ true → branch_total nothing n s rest ≡ rest s
  branch_full n s rest some = cond-false (none_in n s) nothing (rest s) (not_from_true _ some)

  -- the branches of a sensing step from its sides give one for the step; where one side has no world, the other branch
  -- alone gives it
  after_sensing : (t : Ticket) (worked : Belief t → Bool) (s : Belief t) (k : ℕ) (x : Option Step) (p q : Procedure) → step_at t.steps k ≡ x → worked s ≡ true → (w : World t.conditions) → s w ≡ true → ((v : World t.conditions) → s v ≡ true → Senses t.conditions x v (Sure t p v) (Sure t q v)) → ((r : Belief t) → Surely t r p → Under t worked r (total le nothing add t p r)) → ((r : Belief t) → Surely t r q → Under t worked r (total le nothing add t q r)) → Under t worked s (sensing_total le nothing add t.conditions x s (λ r. total le nothing add t p r) (λ r. total le nothing add t q r))
  after_sensing t worked s k None p q is was w within taken under-p under-q = absurd (taken w within)
  after_sensing t worked s k (Some (action class precondition outcomes)) p q is was w within taken under-p under-q = absurd (taken w within)
  after_sensing t worked s k (Some (sensing class precondition l)) p q is was w within taken under-p under-q =
      let n = t.conditions in
      let yes-side = side n l true s in
      let no-side = side n l false s in
      let x = sensing class precondition l in
      let of-p : Worlds n → T = λ r. total le nothing add t p r in
      let of-q : Worlds n → T = λ r. total le nothing add t q r in
      let met : all_meet n s precondition ≡ true = all_meet_from n s precondition (λ v in-s. (taken v in-s).0) in
      elim (cases_Bool (some_world n yes-side)) [
        | inl some-yes ↦
            elim (cases_Bool (some_world n no-side)) [
              | inl some-no ↦
                  let from-yes = under-p yes-side (λ v on-side. let parts = side_from n l true s v on-side in (taken v parts.0).1 parts.1) in
                  let from-no = under-q no-side (λ v on-side. let parts = side_from n l false s v on-side in (taken v parts.0).2 parts.1) in
                  let opened : OpenStep t s k x = record { of_ticket = is; is_open = and_from _ _ met (and_from _ _ some-yes some-no) } in (
                    by_sensing s k class precondition l was opened from-yes.0 from-no.0,
                    laws.monotone _ _ _ (larger_mono laws _ _ _ _
                        (subst (λ (m : T). le (way_total le nothing add from-yes.0) m ≡ true) (sym (branch_full n yes-side of-p some-yes)) from-yes.1)
                        (subst (λ (m : T). le (way_total le nothing add from-no.0) m ≡ true) (sym (branch_full n no-side of-q some-no)) from-no.1)),
                  )
              | inr none-no ↦
                  let alone = under-p s (λ v in-s. (taken v in-s).1 (other_value n l false s none-no v in-s)) in
                  let whole : branch_total nothing n yes-side of-p ≡ of-p s = branch_full n yes-side of-p some-yes ∙ ap of-p (other_side n l false s none-no) in
                  let in-branch = subst (λ (m : T). le (way_total le nothing add alone.0) m ≡ true) (sym whole) alone.1 in
                  (alone.0, laws.transitive _ _ _ (laws.transitive _ _ _ in-branch (larger_left laws _ (branch_total nothing n no-side of-q))) (laws.no_less x _))
            ]
        | inr none-yes ↦
            let alone = under-q s (λ v in-s. (taken v in-s).2 (other_value n l true s none-yes v in-s)) in
            let whole-side = other_side n l true s none-yes in
            let some-no : some_world n no-side ≡ true = some_in n s no-side w within whole-side in
            let whole : branch_total nothing n no-side of-q ≡ of-q s = branch_full n no-side of-q some-no ∙ ap of-q whole-side in
            let in-branch = subst (λ (m : T). le (way_total le nothing add alone.0) m ≡ true) (sym whole) alone.1 in
            (alone.0, laws.transitive _ _ _ (laws.transitive _ _ _ in-branch (larger_right laws (branch_total nothing n yes-side of-p) _)) (laws.no_less x _))
      ]

  -- every procedure that surely reaches the aim from a set has one for its floor with a total not above its own
  pub sure_is_covered : SureIsCovered le nothing add
  sure_is_covered t worked s empty sure =
      at_once t worked s nothing (or_left _ _ (all_meet_from t.conditions s t.aim sure))
  sure_is_covered t worked s (act k rest) sure =
      elim (cases_Bool (aim_set t s || not (worked s))) [
        | inl ends ↦ at_once t worked s _ ends
        | inr goes_on ↦
            let parts = or_parts (aim_set t s) (not (worked s)) goes_on in
            let one = one_unmet t.conditions s t.aim parts.0 in
            after_action t worked s k (step_at t.steps k) rest refl (not-false _ parts.1) one.0 one.1 sure (λ r. sure_is_covered t worked r rest)
      ]
  sure_is_covered t worked s (sense k p q) sure =
      elim (cases_Bool (aim_set t s || not (worked s))) [
        | inl ends ↦ at_once t worked s _ ends
        | inr goes_on ↦
            let parts = or_parts (aim_set t s) (not (worked s)) goes_on in
            let one = one_unmet t.conditions s t.aim parts.0 in
            after_sensing t worked s k (step_at t.steps k) p q refl (not-false _ parts.1) one.0 one.1 sure (λ r. sure_is_covered t worked r p) (λ r. sure_is_covered t worked r q)
      ]

  -- so the floor is not above its total, and where the floor is none there is no such procedure
  pub floor_is_not_above_sure : FloorIsNotAboveSure le nothing add
  floor_is_not_above_sure t worked s None floor p sure = absurd (floor (sure_is_covered t worked s p sure).0)
  floor_is_not_above_sure t worked s (Some b) floor p sure =
      let q = sure_is_covered t worked s p sure in
      laws.transitive b (way_total le nothing add q.0) (total le nothing add t p s) (floor.1 q.0) q.1
