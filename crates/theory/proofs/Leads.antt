-- There is no lead exactly when floor and ceiling agree; what they agree on is the least total.
-- Assumes nothing.
use Rattle.std.proofs.Common.{◌≡◌, ℕ, Bool, true, false, not, ◌||◌, ◌⊎◌, [], ◌∷◌, Some, None, Option, sym, refl, ◌∙◌, subst, inl, inr}
use Rattle.std.proofs.lemmas.Bool.{both_ways, cases_Bool, not-true, or_cases}
use Rattle.worlds.specs.Worlds.{In}
use Rattle.worlds.specs.Steps.{Step, action, sensing}
use Rattle.worlds.specs.Tickets.{Ticket}
use Rattle.worlds.specs.Sets.{successor, side}
use Rattle.tally.specs.Laws.{Laws}
use Rattle.theory.specs.Procedures.{Belief}
use Rattle.theory.specs.Bounds.{end, by_action, by_sensing, as_procedure, way_total, CeilingWay, FloorWay, Floor, Ceiling, aim_set, following, OpenStep, Joined, there, onward, Lead, Closed, HaveBounds}
use Rattle.theory.specs.Theorems.{NoLeadExactlyWhenAgreed, LeadsAreHeld, AgreedIsBest, AgreedOnNone}
use Rattle.theory.proofs.Order.{larger_mono, bound_same, bound_decided, least_below, least_one}
use Rattle.theory.proofs.Ceilings.{ceiling_is_reached}
use Rattle.theory.proofs.Narrowing.{end_unworked, floor_is_below}
use Rattle.theory.proofs.Floors.{sure_is_covered, floor_is_not_above_sure}

-- an unworked set that is no aim set has no procedure for the ceiling
no_ceiling : (t : Ticket) (worked : Belief t → Bool) {s : Belief t} → CeilingWay t worked s → worked s ≡ false → aim_set t s ≡ false → ⊥
no_ceiling t worked (end s ended) unworked no_aim = both_ways _ no_aim ended
no_ceiling t worked (by_action s k class precondition outcomes was taken rest) unworked no_aim = both_ways _ unworked was
no_ceiling t worked (by_sensing s k class precondition l was taken on_yes on_no) unworked no_aim = both_ways _ unworked was

module _ {T : Type 0} {le : T → T → Bool} {nothing : T} {add : Step → T → T} (laws : Laws le nothing add) where
  -- ## Where floor and ceiling agree, there is no lead

  -- the floor and the ceiling of an unworked set that is no aim set differ
  unworked_differs : (t : Ticket) (worked : Belief t → Bool) (s : Belief t) (b : Option T) → worked s ≡ false → aim_set t s ≡ false → Floor le nothing add t worked s b → Ceiling le nothing add t worked s b → ⊥
  unworked_differs t worked s None unworked no_aim floor ceiling =
      floor (end_unworked t worked s unworked)
  unworked_differs t worked s (Some b) unworked no_aim floor ceiling = no_ceiling t worked ceiling.0.0 unworked no_aim

  -- so a set where they agree is joined to no lead
  agreed_not_joined : (t : Ticket) (worked : Belief t → Bool) (last : Belief t) {s : Belief t} → Joined le nothing add t worked last s → worked last ≡ false → aim_set t last ≡ false → (b : Option T) → Floor le nothing add t worked s b → Ceiling le nothing add t worked s b → ⊥
  agreed_not_joined t worked last (there s same) unworked no_aim b floor ceiling =
      unworked_differs t worked s b
      (subst (λ (r : Belief t). worked r ≡ false) (sym same) unworked)
      (subst (λ (r : Belief t). aim_set t r ≡ false) (sym same) no_aim)
      floor ceiling
  agreed_not_joined t worked last (onward s next k x was apart taken floors in-next rest) unworked no_aim b floor ceiling =
      apart b floor ceiling

  -- ## Where there is no lead, floor and ceiling agree

  -- a procedure for the ceiling of a set, with a total not above a given one
  abbrev Over : (t : Ticket) → (worked : Belief t → Bool) → Belief t → T → Type 0
  Over t worked s most = (q : CeilingWay t worked s) × (le (way_total le nothing add q) most ≡ true)

  -- that a set has no lead
  abbrev Leadless : (t : Ticket) → (worked : Belief t → Bool) → Belief t → Type 0
  Leadless t worked s = (l : Belief t) → Lead le nothing add t worked s l → ⊥

  -- that no bound is both floor and ceiling of a set
  abbrev Apart : (t : Ticket) → (worked : Belief t → Bool) → Belief t → Type 0
  Apart t worked s = (b : Option T) → Floor le nothing add t worked s b → Ceiling le nothing add t worked s b → ⊥

  -- where the two agree, the ceiling has a procedure not above any of the floor
  over_agreed : (t : Ticket) (worked : Belief t → Bool) (s : Belief t) (b : Option T) → Floor le nothing add t worked s b → Ceiling le nothing add t worked s b → (p : FloorWay t worked s) → Over t worked s (way_total le nothing add p)
  over_agreed t worked s None floor ceiling p = absurd (floor p)
  over_agreed t worked s (Some b) floor ceiling p =
      (ceiling.0.0, subst (λ (m : T). le m (way_total le nothing add p) ≡ true) (sym ceiling.0.1) (floor.1 p))

  -- whether the two agree can be told of a set that has both
  agreed_or_apart : (t : Ticket) (worked : Belief t → Bool) (s : Belief t) → ((b : Option T) × Floor le nothing add t worked s b) × ((c : Option T) × Ceiling le nothing add t worked s c) → ((b : Option T) × Floor le nothing add t worked s b × Ceiling le nothing add t worked s b) ⊎ Apart t worked s
  agreed_or_apart t worked s bounds =
      let b = bounds.0.0 in
      let c = bounds.1.0 in
      elim (bound_decided laws b c) [
        | inl same ↦
            inl (b, bounds.0.1, subst (λ (x : Option T). Ceiling le nothing add t worked s x) (sym same) bounds.1.1)
        | inr differ ↦
            inr (λ a floor ceiling. differ (least_one laws (λ p. way_total le nothing add p) b a bounds.0.1 floor ∙ least_one laws (λ p. way_total le nothing add p) a c ceiling bounds.1.1))
      ]

  -- where a set has no lead and its floor and ceiling differ, a set that follows an open step in it has none, if all
  -- sets that follow that step have a floor other than none
  leadless_next : (t : Ticket) (worked : Belief t → Bool) (s next : Belief t) (k : ℕ) (x : Step) → worked s ≡ true → Apart t worked s → OpenStep t s k x → ((f : Belief t) → In f (following t.conditions x s) → FloorWay t worked f) → In next (following t.conditions x s) → Leadless t worked s → Leadless t worked next
  leadless_next t worked s next k x was apart taken ways in-next leadless l lead =
      leadless l (record {
        unworked = lead.unworked;
        no_aim = lead.no_aim;
        joined = onward s next k x was apart taken (λ f in_f none. none (ways f in_f)) in-next lead.joined;
      })

  -- where a procedure for the floor ends, there is one for the ceiling at nothing, if there is no lead
  over_end : (t : Ticket) (worked : Belief t → Bool) (s : Belief t) → (aim_set t s || not (worked s)) ≡ true → Leadless t worked s → Over t worked s nothing
  over_end t worked s ended leadless =
      elim (cases_Bool (aim_set t s)) [
        | inl aim ↦ (end s aim, laws.least nothing)
        | inr no_aim ↦
            elim (or_cases (aim_set t s) (not (worked s)) ended) [
              | inl aim ↦ (end s aim, laws.least nothing)
              | inr unworked ↦ absurd (leadless s (record { unworked = not-true _ unworked; no_aim = no_aim; joined = there s refl }))
            ]
      ]

  -- the one set that follows an action has a procedure for its floor
  ways_action : (t : Ticket) (worked : Belief t → Bool) (next : Belief t) → FloorWay t worked next → (f : Belief t) → In f (next ∷ []) → FloorWay t worked f
  ways_action t worked next rest f (inl same) = subst (λ (r : Belief t). FloorWay t worked r) (sym same) rest
  ways_action t worked next rest f (inr none) = absurd none

  -- each of the two sets that follow a sensing step has one
  ways_sensing : (t : Ticket) (worked : Belief t → Bool) (yes-side no-side : Belief t) → FloorWay t worked yes-side → FloorWay t worked no-side → (f : Belief t) → In f (yes-side ∷ no-side ∷ []) → FloorWay t worked f
  ways_sensing t worked yes-side no-side on_yes on_no f (inl same) = subst (λ (r : Belief t). FloorWay t worked r) (sym same) on_yes
  ways_sensing t worked yes-side no-side on_yes on_no f (inr later) = ways_action t worked no-side on_no f later

  -- where a set has no lead, each procedure for its floor has one for its ceiling with no larger total
  over : (t : Ticket) (worked held : Belief t → Bool) → Closed t worked held → HaveBounds le nothing add t worked held → {s : Belief t} → (p : FloorWay t worked s) → held s ≡ true → Leadless t worked s → Over t worked s (way_total le nothing add p)
  over t worked held closed bounds (end s ended) is_held_lem leadless = over_end t worked s ended leadless
  over t worked held closed bounds (by_action s k class precondition outcomes was taken rest) is_held_lem leadless =
      let x = action class precondition outcomes in
      let next = successor t.conditions outcomes s in
      elim (agreed_or_apart t worked s (bounds s is_held_lem)) [
        | inl agreed ↦ over_agreed t worked s agreed.0 agreed.1 agreed.2 (by_action s k class precondition outcomes was taken rest)
        | inr apart ↦
            let q = over t worked held closed bounds rest
            (closed s k x is_held_lem was taken next (inl refl))
            (leadless_next t worked s next k x was apart taken (ways_action t worked next rest) (inl refl) leadless) in
            (by_action s k class precondition outcomes was taken q.0, laws.monotone _ _ _ q.1)
      ]
  over t worked held closed bounds (by_sensing s k class precondition l was taken on_yes on_no) is_held_lem leadless =
      let x = sensing class precondition l in
      let yes-side = side t.conditions l true s in
      let no-side = side t.conditions l false s in
      elim (agreed_or_apart t worked s (bounds s is_held_lem)) [
        | inl agreed ↦ over_agreed t worked s agreed.0 agreed.1 agreed.2 (by_sensing s k class precondition l was taken on_yes on_no)
        | inr apart ↦
            let q = over t worked held closed bounds on_yes
            (closed s k x is_held_lem was taken yes-side (inl refl))
            (leadless_next t worked s yes-side k x was apart taken (ways_sensing t worked yes-side no-side on_yes on_no) (inl refl) leadless) in
            let r = over t worked held closed bounds on_no
            (closed s k x is_held_lem was taken no-side (inr (inl refl)))
            (leadless_next t worked s no-side k x was apart taken (ways_sensing t worked yes-side no-side on_yes on_no) (inr (inl refl)) leadless) in
            (by_sensing s k class precondition l was taken q.0 r.0, laws.monotone _ _ _ (larger_mono laws _ _ _ _ q.1 r.1))
      ]

  -- both directions
  pub no_lead_exactly_when_agreed : NoLeadExactlyWhenAgreed le nothing add
  no_lead_exactly_when_agreed t worked held closed bounds s b c is_held_lem floor ceiling = (
    λ leadless.
        bound_same laws b c
        (floor_is_below laws t worked s b c floor ceiling)
        (least_below laws (λ q. way_total le nothing add q) (λ p. way_total le nothing add p) c b (λ p. over t worked held closed bounds p is_held_lem leadless) ceiling floor),
    λ same l lead.
        agreed_not_joined t worked l lead.joined lead.unworked lead.no_aim b floor (subst (λ (x : Option T). Ceiling le nothing add t worked s x) (sym same) ceiling),
  )

  -- ## Leads are held

  -- the end of a path from a held set is held
  joined_held : (t : Ticket) (worked held : Belief t → Bool) → Closed t worked held → (last : Belief t) {s : Belief t} → Joined le nothing add t worked last s → held s ≡ true → held last ≡ true
  joined_held t worked held closed last (there s same) is_held_lem = subst (λ (r : Belief t). held r ≡ true) same is_held_lem
  joined_held t worked held closed last (onward s next k x was apart taken floors in-next rest) is_held_lem =
      joined_held t worked held closed last rest (closed s k x is_held_lem was taken next in-next)

  -- so is every lead
  pub leads_are_held : LeadsAreHeld le nothing add
  leads_are_held t worked held closed s l is_held_lem lead = joined_held t worked held closed l lead.joined is_held_lem

  -- ## What they agree on

  -- where the floor is none, nothing surely reaches the aim
  pub agreed_on_none : AgreedOnNone le nothing add
  agreed_on_none t worked s floor ceiling p sure = floor (sure_is_covered laws t worked s p sure).0

  -- a total that both are is reached, and nothing is below it
  pub agreed_is_best : AgreedIsBest le nothing add
  agreed_is_best t worked s None floor ceiling = λ p. agreed_on_none t worked s floor ceiling p.0 p.1
  agreed_is_best t worked s (Some b) floor ceiling =
      let q = ceiling.0.0 in
      let reached = ceiling_is_reached le nothing add t worked s q in
      (((as_procedure q, reached.0), reached.1 ∙ ceiling.0.1), λ p. floor_is_not_above_sure laws t worked s (Some b) floor p.0 p.1)
