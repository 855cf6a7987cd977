-- No floor is above its ceiling, and working more sets brings the two no further apart.
-- Assumes nothing.
use Rattle.std.proofs.Common.{◌≡◌, Bool, true, false, not, ◌||◌, refl, ap, ap₂, inl, inr}
use Rattle.std.proofs.lemmas.Bool.{both_ways, cases_Bool, not-true, not_from_false, or_cases, or_left, or_right}
use Rattle.worlds.specs.Steps.{Step, action, sensing}
use Rattle.worlds.specs.Tickets.{Ticket}
use Rattle.tally.specs.Laws.{Laws}
use Rattle.theory.specs.Procedures.{Belief, larger}
use Rattle.theory.specs.Bounds.{Way, end, by_action, by_sensing, way_total, CeilingWay, FloorWay, aim_set}
use Rattle.theory.specs.Theorems.{FloorIsBelow, WorkingNarrows}
use Rattle.theory.proofs.Order.{le_equal, larger_mono, least_below}

-- for a floor a procedure may end in an unworked set
abbrev pub end_unworked : (t : Ticket) (worked : Belief t → Bool) (s : Belief t) → worked s ≡ false → FloorWay t worked s
end_unworked t worked s unworked = end s (or_right (aim_set t s) _ (not_from_false _ unworked))

module _ {T : Type 0} {le : T → T → Bool} {nothing : T} {add : Step → T → T} (laws : Laws le nothing add) where
  -- where more sets are worked and more sets are ends, the same procedure still counts, at the same total
  pub widened : (t : Ticket) (worked more ends further : Belief t → Bool) → ((r : Belief t) → worked r ≡ true → more r ≡ true) → ((r : Belief t) → ends r ≡ true → further r ≡ true) → {s : Belief t} → (p : Way t worked ends s) → (q : Way t more further s) × (way_total le nothing add q ≡ way_total le nothing add p)
  widened t worked more ends further still also (end s ended) = (end s (also s ended), refl)
  widened t worked more ends further still also (by_action s k class precondition outcomes was_worked taken rest) =
      let q = widened t worked more ends further still also rest in (
        by_action s k class precondition outcomes (still s was_worked) taken q.0,
        ap (add (action class precondition outcomes)) q.1,
      )
  widened t worked more ends further still also (by_sensing s k class precondition l was_worked taken on_yes on_no) =
      let q = widened t worked more ends further still also on_yes in
      let r = widened t worked more ends further still also on_no in (
        by_sensing s k class precondition l (still s was_worked) taken q.0 r.0,
        ap₂ (λ a b. add (sensing class precondition l) (larger le a b)) q.1 r.1,
      )

  -- a procedure for a ceiling is one for the floor, at the same total
  pub ceiling_under : (t : Ticket) (worked : Belief t → Bool) (s : Belief t) (p : CeilingWay t worked s) → (q : FloorWay t worked s) × (le (way_total le nothing add q) (way_total le nothing add p) ≡ true)
  ceiling_under t worked s p =
      let q = widened t worked worked (aim_set t) (λ r. aim_set t r || not (worked r)) (λ r h. h) (λ r h. or_left _ _ h) p in
      (q.0, le_equal laws _ _ q.1)

  -- so no floor is above its ceiling
  pub floor_is_below : FloorIsBelow le nothing add
  floor_is_below t worked s b c floor ceiling =
      least_below laws (λ q. way_total le nothing add q) (λ p. way_total le nothing add p) b c (ceiling_under t worked s) floor ceiling

  -- a procedure for the floor with more sets worked, cut where it enters a set that was not, is one for the floor before,
  -- at no larger total
  cut : (t : Ticket) (worked more : Belief t → Bool) → ((r : Belief t) → worked r ≡ true → more r ≡ true) → {s : Belief t} → (p : FloorWay t more s) → (q : FloorWay t worked s) × (le (way_total le nothing add q) (way_total le nothing add p) ≡ true)
  cut t worked more still (end s ended) =
      elim (cases_Bool (worked s)) [
        | inl was ↦
            elim (or_cases (aim_set t s) (not (more s)) ended) [
              | inl aim ↦ (end s (or_left _ _ aim), laws.least _)
              | inr not_more ↦ absurd (both_ways _ (not-true _ not_more) (still s was))
            ]
        | inr was-not ↦ (end_unworked t worked s was-not, laws.least _)
      ]
  cut t worked more still (by_action s k class precondition outcomes now-worked taken rest) =
      let q = cut t worked more still rest in
      elim (cases_Bool (worked s)) [
        | inl was ↦ (by_action s k class precondition outcomes was taken q.0, laws.monotone _ _ _ q.1)
        | inr was-not ↦ (end_unworked t worked s was-not, laws.least _)
      ]
  cut t worked more still (by_sensing s k class precondition l now-worked taken on_yes on_no) =
      let q = cut t worked more still on_yes in
      let r = cut t worked more still on_no in
      elim (cases_Bool (worked s)) [
        | inl was ↦ (by_sensing s k class precondition l was taken q.0 r.0, laws.monotone _ _ _ (larger_mono laws _ _ _ _ q.1 r.1))
        | inr was-not ↦ (end_unworked t worked s was-not, laws.least _)
      ]

  -- a procedure for the ceiling still is one with more sets worked
  still_a_ceiling : (t : Ticket) (worked more : Belief t → Bool) → ((r : Belief t) → worked r ≡ true → more r ≡ true) → (s : Belief t) (p : CeilingWay t worked s) → (q : CeilingWay t more s) × (le (way_total le nothing add q) (way_total le nothing add p) ≡ true)
  still_a_ceiling t worked more still s p =
      let q = widened t worked more (aim_set t) (aim_set t) still (λ r h. h) p in
      (q.0, le_equal laws _ _ q.1)

  -- so working more sets never lowers a floor, nor raises a ceiling
  pub working_narrows : WorkingNarrows le nothing add
  working_narrows t worked more still s = (
    λ b c before after. least_below laws (λ q. way_total le nothing add q) (λ p. way_total le nothing add p) b c (λ p. cut t worked more still p) before after,
    λ b c before after. least_below laws (λ q. way_total le nothing add q) (λ p. way_total le nothing add p) c b (still_a_ceiling t worked more still s) after before,
  )
