-- What each call of a map bank answers and leaves, by its rows.
-- Assumes nothing.
use Rattle.std.specs.Prelude.{◌≡◌, ℕ, suc, ◌<◌, ◌≤◌, Bool, true, false, cond, not, ◌&&◌, ltb, leb, List, [], ◌∷◌, ◌++◌, length, get_or, take, Some, None, Ok, Err, Option, Result, nat_le, nat_lt, slice_index_or}
use Rattle.std.proofs.Common.{sym, ◌∙◌, ap, subst, inl, inr, arith}
use Rattle.std.proofs.Math.Path.{fun_ext}
use Rattle.std.proofs.lemmas.Bool.{cond-false, cond-true, cases_Bool, lt-ltb, le-ltb, ltb-true, ltb-false, lt-leb, le-leb}
use Rattle.std.proofs.lemmas.List.{get_or-map, take-map, map_push, length-map}
use Rattle.worlds.specs.Worlds.{World, Literal}
use Rattle.worlds.specs.Steps.{Outcome}
use Rattle.worlds.specs.Sets.{Worlds, none_in, successor, side, same_set}
use Rattle.worlds.specs.Tickets.{Ticket, starts, meets_some, step_at}
use Rattle.bank.specs.declared.fault.BankFault.{BankFault}
use Rattle.bank.specs.declared.fault.BankFault.TheVariants.{NoSet, Full, EmptySide, WrongStep}
use Rattle.bank.specs.Meaning as bank
use Rattle.bank.specs.Meaning.{Meaning}
use Rattle.bank.specs.Calls.{unless, left_by, then_fault, refuse_if, with_some, set_at, place_of, is_held, outcomes_of, sensed_of, put_fault, next_set, next_number, next_made, next_answer, next_leaves, side_set, split_number, split_made, split_answer, split_leaves, shorten_fault, shortened, founded}
use Rattle.map_bank.specs.Canon.{row_of}
use Rattle.map_bank.specs.MapBanks.{meaning_with, map_nature, made_by, side_by, row_kept, place_kept, row_answer, pushed_to, row_leaves}
use Rattle.map_bank.specs.Numbers.{set_of}

-- ## The row of a number

pub row_there : (i : ℕ) (rows : List (List ℕ)) (row : List ℕ) → Some row ≡ row_kept i rows → (i < length rows) × (row ≡ slice_index_or rows i [])
row_there i rows row e =
    elim (cases_Bool (nat_lt i (length rows))) [
      | inl h ↦ let f = cond-true (nat_lt i (length rows)) (Some (slice_index_or rows i [])) None h in let is : row ≡ get_or rows i [] = cc in (ltb-true _ _ h, is)
      | inr h ↦ let f = cond-false (nat_lt i (length rows)) (Some (slice_index_or rows i [])) None h in let z : ◌≡◌ {A = ℕ} 0 1 = cc in absurd (omega arith)
    ]

-- ## The place of a set is at most the length of the list

pub place_le : (n : ℕ) (ss : List (Worlds n)) (s : Worlds n) → place_of n ss s ≤ length ss
place_le n [] s = omega arith
place_le n (t ∷ ss) s =
    let rest = place_le n ss s in
    elim (cases_Bool (same_set n t s)) [
      | inl e ↦ subst (λ (k : ℕ). k ≤ suc (length ss)) (sym (cond-true (same_set n t s) 0 (suc (place_of n ss s)) e)) (omega arith)
      | inr e ↦ subst (λ (k : ℕ). k ≤ suc (length ss)) (sym (cond-false (same_set n t s) 0 (suc (place_of n ss s)) e)) (omega arith)
    ]

module _ (t : Ticket) (rows : List (List ℕ)) (cap : ℕ) where
  abbrev n : ℕ
  n = t.conditions

  abbrev m : Meaning
  m = meaning_with t rows cap

  long : length m.held ≡ length rows
  long = length-map rows (set_of n)

  there : (set : ℕ) → set < length rows → nat_le (length m.held) set ≡ false
  there set h = lt-leb (length m.held) set (subst (λ (k : ℕ). set < k) (sym long) h)

  -- set i is that of row i
  pub set_there : (set : ℕ) → set < length rows → set_at t.conditions (meaning_with t rows cap).held set ≡ set_of t.conditions (slice_index_or rows set [])
  set_there set h = get_or-map (set_of n) rows set [] (λ _. false) h

  -- ## A row that is put

  abbrev fault_by : Bool → Bool → Option BankFault
  fault_by full held = refuse_if (full && not held) Full

  abbrev left_as : List ℕ → Bool → Bool → Meaning
  left_as row full held = left_by (fault_by full held) m (cond held m (pushed_to m row))

  abbrev place : List ℕ → ℕ
  place row = place_of n m.held (set_of n row)

  -- a row's set that is not held is new, and so its place is behind the held ones
  absent_new : (row : List ℕ) → None ≡ place_kept m row → is_held n m.held (set_of n row) ≡ false
  absent_new row e =
      elim (cases_Bool (is_held n m.held (set_of n row))) [
        | inl h ↦ let f = cond-true (is_held n m.held (set_of n row)) (Some (place row)) None h in let z : ◌≡◌ {A = ℕ} 0 1 = cc in absurd (omega arith)
        | inr h ↦ h
      ]

  pub absent_place : (row : List ℕ) → None ≡ place_kept (meaning_with t rows cap) row → place_of t.conditions (meaning_with t rows cap).held (set_of t.conditions row) ≡ length (meaning_with t rows cap).held
  absent_place row e =
      let past : length m.held ≤ place row = ltb-false (place row) (length m.held) (absent_new row e) in
      omega (arith, place_le n m.held (set_of n row))

  pub put_full : (row : List ℕ) → None ≡ place_kept (meaning_with t rows cap) row → cap ≤ length rows → (Err Full ≡ row_answer (meaning_with t rows cap) row) × (meaning_with t rows cap ≡ row_leaves (meaning_with t rows cap) row)
  put_full row e h =
      let full : leb cap (length m.held) ≡ true = le-leb cap (length m.held) (subst (λ (k : ℕ). cap ≤ k) (sym long) h) in
      let new = absent_new row e in (
        ap (λ (b : Bool). unless (fault_by b false) (place row)) (sym full) ∙ ap (λ (b : Bool). unless (fault_by (nat_le cap (length m.held)) b) (place row)) (sym new),
        ap (λ (b : Bool). left_as row b false) (sym full) ∙ ap (λ (b : Bool). left_as row (nat_le cap (length m.held)) b) (sym new),
      )

  pub put_new : (row : List ℕ) → None ≡ place_kept (meaning_with t rows cap) row → length rows < cap → (Ok (length rows) ≡ row_answer (meaning_with t rows cap) row) × (pushed_to (meaning_with t rows cap) row ≡ row_leaves (meaning_with t rows cap) row)
  put_new row e h =
      let free : leb cap (length m.held) ≡ false = lt-leb cap (length m.held) (subst (λ (k : ℕ). k < cap) (sym long) h) in
      let new = absent_new row e in (
        ap Ok (sym (absent_place row e ∙ long)) ∙ ap (λ (b : Bool). unless (fault_by b false) (place row)) (sym free) ∙ ap (λ (b : Bool). unless (fault_by (nat_le cap (length m.held)) b) (place row)) (sym new),
        ap (λ (b : Bool). left_as row b false) (sym free) ∙ ap (λ (b : Bool). left_as row (nat_le cap (length m.held)) b) (sym new),
      )

  -- what putting a set by a call leaves, where the call keeps it as a row
  abbrev put_by : Worlds n → List ℕ → Meaning
  put_by s row =
      left_by (refuse_if (nat_le cap (length m.held) && not (is_held n m.held s)) Full) m
      (cond (is_held n m.held s) m (record { ticket = t; held = m.held ++ s ∷ []; kept = rows ++ row ∷ []; capacity = cap }))

  abbrev told_by : Worlds n → Result ℕ BankFault
  told_by s = unless (refuse_if (nat_le cap (length m.held) && not (is_held n m.held s)) Full) (place_of n m.held s)

  -- ## Next

  abbrev next_fault_by : ℕ → ℕ → Bool → Option (List Outcome) → Option BankFault
  next_fault_by set step b o = then_fault (refuse_if b NoSet) (with_some o WrongStep (λ os. put_fault map_nature (bank.action set step) m (next_set os set m)))

  abbrev next_told : ℕ → ℕ → Bool → Option (List Outcome) → Result ℕ BankFault
  next_told set step b o = unless (next_fault_by set step b o) (next_number set m o)

  abbrev next_left : ℕ → ℕ → Bool → Option (List Outcome) → Meaning
  next_left set step b o = left_by (next_fault_by set step b o) m (next_made map_nature set step m o)

  abbrev outcomes : ℕ → Option (List Outcome)
  outcomes step = outcomes_of (step_at t.steps step)

  pub next_goes : (set step : ℕ) (os : List Outcome) (row : List ℕ) → set < length rows → outcomes_of (step_at t.steps step) ≡ Some os → row ≡ row_of t.conditions (set_of t.conditions row) → set_of t.conditions row ≡ successor t.conditions os (set_of t.conditions (slice_index_or rows set [])) → (row_answer (meaning_with t rows cap) row ≡ next_answer map_nature set step (meaning_with t rows cap)) × (row_leaves (meaning_with t rows cap) row ≡ next_leaves map_nature set step (meaning_with t rows cap))
  next_goes set step os row h e canon is =
      let set_is : set_of n row ≡ next_set os set m = is ∙ ap (λ (s : Worlds n). successor n os s) (sym (set_there set h)) in
      let kept-is : row ≡ map_nature.keeps t rows (bank.action set step) =
      canon ∙ ap (row_of n) (is ∙ ap (λ (o : Option (List Outcome)). made_by n o (set_of n (slice_index_or rows set []))) (sym e)) in (
        ap told_by set_is ∙ ap (λ (o : Option (List Outcome)). next_told set step false o) (sym e) ∙ ap (λ (b : Bool). next_told set step b (outcomes step)) (sym (there set h)),
        ap (λ (s : Worlds n). put_by s row) set_is ∙ ap (put_by (next_set os set m)) kept-is
            ∙ ap (λ (o : Option (List Outcome)). next_left set step false o) (sym e) ∙ ap (λ (b : Bool). next_left set step b (outcomes step)) (sym (there set h)),
      )

  -- ## Split

  abbrev split_fault_by : ℕ → ℕ → Bool → Bool → Option Literal → Option BankFault
  split_fault_by set step so b o =
      then_fault (refuse_if b NoSet) (with_some o WrongStep (λ l. then_fault (refuse_if (none_in n (side_set l so set m)) EmptySide) (put_fault map_nature (bank.sensing set step so) m (side_set l so set m))))

  abbrev split_told : ℕ → ℕ → Bool → Bool → Option Literal → Result ℕ BankFault
  split_told set step so b o = unless (split_fault_by set step so b o) (split_number set so m o)

  abbrev split_left : ℕ → ℕ → Bool → Bool → Option Literal → Meaning
  split_left set step so b o = left_by (split_fault_by set step so b o) m (split_made map_nature set step so m o)

  abbrev sensed : ℕ → Option Literal
  sensed step = sensed_of (step_at t.steps step)

  -- the side's set, and what its emptiness decides
  abbrev side_told : Worlds n → Bool → Result ℕ BankFault
  side_told s none = unless (then_fault (refuse_if none EmptySide) (refuse_if (nat_le cap (length m.held) && not (is_held n m.held s)) Full)) (place_of n m.held s)

  abbrev side_left : Worlds n → List ℕ → Bool → Meaning
  side_left s row none =
      left_by (then_fault (refuse_if none EmptySide) (refuse_if (nat_le cap (length m.held) && not (is_held n m.held s)) Full)) m
      (cond (is_held n m.held s) m (record { ticket = t; held = m.held ++ s ∷ []; kept = rows ++ row ∷ []; capacity = cap }))

  module _ (set step : ℕ) (so : Bool) (l : Literal) (row : List ℕ) (h : set < length rows) (e : sensed_of (step_at t.steps step) ≡ Some l) (is : set_of t.conditions row ≡ side t.conditions l so (set_of t.conditions (slice_index_or rows set []))) where
    side_is : set_of n row ≡ side_set l so set m
    side_is = is ∙ ap (λ (s : Worlds n). side n l so s) (sym (set_there set h))

    told_rest : side_told (side_set l so set m) (none_in n (side_set l so set m)) ≡ split_answer map_nature set step so m
    told_rest = ap (λ (o : Option Literal). split_told set step so false o) (sym e) ∙ ap (λ (b : Bool). split_told set step so b (sensed step)) (sym (there set h))

    left_rest : side_left (side_set l so set m) (map_nature.keeps t rows (bank.sensing set step so)) (none_in n (side_set l so set m)) ≡ split_leaves map_nature set step so m
    left_rest = ap (λ (o : Option Literal). split_left set step so false o) (sym e) ∙ ap (λ (b : Bool). split_left set step so b (sensed step)) (sym (there set h))

    pub split_empty : none_in t.conditions (set_of t.conditions row) ≡ true → (Err EmptySide ≡ split_answer map_nature set step so (meaning_with t rows cap)) × (meaning_with t rows cap ≡ split_leaves map_nature set step so (meaning_with t rows cap))
    split_empty none =
        let none_is : none_in n (side_set l so set m) ≡ true = ap (none_in n) (sym side_is) ∙ none in (
          ap (side_told (side_set l so set m)) (sym none_is) ∙ told_rest,
          ap (side_left (side_set l so set m) (map_nature.keeps t rows (bank.sensing set step so))) (sym none_is) ∙ left_rest,
        )

    pub split_goes : none_in t.conditions (set_of t.conditions row) ≡ false → row ≡ row_of t.conditions (set_of t.conditions row) → (row_answer (meaning_with t rows cap) row ≡ split_answer map_nature set step so (meaning_with t rows cap)) × (row_leaves (meaning_with t rows cap) row ≡ split_leaves map_nature set step so (meaning_with t rows cap))
    split_goes some canon =
        let some_is : none_in n (side_set l so set m) ≡ false = ap (none_in n) (sym side_is) ∙ some in
        let kept-is : row ≡ map_nature.keeps t rows (bank.sensing set step so) =
        canon ∙ ap (row_of n) (is ∙ ap (λ (o : Option Literal). side_by n o so (set_of n (slice_index_or rows set []))) (sym e)) in (
          ap told_by side_is ∙ ap (side_told (side_set l so set m)) (sym some_is) ∙ told_rest,
          ap (λ (s : Worlds n). put_by s row) side_is ∙ ap (put_by (side_set l so set m)) kept-is
              ∙ ap (side_left (side_set l so set m) (map_nature.keeps t rows (bank.sensing set step so))) (sym some_is) ∙ left_rest,
        )

  -- ## Shorten

  pub shorten_refused : (count : ℕ) → length rows < count → (Err NoSet ≡ unless (shorten_fault count (meaning_with t rows cap)) (tt {0})) × (meaning_with t rows cap ≡ left_by (shorten_fault count (meaning_with t rows cap)) (meaning_with t rows cap) (shortened count (meaning_with t rows cap)))
  shorten_refused count h =
      let over : ltb (length m.held) count ≡ true = lt-ltb (length m.held) count (subst (λ (k : ℕ). k < count) (sym long) h) in
      (ap (λ (b : Bool). unless (refuse_if b NoSet) (tt {0})) (sym over), ap (λ (b : Bool). left_by (refuse_if b NoSet) m (shortened count m)) (sym over))

  pub shorten_done : (count : ℕ) → count ≤ length rows → (Ok (tt {0}) ≡ unless (shorten_fault count (meaning_with t rows cap)) (tt {0})) × (meaning_with t (take count rows) cap ≡ left_by (shorten_fault count (meaning_with t rows cap)) (meaning_with t rows cap) (shortened count (meaning_with t rows cap)))
  shorten_done count h =
      let fine : ltb (length m.held) count ≡ false = le-ltb (length m.held) count (subst (λ (k : ℕ). count ≤ k) (sym long) h) in (
        ap (λ (b : Bool). unless (refuse_if b NoSet) (tt {0})) (sym fine),
        ap (λ (held : List (Worlds n)). record { ticket = t; held = held; kept = take count rows; capacity = cap }) (sym (take-map (set_of n) count rows))
            ∙ ap (λ (b : Bool). left_by (refuse_if b NoSet) m (shortened count m)) (sym fine),
      )

  -- one more row
  pub one_more : (row : List ℕ) → meaning_with t (rows ++ row ∷ []) cap ≡ pushed_to (meaning_with t rows cap) row
  one_more row = ap (λ (held : List (Worlds n)). record { ticket = t; held = held; kept = rows ++ row ∷ []; capacity = cap }) (map_push (set_of n) rows row)

-- ## Found

-- the set of a row of the starting worlds
pub start_set : (t : Ticket) (k : ℕ) (terms : List (List Literal)) (row : List ℕ) → k ≡ t.conditions → terms ≡ t.terms → ((w : World k) → set_of k row w ≡ meets_some k w terms) → set_of t.conditions row ≡ starts t
start_set t k terms row ek et each =
    fun_ext (λ w. subst (λ (j : ℕ). (v : World j) → set_of j row v ≡ meets_some j v terms) ek each w ∙ ap (meets_some t.conditions w) et)

pub founded_is : (t : Ticket) (m : Meaning) (row : List ℕ) → set_of t.conditions row ≡ starts t → row ≡ row_of t.conditions (set_of t.conditions row) → meaning_with t (row ∷ []) m.capacity ≡ founded map_nature t m
founded_is t m row is canon =
    ap (λ (s : Worlds t.conditions). record { ticket = t; held = s ∷ []; kept = row ∷ []; capacity = m.capacity }) is
    ∙ ap (λ (r : List ℕ). record { ticket = t; held = starts t ∷ []; kept = r ∷ []; capacity = m.capacity }) (canon ∙ ap (row_of t.conditions) is)
