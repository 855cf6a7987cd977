-- Where a row's set stands among the sets of rows, and which lists of sets stay pairwise different.
-- Assumes nothing.
use Rattle.std.specs.Prelude.{◌≡◌, ℕ, zero, suc, ◌+◌, ◌-◌, ◌*◌, ◌^◌, ◌<◌, ◌≤◌, true, false, cond, not, ◌&&◌, Option, Some, None, List, [], ◌∷◌, ◌++◌, map, length, take, drop, ◌≢◌, slice_index, slice_index_or, refl}
use Rattle.std.proofs.Common.{sym, ◌∙◌, ap, subst, inl, inr, add-one, arith, length-drop, length-take}
use Rattle.std.proofs.lemmas.Bool.{cond-false, cond-true, and_parts, and_from, not_from_false, not-true, cases_lt, lt-ltb, le-ltb}
use Rattle.std.proofs.lemmas.Iterator.{index_from_first}
use Rattle.std.specs.List.{AllWithin, HoldsAt}
use Rattle.std.specs.Option.{MatchOption, unwrap_or}
use Rattle.std.proofs.lemmas.List.{get_or-take, get_or-drop, get_or_past, length-take-le, length-map}
use Rattle.worlds.specs.Sets.{Worlds, none_in, same_set}
use Rattle.worlds.proofs.Compatible.{cannot_pass}
use Rattle.bank.specs.Meaning.{all_different, differs_from}
use Rattle.bank.specs.Calls.{place_of, is_held, set_at}
use Rattle.map_bank.specs.Held.{rows_of, AllTidy, length_rows}
use Rattle.map_bank.specs.Numbers.{set_of, in_words}
use Rattle.map_bank.specs.Rows.{Tidy}
use Rattle.map_bank.proofs.BitLaws.{bit_zero}
use Rattle.map_bank.proofs.CanonLaws.{rows_same}
use Rattle.map_bank.proofs.HeldLaws.{row_is}
use Rattle.map_bank.proofs.SameLaws.{same_set_self}

-- ## Tidy rows

pub tidy_none : (n : ℕ) → Tidy n []
tidy_none n k high low = bit_zero _

pub each_tidy : (n : ℕ) (rows : List (List ℕ)) → AllTidy n rows → (i : ℕ) → Tidy n (slice_index_or rows i [])
each_tidy n rows all i k high low =
    let back : 2 ^ n + (k - 2 ^ n) ≡ k = omega arith in
    subst (λ (j : ℕ). in_words (slice_index_or rows i []) j ≡ false) back (all i (k - 2 ^ n) (omega arith))

pub all_tidy : (n : ℕ) (rows : List (List ℕ)) → ((i : ℕ) → Tidy n (slice_index_or rows i [])) → AllTidy n rows
all_tidy n rows each i k low = each i (2 ^ n + k) (omega arith) (omega arith)

-- ## A row among words

-- each word of a row fits where each word of the list does
pub row_fits : (words : List ℕ) → ((i : ℕ) → slice_index words i < 2 ^ 64) → (from i : ℕ) → slice_index (take 16 (drop from words)) i < 2 ^ 64
row_fits words fits from i =
    elim (cases_lt i 16) [
      | inl h ↦ subst (λ (x : ℕ). x < 2 ^ 64) (sym (get_or-take 16 (drop from words) i 0 h ∙ get_or-drop from words i 0)) (fits (from + i))
      | inr h ↦ subst (λ (x : ℕ). x < 2 ^ 64) (sym (get_or_past (take 16 (drop from words)) i 0 (omega (arith, few)))) (omega arith)
    ]
  where
    few : length (take 16 (drop from words)) ≤ 16
    few = simp length-take (omega arith)

-- what is known of a row among words
record Kept (n : ℕ) (row : List ℕ) : Type 0 where
  long : length row ≡ 16
  fits : (i : ℕ) → slice_index row i < 2 ^ 64
  tidy : Tidy n row

kept_row : (n count : ℕ) (words : List ℕ) → 16 * count ≤ length words → ((i : ℕ) → slice_index words i < 2 ^ 64) → AllTidy n (rows_of count words) → (k : ℕ) (d : List ℕ) → k < count → Kept n (slice_index_or (rows_of count words) k d)
kept_row n count words room fits tidy k d h =
    let lies : slice_index_or (rows_of count words) k d ≡ take 16 (drop (16 * k) words) = row_is count words k d h in
    let same : slice_index_or (rows_of count words) k [] ≡ take 16 (drop (16 * k) words) = row_is count words k [] h in
    let space : 16 * k + 16 ≤ length words = omega arith in
    let left : 16 ≤ length (drop (16 * k) words) = subst (λ (m : ℕ). 16 ≤ m) (sym (length-drop (16 * k) words)) (omega arith) in
    subst (Kept n) (sym lies) (record {
      long = length-take-le 16 (drop (16 * k) words) left;
      fits = row_fits words fits (16 * k);
      tidy = subst (λ (r : List ℕ). Tidy n r) same (each_tidy n (rows_of count words) tidy k);
    })

-- the number of a row's set, by the place of the row
module _ (n count : ℕ) (words row : List ℕ) (room : 16 * count ≤ length words) (fits : (i : ℕ) → slice_index words i < 2 ^ 64) (tidy : AllTidy n (rows_of count words)) (long : length row ≡ 16) (row-fits : (i : ℕ) → slice_index row i < 2 ^ 64) (row-tidy : Tidy n row) where
  abbrev all_rows : List (List ℕ)
  all_rows = rows_of count words

  abbrev Same : List ℕ → Type 0
  Same a = same_set n (set_of n a) (set_of n row) ≡ true

  abbrev Other : List ℕ → Type 0
  Other a = same_set n (set_of n a) (set_of n row) ≡ false

  same_row : (a : List ℕ) → a ≡ row → Same a
  same_row a is = ap (λ (r : List ℕ). same_set n (set_of n r) (set_of n row)) is ∙ same_set_self n (set_of n row)

  other_row : (a : List ℕ) → Kept n a → (a ≢ row) → Other a
  other_row a kept differs =
      cannot_pass _ (λ same. differs (rows_same n a row kept.long long kept.fits row-fits kept.tidy row-tidy same))

  others : (low high : ℕ) → high ≤ count → AllWithin (λ (a : List ℕ). a ≢ row) all_rows low high → AllWithin Other all_rows low high
  others low high h all k d from below =
      other_row (slice_index_or all_rows k d) (kept_row n count words room fits tidy k d (omega arith)) (all k d from below)

  place : ℕ
  place = place_of n (map (set_of n) all_rows) (set_of n row)

  counted : (r : Option ℕ) → MatchOption r (AllWithin Other all_rows 0 (length all_rows)) (λ i. (i < length all_rows) × HoldsAt Same all_rows i × AllWithin Other all_rows 0 i) → place ≡ unwrap_or r (length all_rows)
  unfolding place
  counted r found =
      index_from_first (λ (rs : List (List ℕ)). place_of n (map (set_of n) rs) (set_of n row)) Same Other refl
      (λ a rs same. cond-true _ 0 (suc (place_of n (map (set_of n) rs) (set_of n row))) same)
      (λ a rs other. cond-false _ 0 (suc (place_of n (map (set_of n) rs) (set_of n row))) other ∙ sym (add-one _))
      all_rows r found

  pub found_place : (r : Option ℕ) → MatchOption r (AllWithin (λ (a : List ℕ). a ≢ row) (rows_of count words) 0 (length (rows_of count words))) (λ i. (i < length (rows_of count words)) × HoldsAt (λ (a : List ℕ). a ≡ row) (rows_of count words) i × AllWithin (λ (a : List ℕ). a ≢ row) (rows_of count words) 0 i) → r ≡ cond (is_held n (map (set_of n) (rows_of count words)) (set_of n row)) (Some (place_of n (map (set_of n) (rows_of count words)) (set_of n row))) None
  unfolding place
  found_place None none =
      let at : place ≡ length all_rows = counted None (others 0 (length all_rows) (omega (arith, length_rows count words)) none) in
      let past : length (map (set_of n) all_rows) ≤ place = omega (arith, at, length-map all_rows (set_of n)) in
      sym (cond-false _ (Some place) None (le-ltb place (length (map (set_of n) all_rows)) past))
  found_place (Some i) some =
      let at : place ≡ i = counted (Some i) (some.0, λ d. same_row _ (some.1 d), others 0 i (let h : i < length all_rows = some.0 in omega (arith, length_rows count words)) some.2) in
      let h : i < length all_rows = some.0 in
      let within : place < length (map (set_of n) all_rows) = omega (arith, at, length-map all_rows (set_of n)) in
      ap Some (sym at) ∙ sym (cond-true _ (Some place) None (lt-ltb place (length (map (set_of n) all_rows)) within))

-- ## Different sets

-- a new set behind different ones
differs_longer : (n : ℕ) (s : Worlds n) (ss : List (Worlds n)) (new : Worlds n) → differs_from n s ss ≡ true → same_set n s new ≡ false → differs_from n s (ss ++ new ∷ []) ≡ true
differs_longer n s [] new differs other = and_from _ _ (not_from_false _ other) refl
differs_longer n s (t ∷ ss) new differs other =
    let parts = and_parts (not (same_set n s t)) (differs_from n s ss) differs in
    and_from _ _ parts.0 (differs_longer n s ss new parts.1 other)

pub different_longer : (n : ℕ) (ss : List (Worlds n)) (new : Worlds n) → all_different n ss ≡ true → none_in n new ≡ false → length ss ≤ place_of n ss new → all_different n (ss ++ new ∷ []) ≡ true
different_longer n [] new fine some absent = and_from _ _ (not_from_false _ some) refl
different_longer n (s ∷ ss) new fine some absent =
    let a = and_parts (not (none_in n s)) (differs_from n s ss && all_different n ss) fine in
    let b = and_parts (differs_from n s ss) (all_different n ss) a.1 in
    let other : same_set n s new ≡ false = cannot_pass _ (λ same. let z = cond-true (same_set n s new) 0 (suc (place_of n ss new)) same in omega arith) in
    let place = cond-false (same_set n s new) 0 (suc (place_of n ss new)) other in
    and_from _ _ a.0 (and_from _ _ (differs_longer n s ss new b.0 other) (different_longer n ss new b.1 some (omega arith)))

differs_shorter : (n : ℕ) (s : Worlds n) (k : ℕ) (ss : List (Worlds n)) → differs_from n s ss ≡ true → differs_from n s (take k ss) ≡ true
differs_shorter n s zero ss differs = refl
differs_shorter n s (suc k) [] differs = refl
differs_shorter n s (suc k) (t ∷ ss) differs =
    let parts = and_parts (not (same_set n s t)) (differs_from n s ss) differs in
    and_from _ _ parts.0 (differs_shorter n s k ss parts.1)

pub different_shorter : (n : ℕ) (k : ℕ) (ss : List (Worlds n)) → all_different n ss ≡ true → all_different n (take k ss) ≡ true
different_shorter n zero ss fine = refl
different_shorter n (suc k) [] fine = refl
different_shorter n (suc k) (s ∷ ss) fine =
    let a = and_parts (not (none_in n s)) (differs_from n s ss && all_different n ss) fine in
    let b = and_parts (differs_from n s ss) (all_different n ss) a.1 in
    and_from _ _ a.0 (and_from _ _ (differs_shorter n s k ss b.0) (different_shorter n k ss b.1))

-- no held set is empty
pub held_some : (n : ℕ) (ss : List (Worlds n)) (i : ℕ) → all_different n ss ≡ true → i < length ss → none_in n (set_at n ss i) ≡ false
held_some n [] i fine h = absurd (omega arith)
held_some n (s ∷ ss) zero fine h = not-true _ (and_parts (not (none_in n s)) (differs_from n s ss && all_different n ss) fine).0
held_some n (s ∷ ss) (suc i) fine h =
    let a = and_parts (not (none_in n s)) (differs_from n s ss && all_different n ss) fine in
    let b = and_parts (differs_from n s ss) (all_different n ss) a.1 in
    held_some n ss i b.1 (omega arith)

-- ## More rows, and fewer

each_longer : (n : ℕ) (rows : List (List ℕ)) (row : List ℕ) → ((i : ℕ) → Tidy n (slice_index_or rows i [])) → Tidy n row → (i : ℕ) → Tidy n (slice_index_or (rows ++ row ∷ []) i [])
each_longer n [] row tidy here zero = here
each_longer n [] row tidy here (suc i) = tidy_none n
each_longer n (r ∷ rows) row tidy here zero = tidy 0
each_longer n (r ∷ rows) row tidy here (suc i) = each_longer n rows row (λ j. tidy (suc j)) here i

pub tidy_longer : (n : ℕ) (rows : List (List ℕ)) (row : List ℕ) → AllTidy n rows → Tidy n row → AllTidy n (rows ++ row ∷ [])
tidy_longer n rows row tidy here = all_tidy n _ (each_longer n rows row (each_tidy n rows tidy) here)

pub tidy_shorter : (n k : ℕ) (rows : List (List ℕ)) → AllTidy n rows → AllTidy n (take k rows)
tidy_shorter n zero rows tidy i = λ j h. bit_zero _
tidy_shorter n (suc k) [] tidy i = λ j h. bit_zero _
tidy_shorter n (suc k) (r ∷ rows) tidy zero = tidy 0
tidy_shorter n (suc k) (r ∷ rows) tidy (suc i) = tidy_shorter n k rows (λ j. tidy (suc j)) i
