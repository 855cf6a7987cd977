-- Rows that lie one after another: where each lies, and what stays where one is added or some are cut.
-- Assumes nothing.
use Rattle.std.specs.Prelude.{◌≡◌, ℕ, zero, suc, ◌+◌, ◌*◌, ◌/◌, ◌<◌, ◌≤◌, List, [], ◌∷◌, ◌++◌, length, take, drop, slice_index_or, refl}
use Rattle.std.proofs.Common.{sym, ◌∙◌, ap, subst, append_assoc, add-one, arith, length-drop, length-take-le, drop-drop}
use Rattle.std.proofs.Math.Seq.{take-add}
use Rattle.std.proofs.lemmas.List.{take_at, drop_at}
use Rattle.std.specs.Simd.{first_chunks}
use Rattle.map_bank.specs.Held.{rows_of}

-- row i lies from word 16i on
pub row_is : (count : ℕ) (words : List ℕ) (i : ℕ) (d : List ℕ) → i < count → slice_index_or (rows_of count words) i d ≡ take 16 (drop (16 * i) words)
row_is zero words i d h = absurd (omega arith)
row_is (suc count) words zero d h = refl
row_is (suc count) words (suc i) d h =
    let further : 16 + 16 * i ≡ 16 * suc i = omega arith in
    row_is count (drop 16 words) i d (omega arith)
    ∙ ap (take 16) (drop-drop (16 * i) 16 words ∙ ap (λ (k : ℕ). drop k words) further)

-- the first rows of some rows
pub rows_shorter : (fewer count : ℕ) (words : List ℕ) → fewer ≤ count → take fewer (rows_of count words) ≡ rows_of fewer words
rows_shorter zero count words h = refl
rows_shorter (suc fewer) zero words h = absurd (omega arith)
rows_shorter (suc fewer) (suc count) words h = ap (λ (rows : List (List ℕ)). take 16 words ∷ rows) (rows_shorter fewer count (drop 16 words) (omega arith))

-- the first of all rows that words have room for, where they are lent as rows
pub rows_lent : (count : ℕ) (words : List ℕ) (rows : List (List ℕ)) → rows ≡ first_chunks 16 (length words / 16) words → 16 * count ≤ length words → take count rows ≡ rows_of count words
rows_lent count words rows all room = ap (take count) all ∙ rows_shorter count (length words / 16) words (omega arith)

-- a row written behind the first rows is the next of them
pub rows_longer : (count : ℕ) (words row rest : List ℕ) → length row ≡ 16 → 16 * count ≤ length words → rows_of (suc count) (take (16 * count) words ++ (row ++ rest)) ≡ rows_of count words ++ row ∷ []
rows_longer zero words row rest long h = ap (λ (r : List ℕ). r ∷ []) (take_at row rest 16 long)
rows_longer (suc count) words row rest long h =
    let further : 16 * suc count ≡ 16 + 16 * count = omega arith in
    let front : length (take 16 words) ≡ 16 = length-take-le 16 words (omega arith) in
    let tail : List ℕ = take (16 * count) (drop 16 words) ++ (row ++ rest) in
    let split : take (16 * suc count) words ++ (row ++ rest) ≡ take 16 words ++ tail =
    ap (λ (k : ℕ). take k words ++ (row ++ rest)) further ∙ ap (λ (l : List ℕ). l ++ (row ++ rest)) (take-add 16 (16 * count) words)
    ∙ append_assoc (take 16 words) (take (16 * count) (drop 16 words)) (row ++ rest) in
    let left : 16 * count ≤ length (drop 16 words) = subst (λ (k : ℕ). 16 * count ≤ k) (sym (length-drop 16 words)) (omega arith) in
    ap (rows_of (suc (suc count))) split
    ∙ ap (λ (l : List ℕ). l ∷ rows_of (suc count) (drop 16 (take 16 words ++ tail))) (take_at (take 16 words) tail 16 front)
    ∙ ap (λ (l : List ℕ). take 16 words ∷ rows_of (suc count) l) (drop_at (take 16 words) tail 16 front)
    ∙ ap (λ (rows : List (List ℕ)). take 16 words ∷ rows) (rows_longer count (drop 16 words) row rest long left)

-- the rows after `write_row` behind them
pub rows_written : (count : ℕ) (words row written : List ℕ) → length row ≡ 16 → 16 * count ≤ length words → written ≡ take (16 * count) words ++ (row ++ drop (16 * count + 16) words) → rows_of (count + 1) written ≡ rows_of count words ++ row ∷ []
rows_written count words row written long room is =
    ap (λ (k : ℕ). rows_of k written) (add-one count) ∙ ap (rows_of (suc count)) is ∙ rows_longer count words row (drop (16 * count + 16) words) long room
