-- Rows of sixteen words: what a loop over the words shows of the set that a row keeps.
-- Assumes nothing.
use Rattle.std.proofs.Common.{◌≡◌, ℕ, zero, suc, ◌+◌, ◌-◌, ◌*◌, ◌/◌, ◌%◌, ◌^◌, ◌<◌, ◌≤◌, Bool, true, false, not, ◌&&◌, ◌||◌, eqb, ltb, leb, List, [], ◌∷◌, length, get_or, drop, sym, ap, ◌∙◌, subst, inl, inr, pow-suc, add-one, zero-add, arith, drop-cons, pow_mono}
use lib.Bits.{bit_and, bit_or}
use lib.Seq.{drop-length}
use Rattle.std.specs.Fn.{Called}
use Rattle.std.specs.Bool.{MatchBool}
use Rattle.std.specs.List.{AllWithin, HoldsAt, range_with_len}
use denote.Param.Members.{Mut}
use Rattle.std.specs.Array.{IsFromFnResultFrom, IsFromFnResult}
use Rattle.std.proofs.lemmas.List.FromFn.{length-range_with_len, get_or-range_with_len}
use Rattle.std.proofs.lemmas.Nat.{one_shl}
use Rattle.std.proofs.lemmas.Bool.{both_ways, eqb-false, lt-ltb, cases_eq, cases_lt, cases_Bool, and_parts, and_left}
use Rattle.std.proofs.lemmas.Bool.Decides.{nat_tests}
use Rattle.worlds.specs.Worlds.{World, holds, Literal, meets, some_world, speaks_within, consistent}
use Rattle.worlds.specs.Tickets.{meets_some, every, lawful_list}
use Rattle.worlds.specs.Sets.{all_meet, none_in, same_value, side}
use Rattle.worlds.proofs.Compatible.{cannot_pass, some_world_from, the_world}
use Rattle.map_bank.specs.Bits.{bit}
use Rattle.map_bank.specs.Numbers.{number, world_of, in_words, set_of}
use Rattle.map_bank.specs.Rows.{Tidy}
use Rattle.map_bank.proofs.BitLaws.{bit_of_and, bit_of_or, bit_lowest, bit_above, bit_zero, bit_complement}
use Rattle.map_bank.proofs.CanonLaws.{in_row}
use Rattle.map_bank.proofs.NumberLaws.{number_lt, number_below, number_of_world}
use Rattle.map_bank.proofs.TicketLaws.{every_more, all_speak_wider}
use Rattle.std.proofs.Math.Bool.{and-true, or-false, or_assoc}
use Rattle.map_bank.proofs.WordLaws.{every_from}

-- ## A row made word by word

-- sixteen words are as a rule has them
abbrev pub Words : (ℕ → ℕ → Type 0) → List ℕ → Type 0
Words rule words = (length words ≡ 16) × ((j : ℕ) → j < 16 → rule j (get_or words j 0))

-- the words that a function makes, call by call, are as the rule has them, where it keeps nothing between calls
made_from : {F : Type 0} (g : Mut F (ℕ × Unit {0}) ℕ) (rule : ℕ → ℕ → Type 0) (f : F) → ((j word : ℕ) (q : F) → j < 16 → Called g f (j, tt) word q → rule j word × (q ≡ f)) → (words : List ℕ) (i m : ℕ) → i + m ≤ 16 → IsFromFnResultFrom g f words i m → (j : ℕ) → i ≤ j → j < i + m → rule j (get_or words j 0)
made_from g rule f says words i zero end made j low high = absurd (omega arith)
made_from {F} g rule f says words i (suc m) end made j low high =
    let told = says i made.1 made.0 (omega arith) made.3 in
    elim (cases_eq j i) [
      | inl same ↦ subst (λ (k : ℕ). rule k (get_or words k 0)) (sym same) (subst (rule i) (sym (made.2.1 0)) told.0)
      | inr other ↦
          made_from g rule f says words (i + 1) m (omega arith)
          (subst (λ (q : F). IsFromFnResultFrom g q words (i + 1) m) told.1 made.4) j (omega arith) (omega arith)
    ]

pub made_words : {F : Type 0} (g : Mut F (ℕ × Unit {0}) ℕ) (rule : ℕ → ℕ → Type 0) (f : F) → ((j word : ℕ) (q : F) → j < 16 → Called g f (j, tt) word q → rule j word × (q ≡ f)) → (words : List ℕ) → IsFromFnResult g f words 16 → Words rule words
made_words g rule f says words made = (made.long, λ j h. made_from g rule f says words 0 16 (omega arith) made.each j (omega arith) h)

-- the word of a world number below 1024
pub words_all : (rule : ℕ → ℕ → Type 0) (words : List ℕ) → Words rule words → (k : ℕ) → k < 1024 → rule (k / 64) (get_or words (k / 64) 0)
words_all rule words first k h = first.1 (k / 64) (omega arith)

-- a world number is that of its word and its bit
rejoined : (k : ℕ) → 64 * (k / 64) + k % 64 ≡ k
rejoined k = omega arith

-- ## The worlds of a row that do not meet a list

-- what is known of the word of the worlds that meet a list
abbrev pub MeetWord : List Literal → ℕ → ℕ → Type 0
MeetWord list j mask = (n : ℕ) (w : World n) (b : ℕ) → b < 64 → number n w ≡ 64 * j + b → bit mask b ≡ meets n w list

-- the bits of `word & !mask`
bit_outside : (word mask b : ℕ) → mask < 2 ^ 64 → b < 64 → bit (bit_and word (2 ^ 64 - 1 - mask)) b ≡ (bit word b && not (bit mask b))
bit_outside word mask b small hb =
    bit_of_and word (2 ^ 64 - 1 - mask) b ∙ ap (λ (x : Bool). bit word b && x) (bit_complement mask b small hb)

-- word j of the worlds of a row that do not meet a list
abbrev pub OutsideWord : List ℕ → List Literal → ℕ → ℕ → Type 0
OutsideWord row list j word = (n : ℕ) (w : World n) (b : ℕ) → b < 64 → number n w ≡ 64 * j + b → bit word b ≡ (bit (get_or row j 0) b && not (meets n w list))

pub outside_word : (row : List ℕ) (list : List Literal) (j mask : ℕ) → mask < 2 ^ 64 → MeetWord list j mask → OutsideWord row list j (bit_and (get_or row j 0) (2 ^ 64 - 1 - mask))
outside_word row list j mask small right n w b hb is =
    bit_outside (get_or row j 0) mask b small hb ∙ ap (λ (x : Bool). bit (get_or row j 0) b && not x) (right n w b hb is)

outside_worlds_at : (row made : List ℕ) (list : List Literal) → Words (OutsideWord row list) made → (n : ℕ) → n ≤ 10 → (w : World n) → set_of n made w ≡ (set_of n row w && not (meets n w list))
outside_worlds_at row made list first n few w =
    words_all (OutsideWord row list) made first (number n w) (number_below n w few) n w (number n w % 64) (omega arith) (sym (rejoined (number n w)))

pub outside_worlds : (n : ℕ) (row made : List ℕ) (list : List Literal) → n ≤ 10 → Words (OutsideWord row list) made → (w : World n) → set_of n made w ≡ (set_of n row w && not (meets n w list))
outside_worlds n row made list few first = outside_worlds_at row made list first n few

pub outside_tidy : (n : ℕ) (row made : List ℕ) (list : List Literal) → n ≤ 10 → Tidy n row → Words (OutsideWord row list) made → Tidy n made
outside_tidy n row made list few tidy first k beyond h =
    let is : number 10 (world_of 10 k) ≡ k = number_of_world 10 k h in
    ap (in_words made) (sym is) ∙ outside_worlds_at row made list first 10 (omega arith) (world_of 10 k)
    ∙ and_left _ _ (ap (in_words row) is ∙ tidy k beyond h)

-- the side of a literal has the worlds that do not meet what is denied there
pub side_outside : (n : ℕ) (row made : List ℕ) (l denied : Literal) (so : Bool) → ((m : ℕ) (w : World m) → not (holds m w denied) ≡ same_value so (holds m w l)) → ((w : World n) → set_of n made w ≡ (set_of n row w && not (meets n w (denied ∷ [])))) → (w : World n) → set_of n made w ≡ side n l so (set_of n row) w
side_outside n row made l denied so turned outside w =
    outside w ∙ ap (λ (x : Bool). set_of n row w && not x) (and-true (holds n w denied)) ∙ ap (λ (x : Bool). set_of n row w && x) (turned n w)

-- ## A row asked word by word

pub nonzero_bit : (k x : ℕ) → x < 2 ^ k → (x ≡ 0 → ⊥) → (b : ℕ) × (b < k) × (bit x b ≡ true)
nonzero_bit zero x small some = absurd (some (omega arith))
nonzero_bit (suc k) x small some =
    elim (cases_Bool (eqb (x % 2) 1)) [
      | inl odd ↦ (0, omega arith, bit_lowest x ∙ odd)
      | inr even ↦
          let twice : 2 ^ suc k ≡ 2 ^ k * 2 = pow-suc 2 k in
          let above = nonzero_bit k (x / 2) (omega arith) (λ none. some (let not-one : x % 2 ≡ 1 → ⊥ = eqb-false (x % 2) 1 even in omega arith)) in
          (suc above.0, omega arith, bit_above x above.0 ∙ above.2)
    ]

-- a tidy row's bit of a number is that of a world
tidy_world : (n : ℕ) (row : List ℕ) (k : ℕ) → Tidy n row → k < 1024 → in_words row k ≡ true → (w : World n) × (number n w ≡ k)
tidy_world n row k tidy h has =
    elim (cases_lt k (2 ^ n)) [
      | inl below ↦ (world_of n k, number_of_world n k below)
      | inr beyond ↦ absurd (both_ways (in_words row k) (tidy k beyond h) has)
    ]

pub tidy_below : (n : ℕ) (row : List ℕ) (k : ℕ) → Tidy n row → k < 1024 → in_words row k ≡ true → k < 2 ^ n
tidy_below n row k tidy h has =
    elim (cases_lt k (2 ^ n)) [ inl below ↦ below | inr beyond ↦ absurd (both_ways (in_words row k) (tidy k beyond h) has) ]

-- that no world passes a test, and that some world does
none_from : (n : ℕ) (test : World n → Bool) → ((w : World n) → test w ≡ true → ⊥) → true ≡ not (some_world n test)
none_from n test never =
    sym (ap not (cannot_pass (some_world n test) (λ some. let found = the_world n test some in never found.0 found.1)))

some_from : (n : ℕ) (test : World n → Bool) (w : World n) → test w ≡ true → false ≡ not (some_world n test)
some_from n test w passes = sym (ap not (some_world_from n test w passes))

-- ## A row without worlds

pub row_none : (row : List ℕ) → ((j : ℕ) → j < 16 → get_or row j 0 ≡ 0) → (n : ℕ) → n ≤ 10 → true ≡ none_in n (set_of n row)
row_none row all n few =
    none_from n (set_of n row) (λ w has.
    let k = number n w in
    let below : k < 1024 = number_below n w few in
    both_ways (in_words row k) (ap (λ (x : ℕ). bit x (k % 64)) (all (k / 64) (omega arith)) ∙ bit_zero (k % 64)) has)

pub row_some : (row : List ℕ) (j : ℕ) → j < 16 → get_or row j 0 < 2 ^ 64 → (get_or row j 0 ≡ 0 → ⊥) → (n : ℕ) → Tidy n row → false ≡ none_in n (set_of n row)
row_some row j hj fits some n tidy =
    let found = nonzero_bit 64 (get_or row j 0) fits some in
    let b = found.0 in
    let has : in_words row (64 * j + b) ≡ true = in_row row j b found.1 ∙ found.2 in
    let world = tidy_world n row (64 * j + b) tidy (let low : b < 64 = found.1 in omega arith) has in
    some_from n (set_of n row) world.0 (ap (in_words row) world.1 ∙ has)

-- what is told of all words of a row tells whether its set is empty
pub empty_row : (n : ℕ) (row : List ℕ) (told : Bool) → n ≤ 10 → Tidy n row → length row ≡ 16 → MatchBool told (AllWithin (λ (x : ℕ). x ≡ 0) row 0 (length row)) ((j : ℕ) × (j < length row) × HoldsAt (λ (x : ℕ). (x ≡ 0 → ⊥) × (x < 2 ^ 64)) row j) → told ≡ none_in n (set_of n row)
empty_row n row true few tidy long all = row_none row (λ j h. all j 0 (omega arith) (omega arith)) n few
empty_row n row false few tidy long some = row_some row some.0 (let h : some.0 < length row = some.1 in omega arith) (some.2 0).1 (some.2 0).0 n tidy

-- ## A list asked word by word

-- the word of the worlds of word j that do not meet a list is 0, or it is not
abbrev pub NoneOutside : List ℕ → List Literal → ℕ → Type 0
NoneOutside row list j = OutsideWord row list j 0

abbrev pub SomeOutside : List ℕ → List Literal → ℕ → Type 0
SomeOutside row list j = (word : ℕ) × (word < 2 ^ 64) × (word ≡ 0 → ⊥) × OutsideWord row list j word

-- a bit of such a word is that of a world of the row, since the row is tidy
some_unmet : (n : ℕ) (row : List ℕ) (list : List Literal) (j : ℕ) → j < 16 → Tidy n row → SomeOutside row list j → false ≡ all_meet n (set_of n row) list
some_unmet n row list j hj tidy there =
    let found = nonzero_bit 64 there.0 there.1 there.2 in
    let b = found.0 in
    let low : b < 64 = found.1 in
    let k = 64 * j + b in
    let below : k < 1024 = omega arith in
    let ten = world_of 10 k in
    let parts = and_parts (bit (get_or row j 0) b) (not (meets 10 ten list)) (sym (there.3 10 ten b low (number_of_world 10 k below)) ∙ found.2) in
    let world = tidy_world n row k tidy below (in_row row j b low ∙ parts.0) in
    some_from n (λ w. set_of n row w && not (meets n w list)) world.0
    (ap (λ (x : Bool). x && not (meets n world.0 list)) (ap (in_words row) world.1 ∙ in_row row j b low) ∙ sym (there.3 n world.0 b low world.1) ∙ found.2)

-- number j of the numbers below 16
sixteen : (j : ℕ) → j < 16 → get_or (range_with_len 0 16) j 0 ≡ j
sixteen j h = get_or-range_with_len 0 16 j 0 h ∙ zero-add j

-- what is told of all words tells whether the set of a row meets a list
pub meets_by_words : (n : ℕ) (row : List ℕ) (list : List Literal) (told : Bool) → n ≤ 10 → Tidy n row → MatchBool told (AllWithin (NoneOutside row list) (range_with_len 0 16) 0 (length (range_with_len 0 16))) ((j : ℕ) × (j < length (range_with_len 0 16)) × HoldsAt (SomeOutside row list) (range_with_len 0 16) j) → told ≡ all_meet n (set_of n row) list
meets_by_words n row list true few tidy all =
    none_from n (λ w. set_of n row w && not (meets n w list)) (λ w outside.
    let k = number n w in
    let below : k < 1024 = number_below n w few in
    let word : k / 64 < 16 = omega arith in
    let none : NoneOutside row list (k / 64) = subst (NoneOutside row list) (sixteen (k / 64) word) (all (k / 64) 0 (omega arith) (omega (arith, length-range_with_len 0 16))) in
    both_ways (set_of n row w && not (meets n w list)) (sym (none n w (k % 64) (omega arith) (sym (rejoined k))) ∙ bit_zero (k % 64)) outside)
meets_by_words n row list false few tidy some =
    let h : some.0 < 16 = omega (arith, some.1, length-range_with_len 0 16) in
    some_unmet n row list some.0 h tidy (subst (SomeOutside row list) (sixteen some.0 h) (some.2 0))

-- ## The worlds that meet at least one term

-- a world meets some of the lists where its bit in word k is one or it meets some of the rest
abbrev Joins : ℕ → ℕ → List (List Literal) → List (List Literal) → Type 0
Joins mask k lists rest =
    (n : ℕ) (w : World n) (b : ℕ) → b < 64 → number n w ≡ 64 * k + b → meets_some n w lists ≡ (bit mask b || meets_some n w rest)

joins_more : (mask more k : ℕ) (lists rest : List (List Literal)) (list : List Literal) → Joins mask k lists (list ∷ rest) → MeetWord list k more → Joins (bit_or mask more) k lists rest
joins_more mask more k lists rest list before right n w b hb is =
    before n w b hb is
    ∙ ap (λ (x : Bool). bit mask b || (x || meets_some n w rest)) (sym (right n w b hb is))
    ∙ sym (or_assoc (bit mask b) (bit more b) (meets_some n w rest))
    ∙ ap (λ (x : Bool). x || meets_some n w rest) (sym (bit_of_or mask more b))

-- word k after the first i lists: their worlds, and the lists left to come are of conditions 1 to 10
abbrev pub JoinsFirst : ℕ → ℕ → List (List Literal) → ℕ → Type 0
JoinsFirst mask k lists i = (every (every (speaks_within 10)) (drop i lists) ≡ true) × Joins mask k lists (drop i lists)

pub joins_first_within : (mask k : ℕ) (lists : List (List Literal)) (i : ℕ) → i < length lists → JoinsFirst mask k lists i → every (speaks_within 10) (get_or lists i []) ≡ true
joins_first_within mask k lists i h first = (every_from (every (speaks_within 10)) lists i [] h first.0).0

pub joins_first_more : (mask more k : ℕ) (lists : List (List Literal)) (i : ℕ) → i < length lists → JoinsFirst mask k lists i → MeetWord (get_or lists i []) k more → JoinsFirst (bit_or mask more) k lists (i + 1)
joins_first_more mask more k lists i h first right =
    let here : Joins mask k lists (get_or lists i [] ∷ drop (suc i) lists) =
    subst (λ (rest : List (List Literal)). Joins mask k lists rest) (drop-cons lists i [] h) first.1 in
    subst (JoinsFirst (bit_or mask more) k lists) (sym (add-one i)) (
      (every_from (every (speaks_within 10)) lists i [] h first.0).1,
      joins_more mask more k lists (drop (suc i) lists) (get_or lists i []) here right,
    )

-- word k of the worlds that meet some of the lists
abbrev pub UnionWord : List (List Literal) → ℕ → ℕ → Type 0
UnionWord lists k word = (n : ℕ) (w : World n) (b : ℕ) → b < 64 → number n w ≡ 64 * k + b → bit word b ≡ meets_some n w lists

pub joins_first_all : (mask k : ℕ) (lists : List (List Literal)) (i : ℕ) → i ≡ length lists → JoinsFirst mask k lists i → UnionWord lists k mask
joins_first_all mask k lists i end first n w b hb is =
    let rest : drop i lists ≡ [] = ap (λ (j : ℕ). drop j lists) end ∙ drop-length lists in
    sym (subst (λ (ls : List (List Literal)). Joins mask k lists ls) rest first.1 n w b hb is ∙ or-false (bit mask b))

pub union_worlds : (lists : List (List Literal)) (made : List ℕ) → Words (UnionWord lists) made → (n : ℕ) → n ≤ 10 → (w : World n) → set_of n made w ≡ meets_some n w lists
union_worlds lists made first n few w =
    words_all (UnionWord lists) made first (number n w) (number_below n w few) n w (number n w % 64) (omega arith)
    (sym (rejoined (number n w)))

-- ## A row without the bits beyond its worlds

-- `1 << n` is the number of worlds of n conditions, at most 1024
pub shift_worlds : (n : ℕ) → n ≤ 10 → (1 * 2 ^ n) % 2 ^ 64 ≡ 2 ^ n
shift_worlds n few = one_shl n 64 (omega arith)

pub few_worlds : (n : ℕ) → n ≤ 10 → 2 ^ n ≤ 1024
few_worlds n few = pow_mono few

-- of the numbers below i, a set has those that the row has, and no other
abbrev pub TrimmedTo : List ℕ → List ℕ → ℕ → Type 0
TrimmedTo row kept i = (k : ℕ) → in_words kept k ≡ (ltb k i && in_words row k)

below_with : (k i : ℕ) (x : Bool) → (k ≡ i → x ≡ true) → ((ltb k i && x) || eqb k i) ≡ (ltb k (i + 1) && x)
below_with k i x here = grind (arith, nat_tests)

below_without : (k i : ℕ) (x : Bool) → (k ≡ i → x ≡ false) → (ltb k i && x) ≡ (ltb k (i + 1) && x)
below_without k i x here = grind (arith, nat_tests)

pub trimmed_with : (row kept after : List ℕ) (i : ℕ) → in_words row i ≡ true → ((k : ℕ) → in_words after k ≡ (in_words kept k || eqb k i)) → TrimmedTo row kept i → TrimmedTo row after (i + 1)
trimmed_with row kept after i has puts before k =
    puts k ∙ ap (λ (x : Bool). x || eqb k i) (before k)
    ∙ below_with k i (in_words row k) (λ e. ap (in_words row) e ∙ has)

pub trimmed_without : (row kept : List ℕ) (i : ℕ) → in_words row i ≡ false → TrimmedTo row kept i → TrimmedTo row kept (i + 1)
trimmed_without row kept i lacks before k =
    before k ∙ below_without k i (in_words row k) (λ e. ap (in_words row) e ∙ lacks)

-- ## The starting worlds

-- lawful lists of n conditions are of conditions 1 to 10 where n is at most 10
pub lawful_speak : (n : ℕ) → n ≤ 10 → (lists : List (List Literal)) → every (lawful_list n 32) lists ≡ true → every (every (speaks_within 10)) lists ≡ true
lawful_speak n few lists lawful =
    every_more (lawful_list n 32) (every (speaks_within 10)) (λ ls one.
    let speaks = (and_parts (leb (length ls) 32) (every (speaks_within n) ls && consistent ls) one).1 in
    all_speak_wider n ls few (and_parts (every (speaks_within n) ls) (consistent ls) speaks).0)
    lists lawful

pub start_worlds : (n : ℕ) (lists : List (List Literal)) (union made : List ℕ) → ((w : World n) → set_of n union w ≡ meets_some n w lists) → TrimmedTo union made (2 ^ n) → (w : World n) → set_of n made w ≡ meets_some n w lists
start_worlds n lists union made joined trims w =
    trims (number n w)
    ∙ ap (λ (x : Bool). x && set_of n union w) (lt-ltb (number n w) (2 ^ n) (number_lt n w))
    ∙ joined w
