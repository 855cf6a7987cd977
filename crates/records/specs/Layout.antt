-- The layout of a ticket file: records of eight bytes, numbered from 0, made of little-endian sixteen-bit words.
use Rattle.std.specs.Prelude.{ℕ, ◌+◌, ◌-◌, ◌*◌, Bool, cond, ◌&&◌, ◌||◌, List, [], ◌∷◌, length, take, drop, ℤ, pos, negsuc, ◌==◌, nat_le, nat_lt, slice_index}

-- the word whose low byte stands at i
abbrev pub word : List ℕ → ℕ → ℕ
word bytes i = slice_index bytes i + slice_index bytes (i + 1) * 256

-- a word read in two's complement
abbrev pub signed : ℕ → ℤ
signed w = cond (nat_lt w 32768) (pos w) (negsuc (65535 - w))

-- the four words of a record: kind, value, the first record of the chain under it, its follower
abbrev pub kind : List ℕ → ℕ
kind r = word r 0

abbrev pub value : List ℕ → ℤ
value r = signed (word r 2)

abbrev pub below : List ℕ → ℕ
below r = word r 4

abbrev pub next : List ℕ → ℕ
next r = word r 6

-- the eight bytes of record k
abbrev pub part : List ℕ → ℕ → List ℕ
part f k = take 8 (drop (8 * k) f)

-- whether record k lies inside the file
abbrev pub inside : List ℕ → ℕ → Bool
inside f k = nat_le (8 * k + 8) (length f)

-- a link of record k ends the chain, by zero, or leads on to a later record of the file
abbrev pub leads_on : List ℕ → ℕ → ℕ → Bool
leads_on f k link = link == 0 || (nat_lt k link && inside f link)

abbrev pub links_good : List ℕ → ℕ → Bool
links_good f k = leads_on f k (below (part f k)) && leads_on f k (next (part f k))

-- the four bytes TKT1, with which record 0 opens
abbrev pub mark : List ℕ
mark = 84 ∷ 75 ∷ 84 ∷ 49 ∷ []

-- record 0 then holds the number of conditions and the first record of the top chain
abbrev pub conditions : List ℕ → ℕ
conditions f = word f 4

abbrev pub top : List ℕ → ℕ
top f = word f 6

-- steps, which are actions (3) and sensing steps (4), are counted together; every other kind is counted by itself
abbrev pub group : ℕ → ℕ
group kd = cond (kd == 4) 3 kd
