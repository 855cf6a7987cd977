-- Literals and lists of literals in words: every sign is a word.
use Rattle.std.specs.Prelude.{ℕ, suc, List, [], ◌∷◌, ◌++◌, pos, negsuc, codes, decimal}
use Rattle.worlds.specs.Worlds.{Literal}

abbrev pub literal_words : Literal → List ℕ
literal_words (pos p) = codes "condition " ++ decimal p
literal_words (negsuc m) = codes "not condition " ++ decimal (suc m)

-- each further literal after a comma
abbrev pub further_words : List Literal → List ℕ
further_words [] = []
further_words (l ∷ ls) = codes ", " ++ (literal_words l ++ further_words ls)

-- the literals of a list between commas; a list without literals asks nothing
abbrev pub list_words : List Literal → List ℕ
list_words [] = codes "anything"
list_words (l ∷ ls) = literal_words l ++ further_words ls
