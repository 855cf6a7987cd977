-- The words of a list, one literal at a time.
use Rattle.std.proofs.Common.{◌≡◌, ℕ, ◌+◌, ◌<◌, List, [], ◌∷◌, ◌++◌, length, get_or, take, pos, codes, sym, ap, ◌∙◌, append_assoc, append-nil, add-one, take-suc}
use Rattle.worlds.specs.Worlds.{Literal}
use Rattle.show.specs.Words.{literal_words, further_words}

further_snoc : (ls : List Literal) (l : Literal) → further_words (ls ++ l ∷ []) ≡ further_words ls ++ (codes ", " ++ literal_words l)
further_snoc [] l = ap (λ w. codes ", " ++ w) (append-nil (literal_words l))
further_snoc (k ∷ ls) l =
    ap (λ w. codes ", " ++ (literal_words k ++ w)) (further_snoc ls l)
    ∙ ap (λ w. codes ", " ++ w) (sym (append_assoc (literal_words k) (further_words ls) (codes ", " ++ literal_words l)))

-- one literal more
pub further_more : (ls : List Literal) (i : ℕ) → i < length ls → further_words (take (i + 1) ls) ≡ further_words (take i ls) ++ (codes ", " ++ literal_words (get_or ls i (pos 0)))
further_more ls i h = ap (λ j. further_words (take j ls)) (add-one i) ∙ ap further_words (take-suc ls i (pos 0) h) ∙ further_snoc (take i ls) (get_or ls i (pos 0))
