-- The parts of a file: its bytes in chunks of eight.
use Rattle.std.proofs.Common.{◌≡◌, ℕ, zero, suc, ◌+◌, ◌*◌, ◌<◌, List, [], get_or, take, drop, refl, ap, ◌∙◌, arith}
use Rattle.std.proofs.lemmas.List.{drop-drop}
use Rattle.std.specs.Simd.{first_chunks}
use Rattle.records.specs.Layout.{part}

-- chunk k is record k
pub chunk_is_part : (count k : ℕ) (f : List ℕ) → k < count → get_or (first_chunks 8 count f) k [] ≡ part f k
chunk_is_part zero k f lt = absurd (omega arith)
chunk_is_part (suc count) zero f lt = refl
chunk_is_part (suc count) (suc k) f lt =
    let shift : 8 + 8 * k ≡ 8 * suc k = omega arith in
    chunk_is_part count k (drop 8 f) (omega arith) ∙ ap (take 8) (drop-drop (8 * k) 8 f ∙ ap (λ j. drop j f) shift)
