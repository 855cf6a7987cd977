-- Word world / 64 gets bit world % 64, and every other bit stays.
use Rattle.std.proofs.Common.{ℕ, ◌/◌, ◌%◌, get_or, set, ap, ◌∙◌, arith}
use lib.Bits.{bit_or}
use Rattle.std.proofs.lemmas.Nat.{one_shl}
use Rattle.map_bank.specs.Numbers.{in_words}
use Rattle.map_bank.proofs.WordLaws.{in_with_world}
use Rattle.map_bank.proofs.words.put.Goals as goal

pub returns : goal.returns
returns c =
    let words = c.args.words.now in
    let world = c.args.world in
    λ k. ap (λ (one : ℕ). in_words (set words (world / 64) (bit_or (get_or words (world / 64) 0) one)) k)
    (one_shl (world % 64) 64 (omega arith))
    ∙ in_with_world words world (omega arith) k
