-- Where the literal denies its condition, the word is the complement of the condition's truth word.
use Rattle.std.proofs.Common.{◌≡◌, ℕ, ◌+◌, ◌-◌, ◌*◌, nat_abs, ap, ◌∙◌, w16, SFits}
use Rattle.std.proofs.lemmas.Int.{to_z-of_z}
use Rattle.map_bank.specs.Bits.{bit}
use Rattle.map_bank.proofs.WordLaws.{denied_holds}
use Rattle.map_bank.proofs.words.literal_mask.Goals as goal

pub returns-else-literal-gt0 : goal.returns-else-literal-gt0
returns-else-literal-gt0 c =
    let f : SFits w16 c.args.literal = c.ranges.literal in
    let abs : c.unsigned_abs.result ≡ nat_abs c.args.literal = simp to_z-of_z at c.unsigned_abs.ensures.value in
    let size : c.from.result ≡ nat_abs c.args.literal = cc in
    denied_holds c.args.literal c.args.k c.truth_word-truth.result c.requires.0
    (simp to_z-of_z at c.if-literal-gt0.false)
    c.truth_word-truth.type_inv
    (λ b hb. c.truth_word-truth.ensures b hb ∙ ap (λ (p : ℕ). bit (64 * c.args.k + b) (p - 1)) size)
