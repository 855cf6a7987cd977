use Rattle.std.proofs.Common.{◌≡◌, length}
use Rattle.map_bank.proofs.SuccessorLaws.{MaskedFirst}
use Rattle.map_bank.proofs.successors.effect_masks.Given as goal

abbrev pub invariant-loop-i : goal.invariant-loop-i
invariant-loop-i l = record { four : length l.masks ≡ 4; masked : MaskedFirst l.i l.k l.effects l.masks }
