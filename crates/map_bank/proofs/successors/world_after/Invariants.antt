use Rattle.std.specs.Iterator.Adapters.{zip_first, zip_second}
use Rattle.std.specs.Slice.Iter.{iter_rest}
use Rattle.map_bank.proofs.SuccessorLaws.{Left}
use Rattle.map_bank.proofs.successors.world_after.Given as goal

-- what is left of the effects, and of their masks
abbrev pub invariant-loop-effect : goal.invariant-loop-effect
invariant-loop-effect l = record {
  can_next : (goal.iterator-loop-effect).can_next l.effect-iterator;
  is_finite : (goal.iterator-loop-effect).is_finite l.effect-iterator;
  left : Left l.world l.effects (iter_rest (zip_first l.effect-iterator)) (iter_rest (zip_second l.effect-iterator)) l.next;
}
