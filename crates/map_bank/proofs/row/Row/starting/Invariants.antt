use Rattle.std.proofs.Common.{◌≡◌}
use Rattle.map_bank.proofs.RowLaws.{TrimmedTo}
use Rattle.map_bank.proofs.row.Row.starting.Given as goal

-- of the numbers below the world's, the set has those of the union
abbrev pub invariant-loop-world : goal.invariant-loop-world
invariant-loop-world l = record { same : l.start.conditions ≡ l.n; trimmed : TrimmedTo l.union l.start.words l.world }
