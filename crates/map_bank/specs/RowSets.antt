-- The sets that rows keep.
use Rattle.std.specs.Prelude.{◌≡◌, ℕ}
use Rattle.worlds.specs.Worlds.{World}
use Rattle.worlds.specs.Sets.{Worlds}
use Rattle.map_bank.specs.declared.row.Row.{Row}
use Rattle.map_bank.specs.Numbers.{set_of}

-- the set of a row, of worlds of its conditions
abbrev pub worlds_of : (row : Row) → Worlds row.conditions
worlds_of row = set_of row.conditions row.words

-- a row keeps a set of worlds of n conditions
pub record Keeps (row : Row) (n : ℕ) (set : Worlds n) : Type 0 where
  pub conditions : row.conditions ≡ n
  pub worlds : (w : World n) → set_of n row.words w ≡ set w
