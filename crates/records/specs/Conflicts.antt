-- When effects clash, by their literals alone: for lawful lists this is the same as by worlds.
use Rattle.std.specs.Prelude.{Bool, false, ◌&&◌, ◌||◌, [], ◌∷◌}
use Rattle.worlds.specs.Worlds.{same_literal, opposite, compatible}
use Rattle.worlds.specs.Steps.{Effect, Outcome}

abbrev pub conflict : Effect → Effect → Bool
conflict d e = same_literal (opposite e.result) d.result && compatible d.conditions e.conditions

abbrev pub conflicts : Outcome → Effect → Bool
conflicts [] e = false
conflicts (d ∷ ds) e = conflict d e || conflicts ds e
