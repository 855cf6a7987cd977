-- How the two tallies add.
use Rattle.std.specs.Prelude.{if◌then◌else◌, ℕ, ◌+◌, nat_lt}
use Rattle.worlds.specs.Steps.{Step, action, sensing}

-- one more, but 65,535 stays as it is
abbrev pub one_more : ℕ → ℕ
one_more n = if nat_lt n 65535 then n + 1 else n

-- the class of a step
abbrev pub class_of : Step → ℕ
class_of (action class precondition outcomes) = class
class_of (sensing class precondition sensed) = class
