-- What the code's own types mean: each has one function into the subject's values.
use Rattle.std.specs.Prelude.{ℕ, List, map, take}
use Rattle.worlds.specs.declared.few.Few.{Few}
use Rattle.worlds.specs.declared.step.Effect as code_effect
use Rattle.worlds.specs.declared.step.Outcome as code_outcome
use Rattle.worlds.specs.declared.step.Step as code_step
use Rattle.worlds.specs.declared.step.Step.TheVariants.{Action, Sensing}
use Rattle.worlds.specs.Steps.{Effect, Outcome, Step, action, sensing}

-- the elements of a list that is kept in place
abbrev pub listed : {T : Type 0} {n : ℕ} → Few T n → List T
listed few = take few.len few.items

abbrev pub effect_of : code_effect.Effect → Effect
effect_of e = record { conditions = listed e.conditions; result = e.result }

abbrev pub outcome_of : code_outcome.Outcome → Outcome
outcome_of o = map effect_of (listed o.effects)

abbrev pub step_of : code_step.Step → Step
step_of (Action a) = action a.class (listed a.precondition) (map outcome_of (listed a.outcomes))
step_of (Sensing s) = sensing s.class (listed s.precondition) s.sensed
