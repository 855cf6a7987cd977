-- What each draft holds of the records that were added to it.
use Rattle.std.specs.Prelude.{◌≡◌, ℕ, ◌<◌, true, false, cond, List, [], ◌∷◌, ◌++◌, map, length, Some, None, Ok, Err, Result, ◌==◌, nat_le}
use Rattle.worlds.specs.Worlds.{Literal, speaks_within}
use Rattle.worlds.specs.Steps.{Effect, Outcome, Step}
use Rattle.worlds.specs.Tickets.{lawful_list, lawful_effect, lawful_outcome, lawful_step, clashes, every}
use Rattle.worlds.specs.Meaning.{effect_of}
use Rattle.worlds.specs.declared.step.Effect as code_effect
use Rattle.records.specs.declared.refusal.Refusal.{Refusal}
use Rattle.records.specs.Content.{chain, among, literals_among, literals_from, effect_at, outcome_at, literal_at, list_at, step_at}
use Rattle.records.specs.Judging.{Place, room, under_outcome, under_action, under_sensing, at_top, Judged}
use Rattle.ticket.specs.Drafts.{Sound}

-- a chain at this place takes up to so many literals and nothing else
abbrev pub TakesLiterals : ℕ → Place → Type 0
TakesLiterals most place = (g : ℕ) → room place g ≡ cond (g == 5) most 0

-- a chain of literals: the list has the literals of its records
pub record HoldsLiterals (most : ℕ) (list : List Literal) (f : List ℕ) (n : ℕ) (place : Place) (ks : List ℕ) : Type 0 where
  pub only : TakesLiterals most place
  pub same : list ≡ literals_among f ks
  pub lawful : lawful_list n most list ≡ true

-- a list that was read: the literals of the chain from record k
pub record ListRead (most : ℕ) (f : List ℕ) (n k : ℕ) (list : List Literal) : Type 0 where
  pub same : list ≡ literals_from f k
  pub lawful : lawful_list n most list ≡ true

-- the chain under an outcome: the draft has the effects of its records, which are all of kind 7
pub record HoldsEffects (effects : Outcome) (f : List ℕ) (n : ℕ) (place : Place) (ks : List ℕ) : Type 0 where
  pub where_it_is : place ≡ under_outcome
  pub all : among f 7 ks ≡ ks
  pub same : effects ≡ map (effect_at f) ks
  pub lawful : lawful_outcome n effects ≡ true

-- what reading the effect of record k answers, after the effects of the records ks
pub record EffectRead (f : List ℕ) (n : ℕ) (ks : List ℕ) (k : ℕ) (earlier : Outcome) (e : Effect) : Type 0 where
  pub sound : Sound f n under_outcome ks k
  pub same : e ≡ effect_at f k
  pub lawful : lawful_effect n e ≡ true
  pub apart_from : clashes n earlier e ≡ false
  pub room_left : length earlier < 4

abbrev pub ReadsEffect : List ℕ → ℕ → List ℕ → ℕ → Outcome → Result code_effect.Effect Refusal → Type 0
ReadsEffect f n ks k earlier (Ok e) = EffectRead f n ks k earlier (effect_of e)
ReadsEffect f n ks k earlier (Err r) = (above : ℕ) → Judged f n under_outcome above ks k (Some r)

-- an outcome that was read: the effects of the chain from record k
pub record OutcomeRead (f : List ℕ) (n k : ℕ) (o : Outcome) : Type 0 where
  pub same : o ≡ map (effect_at f) (among f 7 (chain f k))
  pub lawful : lawful_outcome n o ≡ true

-- the chain under an action: the precondition has its literals, the outcomes are those of its records of kind 6
pub record HoldsAction (precondition : List Literal) (outcomes : List Outcome) (f : List ℕ) (n : ℕ) (place : Place) (ks : List ℕ) : Type 0 where
  pub where_it_is : place ≡ under_action
  pub literals : precondition ≡ literals_among f ks
  pub lawful : lawful_list n 32 precondition ≡ true
  pub same : outcomes ≡ map (outcome_at f) (among f 6 ks)
  pub each : every (lawful_outcome n) outcomes ≡ true
  pub few : nat_le (length outcomes) 4 ≡ true

-- what adding the outcome of record k answers, after the records ks
pub record OutcomeAdded (f : List ℕ) (n : ℕ) (ks : List ℕ) (k : ℕ) (was is : List Outcome) : Type 0 where
  pub sound : Sound f n under_action ks k
  pub last : Outcome
  pub longer : is ≡ was ++ last ∷ []
  pub same : last ≡ outcome_at f k
  pub lawful : lawful_outcome n last ≡ true
  pub room_left : length was < 4

abbrev pub AddsOutcome : List ℕ → ℕ → List ℕ → ℕ → List Outcome → List Outcome → Result (Unit {0}) Refusal → Type 0
AddsOutcome f n ks k was is (Ok u) = OutcomeAdded f n ks k was is
AddsOutcome f n ks k was is (Err r) = (above : ℕ) → Judged f n under_action above ks k (Some r)

-- a step that was read is the one that its chain holds
pub record StepRead (n : ℕ) (held s : Step) : Type 0 where
  pub same : s ≡ held
  pub lawful : lawful_step n s ≡ true

-- the chain under a sensing step: the precondition has its literals; the sensed literal is that of its record of kind 8
pub record HoldsSensing (precondition sensed : List Literal) (f : List ℕ) (n : ℕ) (place : Place) (ks : List ℕ) : Type 0 where
  pub where_it_is : place ≡ under_sensing
  pub literals : precondition ≡ literals_among f ks
  pub lawful : lawful_list n 32 precondition ≡ true
  pub same : sensed ≡ map (literal_at f) (among f 8 ks)
  pub within : every (speaks_within n) sensed ≡ true

-- what taking the sensed literal of record k answers, after the records ks: it is the only one
pub record SensedAdded (f : List ℕ) (n : ℕ) (ks : List ℕ) (k : ℕ) (is : List Literal) : Type 0 where
  pub sound : Sound f n under_sensing ks k
  pub only : is ≡ literal_at f k ∷ []
  pub first : among f 8 ks ≡ []
  pub within : speaks_within n (literal_at f k) ≡ true

abbrev pub AddsSensed : List ℕ → ℕ → List ℕ → ℕ → List Literal → Result (Unit {0}) Refusal → Type 0
AddsSensed f n ks k is (Ok u) = SensedAdded f n ks k is
AddsSensed f n ks k is (Err r) = (above : ℕ) → Judged f n under_sensing above ks k (Some r)

-- the top chain: terms (kind 1), the aim (kind 2) and steps (kinds 3 and 4) of its records
pub record HoldsTop (terms aims : List (List Literal)) (steps : List Step) (f : List ℕ) (n : ℕ) (place : Place) (ks : List ℕ) : Type 0 where
  pub where_it_is : place ≡ at_top
  pub terms_same : terms ≡ map (list_at f) (among f 1 ks)
  pub terms_few : nat_le (length terms) 256 ≡ true
  pub terms_lawful : every (lawful_list n 32) terms ≡ true
  pub aims_same : aims ≡ map (list_at f) (among f 2 ks)
  pub aims_lawful : every (lawful_list n 32) aims ≡ true
  pub steps_same : steps ≡ map (step_at f) (among f 3 ks)
  pub steps_few : nat_le (length steps) 32 ≡ true
  pub steps_lawful : every (lawful_step n) steps ≡ true

-- what filling the contents from the top chain, which starts at record k, answers
pub record Filled (f : List ℕ) (n k : ℕ) (terms aims : List (List Literal)) (steps : List Step) : Type 0 where
  pub holds : HoldsTop terms aims steps f n at_top (chain f k)
  pub some_term : 0 < length terms
  pub some_aim : 0 < length aims
  pub faultless : Judged f n at_top 0 [] k None

abbrev pub Fills : List ℕ → ℕ → ℕ → List (List Literal) → List (List Literal) → List Step → Result (Unit {0}) Refusal → Type 0
Fills f n k terms aims steps (Ok u) = Filled f n k terms aims steps
Fills f n k terms aims steps (Err r) = Judged f n at_top 0 [] k (Some r)
