-- One round: the tentative totals of the nodes, and the least of them.
use Rattle.std.specs.Prelude.{if◌then◌else◌, ℕ, zero, suc, Bool, List, length, Some, None, Option, option_and_then, slice_index_or}
use Rattle.std.specs.Option.{option_map}
use Rattle.worlds.specs.Steps.{Step}
use Rattle.worlds.specs.Tickets.{step_at}
use Rattle.theory.specs.Procedures.{larger}
use Rattle.rounds.specs.declared.graph.Move.{Move}
use Rattle.rounds.specs.declared.graph.Move.TheVariants.{Go, Fork}
use Rattle.rounds.specs.declared.graph.Tentative.{Tentative}
use Rattle.rounds.specs.Graph.{Graph}

-- the total of a node so far: none where it is not settled yet, or is no node
abbrev pub total_at : {T : Type 0} → List (Option T) → ℕ → Option T
total_at totals i = slice_index_or totals i None

-- what is tried at a node, but none where the node has a total already
abbrev pub unless_settled : {T : Type 0} → Option T → Option (Tentative T) → Option (Tentative T)
unless_settled (Some t) tried = None
unless_settled None tried = tried

module _ {T : Type 0} (le : T → T → Bool) where
  -- the larger of two totals, where there are both
  abbrev pub both : Option T → Option T → Option T
  both None b = None
  both (Some a) None = None
  both (Some a) (Some b) = Some (larger le a b)

  -- what follows a move: the larger total of the nodes that it leads to, where all of them are settled
  abbrev pub rest_total : List (Option T) → Option Move → Option T
  rest_total totals None = None
  rest_total totals (Some (Go next)) = total_at totals next
  rest_total totals (Some (Fork next other)) = both (total_at totals next) (total_at totals other)

  -- the one of two with the smaller total; the earlier where they tie
  abbrev pub better_of : Tentative T → Tentative T → Tentative T
  better_of a b = if le a.total b.total then a else b

  -- the same of two that there may be
  abbrev pub better : Option (Tentative T) → Option (Tentative T) → Option (Tentative T)
  better None later = later
  better (Some a) None = Some a
  better (Some a) (Some b) = Some (better_of a b)

  -- the best of those that a rule gives for the numbers below n
  abbrev pub best_below : (ℕ → Option (Tentative T)) → ℕ → Option (Tentative T)
  best_below rule zero = None
  best_below rule (suc n) = better (best_below rule n) (rule n)

module _ {T : Type 0} (le : T → T → Bool) (nothing : T) (add : Step → T → T) where
  -- step k, which is x, taken at node i before a rest
  abbrev pub taken : (i k : ℕ) → (x : Step) → (rest : T) → Tentative T
  taken i k x rest = record { node = i; step = Some k; total = add x rest }

  -- the tentative total of node i by step k, which is x and leads there as `to` says
  abbrev pub by_step : List (Option T) → (i k : ℕ) → (to : Option Move) → (x : Step) → Option (Tentative T)
  by_step totals i k to x = option_map (taken i k x) (rest_total le totals to)

  -- the least by any step
  abbrev pub best_step : Graph → List (Option T) → (i : ℕ) → Option (Tentative T)
  best_step g totals i = best_below le (λ k. option_and_then (by_step totals i k (g.move i k)) (step_at g.steps k)) (length g.steps)

  -- the least tentative total of a node: nothing where it ends, else by a step; none where it is settled
  abbrev pub tentative : Graph → List (Option T) → ℕ → Option (Tentative T)
  tentative g totals i =
      unless_settled (total_at totals i)
      (if g.ends i then Some (record { node = i; step = None; total = nothing }) else best_step g totals i)

  -- the least of all nodes, which is settled in this round
  abbrev pub best_node : Graph → List (Option T) → Option (Tentative T)
  best_node g totals = best_below le (tentative g totals) (length totals)
