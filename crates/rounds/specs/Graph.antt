-- A search graph over numbers, its finite procedures and their totals.
use Rattle.std.specs.Prelude.{◌≡◌, ℕ, ◌<◌, min, Bool, true, false, List, map, length, Some, None, Option, option_and_then, slice_get, slice_index_or}
use Rattle.worlds.specs.Steps.{Step}
use Rattle.worlds.specs.Tickets.{step_at}
use Rattle.worlds.specs.Meaning.{step_of}
use Rattle.theory.specs.Procedures.{larger}
use Rattle.rounds.specs.declared.graph.Graph as code_graph
use Rattle.rounds.specs.declared.graph.Move.{Move}
use Rattle.rounds.specs.declared.graph.Move.TheVariants.{Go, Fork}

-- a search graph: nodes 0 to size - 1 stand for held sets; for each node and step number there is a move, or none: of an
-- action to the next node, or of a sensing step to the nodes for yes and for no; `ends` says where a procedure may end
pub record Graph : Type 0 where
  pub size : ℕ
  pub steps : List Step
  pub move : ℕ → ℕ → Option Move
  pub ends : ℕ → Bool

-- where a step leads from a node: a number that has no row has no moves, nor has a node one by a step that is not in its row
abbrev pub move_at : List (List (Option Move)) → (i k : ℕ) → Option Move
move_at moves i k = option_and_then (λ (row : List (Option Move)). slice_index_or row k None) (slice_get moves i)

-- whether a procedure may end at a node: at a number of which nothing is said it may not
abbrev pub ends_at : List Bool → (i : ℕ) → Bool
ends_at ends i = slice_index_or ends i false

-- the graph of so many nodes that the code's graph gives
abbrev pub graph_of : code_graph.Graph → (size : ℕ) → Graph
graph_of g size = record {
  size = size;
  steps = map step_of g.steps.now;
  move = move_at g.moves.now;
  ends = ends_at g.ends.now;
}

-- how many nodes four lists have: those numbers that are places of each
abbrev pub nodes_in : {A B C D : Type 0} → List A → List B → List C → List D → ℕ
nodes_in moves ends totals marks = min (min (length moves) (length ends)) (min (length totals) (length marks))

-- a finite procedure from a node: it ends where it may; or it takes a step by a move to nodes, and goes on from each of
-- them. A move to a number that is not a node is as good as none
pub data NumberedWay (g : Graph) : ℕ → Type 0 where
  end : (i : ℕ) → g.ends i ≡ true → NumberedWay g i
  by_action : (i k next : ℕ) (x : Step) →
      step_at g.steps k ≡ Some x → g.move i k ≡ Some (Go next) → next < g.size →
      NumberedWay g next →
      NumberedWay g i
  by_sensing : (i k next other : ℕ) (x : Step) →
      step_at g.steps k ≡ Some x → g.move i k ≡ Some (Fork next other) → next < g.size → other < g.size →
      NumberedWay g next → NumberedWay g other →
      NumberedWay g i

module _ {T : Type 0} (le : T → T → Bool) (nothing : T) (add : Step → T → T) where
  -- its total: nothing where it ends, otherwise the step added to the larger total of what follows
  abbrev pub numbered_total : {g : Graph} {i : ℕ} → NumberedWay g i → T
  numbered_total (end i ended) = nothing
  numbered_total (by_action i k next x of_steps moves to_node rest) = add x (numbered_total rest)
  numbered_total (by_sensing i k next other x of_steps moves to_next to_other on_yes on_no) =
      add x (larger le (numbered_total on_yes) (numbered_total on_no))
