-- What a settled graph keeps: least totals, and how each node was settled.
use Rattle.std.specs.Prelude.{◌≡◌, ℕ, ◌<◌, Bool, true, List, drop, Some, None, Option, slice_index_or}
use Rattle.worlds.specs.Steps.{Step}
use Rattle.worlds.specs.Tickets.{step_at}
use Rattle.theory.specs.Procedures.{larger}
use Rattle.theory.specs.Bounds.{Least}
use Rattle.rounds.specs.declared.graph.Move.{Move}
use Rattle.rounds.specs.declared.graph.Move.TheVariants.{Go, Fork}
use Rattle.rounds.specs.declared.graph.Mark.{Mark}
use Rattle.rounds.specs.Graph.{Graph, NumberedWay, numbered_total}
use Rattle.rounds.specs.Rounds.{total_at}

-- how and when a node was settled; what stands for numbers without a mark does not matter
abbrev pub mark_at : List Mark → ℕ → Mark
mark_at marks i = slice_index_or marks i (record { step = None; rank = 0 })

-- that node j was settled at total t, and before a rank
pub record Before {T : Type 0} (g : Graph) (totals : List (Option T)) (marks : List Mark) (rank j : ℕ) (t : T) : Type 0 where
  pub is_node : j < g.size
  pub settled : total_at totals j ≡ Some t
  pub earlier : (mark_at marks j).rank < rank

module _ {T : Type 0} (le : T → T → Bool) where
  -- that all nodes that a move leads to were settled before a rank, and that the larger of their totals is `rest`
  abbrev pub Follows : (g : Graph) → List (Option T) → List Mark → (rank : ℕ) → Option Move → (rest : T) → Type 0
  Follows g totals marks rank None rest = ⊥
  Follows g totals marks rank (Some (Go next)) rest = Before g totals marks rank next rest
  Follows g totals marks rank (Some (Fork next other)) rest =
      (a : T) × (b : T) × Before g totals marks rank next a × Before g totals marks rank other b × (rest ≡ larger le a b)

module _ {T : Type 0} (le : T → T → Bool) (nothing : T) (add : Step → T → T) where
  -- that a choice at a node accounts for its total: with no step it ends there, at nothing; or the step of that number is
  -- added to the larger total of what follows it, all of which was settled before
  abbrev pub Chosen : (g : Graph) → List (Option T) → List Mark → (i rank : ℕ) → Option ℕ → (t : T) → Type 0
  Chosen g totals marks i rank None t = (g.ends i ≡ true) × (t ≡ nothing)
  Chosen g totals marks i rank (Some k) t =
      (x : Step) × (rest : T) × (step_at g.steps k ≡ Some x) × Follows le g totals marks rank (g.move i k) rest × (t ≡ add x rest)

  -- that the marks tell how the nodes with a total were settled: each by a choice that accounts for it, in an order whose
  -- ranks are the numbers below `count`, each of one node
  pub record Marked (g : Graph) (totals : List (Option T)) (marks : List Mark) (count : ℕ) : Type 0 where
    pub chosen : (i : ℕ) (t : T) → i < g.size → total_at totals i ≡ Some t → Chosen g totals marks i (mark_at marks i).rank (mark_at marks i).step t
    pub ranked : (i : ℕ) (t : T) → i < g.size → total_at totals i ≡ Some t → (mark_at marks i).rank < count
    pub apart : (i j : ℕ) (t u : T) → i < g.size → j < g.size → total_at totals i ≡ Some t → total_at totals j ≡ Some u →
        (mark_at marks i).rank ≡ (mark_at marks j).rank → i ≡ j
    pub each_rank : (r : ℕ) → r < count → (i : ℕ) × (t : T) × (i < g.size) × (total_at totals i ≡ Some t) × ((mark_at marks i).rank ≡ r)

  -- that each node has its least total, none exactly where no procedure starts there, and that the marks tell how
  pub record Settled (g : Graph) (totals : List (Option T)) (marks : List Mark) (count : ℕ) : Type 0 where
    pub least : (i : ℕ) → i < g.size → Least {P = NumberedWay g i} le (λ p. numbered_total le nothing add p) (total_at totals i)
    pub marked : Marked g totals marks count

  -- that this is so of the lists that are left, and that beyond the nodes they are as before
  pub record Settles (g : Graph) (totals_before : List (Option T)) (marks_before : List Mark) (totals : List (Option T)) (marks : List Mark) (count : ℕ) : Type 0 where
    pub settled : Settled g totals marks count
    pub totals_beyond : drop g.size totals ≡ drop g.size totals_before
    pub marks_beyond : drop g.size marks ≡ drop g.size marks_before
