-- The cut: each procedure from an unsettled node passes some unsettled node whose tentative total is at most its own.
-- Assumes nothing.
use Rattle.std.proofs.Common.{◌≡◌, ℕ, ◌<◌, Bool, true, cond, List, length, Some, None, Option, option_and_then, sym, ap, ◌∙◌, subst, inl, inr}
use Rattle.std.proofs.lemmas.Bool.{cases_Bool, cond-true, cond-false}
use Rattle.std.specs.Option.{option_map}
use Rattle.worlds.specs.Steps.{Step}
use Rattle.worlds.specs.Tickets.{step_at}
use Rattle.tally.specs.Laws.{Laws}
use Rattle.theory.specs.Procedures.{larger}
use Rattle.theory.proofs.Order.{larger_left, larger_right, larger_mono}
use Rattle.rounds.specs.declared.graph.Tentative.{Tentative}
use Rattle.rounds.specs.Graph.{Graph, NumberedWay, end, by_action, by_sensing, numbered_total}
use Rattle.rounds.specs.Rounds.{total_at, both, rest_total, unless_settled, best_below, taken, by_step, best_step, tentative, best_node}
use Rattle.std.proofs.lemmas.Option.{none-some}
use Rattle.rounds.proofs.Lists.{cases_some, step_within}
use Rattle.rounds.proofs.Scans.{best_none, best_least}

module _ {T : Type 0} {le : T → T → Bool} {nothing : T} {add : Step → T → T} (laws : Laws le nothing add) (g : Graph) (totals : List (Option T)) where
  -- the total of a procedure
  abbrev of_way : {i : ℕ} → NumberedWay g i → T
  of_way p = numbered_total le nothing add p

  -- that each settled total is at most that of every procedure from its node
  abbrev pub BelowAll : Type 0
  BelowAll = (i : ℕ) (t : T) → i < length totals → total_at totals i ≡ Some t → (p : NumberedWay g i) → le t (of_way p) ≡ true

  -- that some node has a tentative total of at most v
  pub record Front (v : T) : Type 0 where
    pub node : ℕ
    pub tried : Tentative T
    pub is_node : node < length totals
    pub is_tried : tentative le nothing add g totals node ≡ Some tried
    pub at_most : le tried.total v ≡ true

  front_up : (v w : T) → le v w ≡ true → Front v → Front w
  front_up v w h f = record { node = f.node; tried = f.tried; is_node = f.is_node; is_tried = f.is_tried; at_most = laws.transitive f.tried.total v w f.at_most h }

  -- what is tried at an unsettled node
  tried_at : (i : ℕ) (tried : Option (Tentative T)) → total_at totals i ≡ None → cond (g.ends i) (Some (record { node = i; step = None; total = nothing })) (best_step le nothing add g totals i) ≡ tried → tentative le nothing add g totals i ≡ tried
  tried_at i tried none e =
      ap (λ (v : Option T). unless_settled v (cond (g.ends i) (Some (record { node = i; step = None; total = nothing })) (best_step le nothing add g totals i))) none ∙ e

  -- where a node may end, it is such a node for every total
  front_end : (i : ℕ) (v : T) → i < length totals → total_at totals i ≡ None → g.ends i ≡ true → Front v
  front_end i v h none ended =
      record { node = i; tried = record { node = i; step = None; total = nothing }; is_node = h; is_tried = tried_at i _ none (cond-true _ _ _ ended); at_most = laws.least v }

  -- where a step leads to settled nodes only, it is one for that step's total
  front_step : (i k : ℕ) (x : Step) (rest : T) → i < length totals → total_at totals i ≡ None → step_at g.steps k ≡ Some x → rest_total le totals (g.move i k) ≡ Some rest → Front (add x rest)
  front_step i k x rest h none of_steps is-rest =
      let rule : ℕ → Option (Tentative T) = λ n. option_and_then (by_step le nothing add totals i n (g.move i n)) (step_at g.steps n) in
      let tried : Tentative T = record { node = i; step = Some k; total = add x rest } in
      let here : rule k ≡ Some tried = ap (option_and_then (by_step le nothing add totals i k (g.move i k))) of_steps ∙ ap (option_map (taken le nothing add i k x)) is-rest in
      let within : k < length g.steps = step_within g.steps k x of_steps in
      elim (cases_Bool (g.ends i)) [
        | inl ended ↦ front_end i (add x rest) h none ended
        | inr ended ↦
            elim (cases_some (best_below le rule (length g.steps))) [
              | inl best ↦ absurd (none-some _ (sym (best_none laws rule (length g.steps) best k within) ∙ here))
              | inr best ↦
                  record {
                    node = i;
                    tried = best.0;
                    is_node = h;
                    is_tried = tried_at i (Some best.0) none (cond-false _ _ _ ended ∙ best.1);
                    at_most = best_least laws rule (length g.steps) best.0 best.1 k tried within here;
                  }
            ]
      ]

  -- each procedure from an unsettled node has such a node
  pub front : BelowAll → g.size ≡ length totals → {i : ℕ} (p : NumberedWay g i) → i < length totals → total_at totals i ≡ None → Front (of_way p)
  front below size (end i ended) h none = front_end i nothing h none ended
  front below size (by_action i k next x of_steps moves to_node rest) h none =
      let there : next < length totals = subst (λ (n : ℕ). next < n) size to_node in
      elim (cases_some (total_at totals next)) [
        | inl ahead ↦ front_up (of_way rest) (add x (of_way rest)) (laws.no_less x (of_way rest)) (front below size rest there ahead)
        | inr known ↦
            front_up (add x known.0) (add x (of_way rest)) (laws.monotone x known.0 (of_way rest) (below next known.0 there known.1 rest))
            (front_step i k x known.0 h none of_steps (ap (rest_total le totals) moves ∙ known.1))
      ]
  front below size (by_sensing i k next other x of_steps moves to_next to_other on_yes on_no) h none =
      let there : next < length totals = subst (λ (n : ℕ). next < n) size to_next in
      let also : other < length totals = subst (λ (n : ℕ). other < n) size to_other in
      let a = of_way on_yes in
      let b = of_way on_no in
      let rest = larger le a b in
      elim (cases_some (total_at totals next)) [
        | inl ahead ↦
            front_up a (add x rest) (laws.transitive a rest (add x rest) (larger_left laws a b) (laws.no_less x rest)) (front below size on_yes there ahead)
        | inr u ↦
            elim (cases_some (total_at totals other)) [
              | inl ahead ↦
                  front_up b (add x rest) (laws.transitive b rest (add x rest) (larger_right laws a b) (laws.no_less x rest)) (front below size on_no also ahead)
              | inr v ↦
                  let both-known : rest_total le totals (g.move i k) ≡ Some (larger le u.0 v.0) =
                  ap (rest_total le totals) moves ∙ ap (λ (o : Option T). both le o (total_at totals other)) u.1 ∙ ap (both le (Some u.0)) v.1 in
                  front_up (add x (larger le u.0 v.0)) (add x rest)
                  (laws.monotone x (larger le u.0 v.0) rest (larger_mono laws u.0 v.0 a b (below next u.0 there u.1 on_yes) (below other v.0 also v.1 on_no)))
                  (front_step i k x (larger le u.0 v.0) h none of_steps both-known)
            ]
      ]

  -- so the best of a round is at most the total of every procedure from an unsettled node
  pub best_below_all : BelowAll → g.size ≡ length totals → (o : Tentative T) → best_node le nothing add g totals ≡ Some o → (i : ℕ) → i < length totals → total_at totals i ≡ None → (p : NumberedWay g i) → le o.total (of_way p) ≡ true
  best_below_all below size o best i h none p =
      let f = front below size p h none in
      laws.transitive o.total f.tried.total (of_way p)
      (best_least laws (tentative le nothing add g totals) (length totals) o best f.node f.tried f.is_node f.is_tried)
      f.at_most

  -- and where there is no best, no procedure starts at an unsettled node
  pub none_left : BelowAll → g.size ≡ length totals → best_node le nothing add g totals ≡ None → (i : ℕ) → i < length totals → total_at totals i ≡ None → NumberedWay g i → ⊥
  none_left below size best i h none p =
      let f = front below size p h none in
      none-some _ (sym (best_none laws (tentative le nothing add g totals) (length totals) best f.node f.is_node) ∙ f.is_tried)
