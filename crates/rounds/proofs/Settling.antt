-- One round keeps what is known of the settled nodes, and the last one leaves nothing to settle.
-- Assumes nothing.
use Rattle.std.proofs.Common.{◌≡◌, ℕ, ◌+◌, ◌<◌, Bool, cond, ◌⊎◌, List, ◌++◌, length, set, Some, None, Option, option_and_then, is_some, count_by, sym, refl, ap, ◌∙◌, subst, inl, inr, not-suc-le-zero, arith}
use Rattle.std.proofs.lemmas.Bool.{cases_Bool, cases_eq, cases_lt, cond-true, cond-false}
use Rattle.std.specs.Option.{option_map}
use Rattle.worlds.specs.Steps.{Step}
use Rattle.worlds.specs.Tickets.{step_at}
use Rattle.tally.specs.Laws.{Laws}
use Rattle.theory.specs.Procedures.{larger}
use Rattle.theory.specs.Bounds.{Least}
use Rattle.rounds.specs.declared.graph.Move.{Move}
use Rattle.rounds.specs.declared.graph.Move.TheVariants.{Go, Fork}
use Rattle.rounds.specs.declared.graph.Tentative.{Tentative}
use Rattle.rounds.specs.Graph.{Graph, graph_of, NumberedWay, end, by_action, by_sensing, numbered_total}
use Rattle.rounds.specs.Rounds.{total_at, both, rest_total, unless_settled, taken, by_step, best_step, tentative, best_node}
use lib.ListN.{length-set}
use Rattle.std.proofs.lemmas.List.Sums.{sum_by-set, count_by-le-length}
use Rattle.std.proofs.lemmas.List.{get_or-set_same, get_or-set_other, get_or_append_left}
use Rattle.rounds.specs.declared.graph.Graph as code_graph
use Rattle.rounds.specs.declared.graph.Mark.{Mark}
use Rattle.rounds.specs.Settled.{mark_at, Before, Follows, Chosen, Marked, Settled}
use Rattle.std.proofs.lemmas.Option.{none-some, same_Some, option_and_then_some}
use Rattle.rounds.proofs.Lists.{cases_some, some_within}
use Rattle.rounds.proofs.Scans.{best_one}
use Rattle.rounds.proofs.Cut.{BelowAll, best_below_all, none_left}

-- two options that give some value both
both_some : {T : Type 0} (le : T → T → Bool) (a b : Option T) (r : T) → both le a b ≡ Some r → (u : T) × (v : T) × (a ≡ Some u) × (b ≡ Some v) × (r ≡ larger le u v)
both_some le None b r e = absurd (none-some _ e)
both_some le (Some a) None r e = absurd (none-some _ e)
both_some le (Some a) (Some b) r e = (a, b, refl, refl, sym (same_Some _ _ e))

module _ {T : Type 0} (le : T → T → Bool) (nothing : T) (add : Step → T → T) where
  -- what is known after `count` rounds: each settled node has its least total, and the marks tell how
  pub record Part (g : Graph) (totals : List (Option T)) (marks : List Mark) (count : ℕ) : Type 0 where
    pub settled : (i : ℕ) (t : T) → i < g.size → total_at totals i ≡ Some t → Least {P = NumberedWay g i} le (λ p. numbered_total le nothing add p) (Some t)
    pub marked : Marked le nothing add g totals marks count

-- that settled nodes have the same totals and marks in other lists
abbrev Stays : {T : Type 0} → (g : Graph) → (ts : List (Option T)) → (ms : List Mark) → (us : List (Option T)) → (ns : List Mark) → Type 0
Stays {T = T} g ts ms us ns = (i : ℕ) (t : T) → i < g.size → total_at ts i ≡ Some t → (total_at us i ≡ Some t) × (mark_at ns i ≡ mark_at ms i)

module _ {T : Type 0} (le : T → T → Bool) (nothing : T) (add : Step → T → T) (g : Graph) (ts : List (Option T)) (ms : List Mark) (us : List (Option T)) (ns : List Mark) (stays : Stays g ts ms us ns) where
  stays_before : (rank j : ℕ) (t : T) → Before g ts ms rank j t → Before g us ns rank j t
  stays_before rank j t b =
      let s = stays j t b.is_node b.settled in
      record { is_node = b.is_node; settled = s.0; earlier = subst (λ (m : Mark). m.rank < rank) (sym s.1) b.earlier }

  stays_follows : (rank : ℕ) (m : Option Move) (rest : T) → Follows le g ts ms rank m rest → Follows le g us ns rank m rest
  stays_follows rank None rest f = f
  stays_follows rank (Some (Go next)) rest f = stays_before rank next rest f
  stays_follows rank (Some (Fork next other)) rest f = (f.0, f.1, stays_before rank next f.0 f.2, stays_before rank other f.1 f.3, f.4)

  stays_chosen : (i rank : ℕ) (c : Option ℕ) (t : T) → Chosen le nothing add g ts ms i rank c t → Chosen le nothing add g us ns i rank c t
  stays_chosen i rank None t c = c
  stays_chosen i rank (Some k) t c = (c.0, c.1, c.2, stays_follows rank (g.move i k) c.1 c.3, c.4)

module _ {T : Type 0} {le : T → T → Bool} {nothing : T} {add : Step → T → T} (laws : Laws le nothing add) {g : Graph} {totals : List (Option T)} {marks : List Mark} {count : ℕ} (part : Part le nothing add g totals marks count) (size : g.size ≡ length totals) where
  below_all : BelowAll laws g totals
  below_all i t h e p = (part.settled i t (omega arith) e).1 p

  -- ## The node that a round settles

  -- what is known of it beforehand
  record Next (o : Tentative T) : Type 0 where
    within : o.node < length totals
    ahead : total_at totals o.node ≡ None
    way : (p : NumberedWay g o.node) × (numbered_total le nothing add p ≡ o.total)
    account : Chosen le nothing add g totals marks o.node count o.step o.total

  before : (j : ℕ) (t : T) → total_at totals j ≡ Some t → Before g totals marks count j t
  before j t e =
      let h : j < g.size = let l = some_within totals j t e in omega arith in
      record { is_node = h; settled = e; earlier = part.marked.ranked j t h e }

  follows : (m : Option Move) (rest : T) → rest_total le totals m ≡ Some rest → Follows le g totals marks count m rest
  follows None rest e = absurd (none-some _ e)
  follows (Some (Go next)) rest e = before next rest e
  follows (Some (Fork next other)) rest e =
      let b = both_some le (total_at totals next) (total_at totals other) rest e in
      (b.0, b.1, before next b.0 b.2, before other b.1 b.3, b.4)

  way_from : (j k : ℕ) (x : Step) (rest : T) → step_at g.steps k ≡ Some x → (m : Option Move) → g.move j k ≡ m → rest_total le totals m ≡ Some rest → (p : NumberedWay g j) × (numbered_total le nothing add p ≡ add x rest)
  way_from j k x rest of_steps None moves e = absurd (none-some _ e)
  way_from j k x rest of_steps (Some (Go next)) moves e =
      let b = before next rest e in
      let p = (part.settled next rest b.is_node e).0 in
      (by_action j k next x of_steps moves b.is_node p.0, ap (add x) p.1)
  way_from j k x rest of_steps (Some (Fork next other)) moves e =
      let b = both_some le (total_at totals next) (total_at totals other) rest e in
      let c = before next b.0 b.2 in
      let d = before other b.1 b.3 in
      let p = (part.settled next b.0 c.is_node b.2).0 in
      let q = (part.settled other b.1 d.is_node b.3).0 in
      (by_sensing j k next other x of_steps moves c.is_node d.is_node p.0 q.0, ap (λ (t : T). add x (larger le t (numbered_total le nothing add q.0))) p.1 ∙ ap (λ (t : T). add x (larger le b.0 t)) q.1 ∙ ap (add x) (sym b.4))

  by_taking : (j k : ℕ) (o : Tentative T) → j < length totals → total_at totals j ≡ None → option_and_then (by_step le nothing add totals j k (g.move j k)) (step_at g.steps k) ≡ Some o → Next o
  by_taking j k o h none e =
      option_and_then_some (by_step le nothing add totals j k (g.move j k)) (step_at g.steps k) o e
      (λ x of_steps f.
      elim (cases_some (rest_total le totals (g.move j k))) [
        | inl missing ↦ absurd (none-some _ (sym (ap (option_map (taken le nothing add j k x)) missing) ∙ f))
        | inr rest ↦
            subst (λ (n : Tentative T). Next n) (same_Some _ _ (sym (ap (option_map (taken le nothing add j k x)) rest.1) ∙ f))
            (record {
              within = h;
              ahead = none;
              way = way_from j k x rest.0 of_steps (g.move j k) refl rest.1;
              account = (x, rest.0, of_steps, follows (g.move j k) rest.0 rest.1, refl);
            })
      ])

  by_trying : (j : ℕ) (o : Tentative T) → j < length totals → tentative le nothing add g totals j ≡ Some o → Next o
  by_trying j o h e =
      let ending : Tentative T = record { node = j; step = None; total = nothing } in
      let rule : ℕ → Option (Tentative T) = λ n. option_and_then (by_step le nothing add totals j n (g.move j n)) (step_at g.steps n) in
      let tried : Option (Tentative T) = cond (g.ends j) (Some ending) (best_step le nothing add g totals j) in
      elim (cases_some (total_at totals j)) [
        | inr known ↦ absurd (none-some _ (sym (ap (λ (v : Option T). unless_settled v tried) known.1) ∙ e))
        | inl none ↦
            let f = sym (ap (λ (v : Option T). unless_settled v tried) none) ∙ e in
            elim (cases_Bool (g.ends j)) [
              | inl ended ↦
                  subst (λ (n : Tentative T). Next n) (same_Some _ _ (sym (cond-true _ (Some ending) (best_step le nothing add g totals j) ended) ∙ f))
                  (record { within = h; ahead = none; way = (end j ended, refl); account = (ended, refl) })
              | inr ended ↦
                  let b = best_one laws rule (length g.steps) o (sym (cond-false _ (Some ending) (best_step le nothing add g totals j) ended) ∙ f) in
                  by_taking j b.0 o h none b.2
            ]
      ]

  next : (o : Tentative T) → best_node le nothing add g totals ≡ Some o → Next o
  next o best = let b = best_one laws (tentative le nothing add g totals) (length totals) o best in by_trying b.0 o b.1 b.2

  -- ## The round

  -- the totals and the marks after it
  abbrev totals_after : Tentative T → List (Option T)
  totals_after o = set totals o.node (Some o.total)

  abbrev marks_after : Tentative T → List Mark
  marks_after o = set marks o.node (record { step = o.step; rank = count })

  -- a settled node is another than the one that is settled now, and stays as it was
  stays : (o : Tentative T) → Next o → Stays g totals marks (totals_after o) (marks_after o)
  stays o n i t h e =
      let ne : i ≡ o.node → ⊥ = λ same. none-some _ (sym n.ahead ∙ subst (λ (k : ℕ). total_at totals k ≡ Some t) same e) in
      (get_or-set_other totals o.node i (Some o.total) None ne ∙ e, get_or-set_other marks o.node i _ _ ne)

  -- what is known of a node after the round: it is the one settled now, or it was settled before, and its mark is as it was
  After : (o : Tentative T) (i : ℕ) (t : T) → Type 0
  After o i t =
      ((i ≡ o.node) × (t ≡ o.total) × (mark_at (marks_after o) i ≡ record { step = o.step; rank = count }))
      ⊎ ((total_at totals i ≡ Some t) × (mark_at (marks_after o) i ≡ mark_at marks i))

  after : (o : Tentative T) → Next o → length marks ≡ length totals → (i : ℕ) (t : T) → total_at (totals_after o) i ≡ Some t → After o i t
  unfolding After
  after o n of-marks i t e =
      elim (cases_eq i o.node) [
        | inl same ↦
            let f = subst (λ (k : ℕ). total_at (totals_after o) k ≡ Some t) same e in
            inl (
              same,
              same_Some _ _ (sym f ∙ get_or-set_same totals o.node (Some o.total) None n.within),
              subst (λ (k : ℕ). mark_at (marks_after o) k ≡ record { step = o.step; rank = count }) (sym same) (get_or-set_same marks o.node _ _ (omega (arith, n.within))),
            )
        | inr ne ↦ inr (sym (get_or-set_other totals o.node i (Some o.total) None ne) ∙ e, get_or-set_other marks o.node i _ _ ne)
      ]

  -- ranks stay below the count of rounds, apart, and each of some node
  rank_below : (o : Tentative T) → (i : ℕ) (t : T) → i < g.size → After o i t → (mark_at (marks_after o) i).rank < count + 1
  unfolding After
  rank_below o i t h (inl now) = let e = ap (λ (m : Mark). m.rank) now.2 in omega (arith, e)
  rank_below o i t h (inr was) = let e = ap (λ (m : Mark). m.rank) was.1 in omega (arith, e, part.marked.ranked i t h was.0)

  ranks_apart : (o : Tentative T) → (i j : ℕ) (t u : T) → i < g.size → j < g.size → After o i t → After o j u → (mark_at (marks_after o) i).rank ≡ (mark_at (marks_after o) j).rank → i ≡ j
  unfolding After
  ranks_apart o i j t u h l (inl a) (inl b) same = a.0 ∙ sym b.0
  ranks_apart o i j t u h l (inl a) (inr b) same =
      let e = ap (λ (m : Mark). m.rank) a.2 in
      let f = ap (λ (m : Mark). m.rank) b.1 in
      absurd (omega (arith, e, f, same, part.marked.ranked j u l b.0))
  ranks_apart o i j t u h l (inr a) (inl b) same =
      let e = ap (λ (m : Mark). m.rank) a.1 in
      let f = ap (λ (m : Mark). m.rank) b.2 in
      absurd (omega (arith, e, f, same, part.marked.ranked i t h a.0))
  ranks_apart o i j t u h l (inr a) (inr b) same =
      part.marked.apart i j t u h l a.0 b.0 (sym (ap (λ (m : Mark). m.rank) a.1) ∙ same ∙ ap (λ (m : Mark). m.rank) b.1)

  rank_of_each : (o : Tentative T) → Next o → length marks ≡ length totals → (r : ℕ) → r < count + 1 → (i : ℕ) × (t : T) × (i < g.size) × (total_at (totals_after o) i ≡ Some t) × ((mark_at (marks_after o) i).rank ≡ r)
  rank_of_each o n of-marks r h =
      elim (cases_lt r count) [
        | inl l ↦
            let k = part.marked.each_rank r l in
            let s = stays o n k.0 k.1 k.2 k.3 in
            (k.0, k.1, k.2, s.0, ap (λ (m : Mark). m.rank) s.1 ∙ k.4)
        | inr l ↦
            let now : count ≡ r = omega arith in (
              o.node,
              o.total,
              omega (arith, n.within),
              get_or-set_same totals o.node (Some o.total) None n.within,
              ap (λ (m : Mark). m.rank) (get_or-set_same marks o.node (record { step = o.step; rank = count }) _ (omega (arith, n.within))) ∙ now,
            )
      ]

  -- a choice accounts for each node after the round
  chosen_after : (o : Tentative T) → Next o → (i : ℕ) (t : T) → i < g.size → After o i t → Chosen le nothing add g (totals_after o) (marks_after o) i (mark_at (marks_after o) i).rank (mark_at (marks_after o) i).step t
  unfolding After
  chosen_after o n i t h (inl now) =
      subst (λ (m : Mark). Chosen le nothing add g (totals_after o) (marks_after o) i m.rank m.step t) (sym now.2)
      (subst (λ (k : ℕ). Chosen le nothing add g (totals_after o) (marks_after o) k count o.step t) (sym now.0)
      (subst (λ (v : T). Chosen le nothing add g (totals_after o) (marks_after o) o.node count o.step v) (sym now.1)
      (stays_chosen le nothing add g totals marks (totals_after o) (marks_after o) (stays o n) o.node count o.step o.total n.account)))
  chosen_after o n i t h (inr was) =
      subst (λ (m : Mark). Chosen le nothing add g (totals_after o) (marks_after o) i m.rank m.step t) (sym was.1)
      (stays_chosen le nothing add g totals marks (totals_after o) (marks_after o) (stays o n) i (mark_at marks i).rank (mark_at marks i).step t (part.marked.chosen i t h was.0))

  -- each settled total is the least, also that of this round
  least_after : (o : Tentative T) → best_node le nothing add g totals ≡ Some o → Next o → (i : ℕ) (t : T) → i < g.size → After o i t → Least {P = NumberedWay g i} le (λ p. numbered_total le nothing add p) (Some t)
  unfolding After
  least_after o best n i t h (inl now) =
      subst (λ (k : ℕ). Least {P = NumberedWay g k} le (λ p. numbered_total le nothing add p) (Some t)) (sym now.0)
      (subst (λ (v : T). Least {P = NumberedWay g o.node} le (λ p. numbered_total le nothing add p) (Some v)) (sym now.1)
      (n.way, best_below_all laws g totals below_all size o best o.node n.within n.ahead))
  least_after o best n i t h (inr was) = part.settled i t h was.0

  -- a round keeps what is known
  round_keeps : (o : Tentative T) → best_node le nothing add g totals ≡ Some o → length marks ≡ length totals → Part le nothing add g (totals_after o) (marks_after o) (count + 1)
  round_keeps o best of-marks =
      let n = next o best in
      record {
        settled = λ i t h e. least_after o best n i t h (after o n of-marks i t e);
        marked = record {
          chosen = λ i t h e. chosen_after o n i t h (after o n of-marks i t e);
          ranked = λ i t h e. rank_below o i t h (after o n of-marks i t e);
          apart = λ i j t u h l e f same. ranks_apart o i j t u h l (after o n of-marks i t e) (after o n of-marks j u f) same;
          each_rank = rank_of_each o n of-marks;
        };
      }

  -- the node that a round settles is one
  pub round_within : {o : Tentative T} → Some o ≡ best_node le nothing add g totals → o.node < length totals
  round_within {o} best = (next o (sym best)).within

  -- one more node is settled
  settles_one : (o : Tentative T) → Next o → count_by is_some (totals_after o) ≡ count_by is_some totals + 1
  settles_one o n =
      let one : Option T → ℕ = λ t. cond (is_some t) 1 0 in
      let before : one (total_at totals o.node) ≡ 0 = ap one n.ahead in
      omega (arith, sum_by-set one totals o.node (Some o.total) None n.within, before)

  -- the same of the lists that it leaves; and one more node is settled
  pub round_leaves : {o : Tentative T} → Some o ≡ best_node le nothing add g totals → length marks ≡ length totals → {ts : List (Option T)} {ms : List Mark} → ts ≡ set totals o.node (Some o.total) → ms ≡ set marks o.node (record { step = o.step; rank = count }) → Part le nothing add g ts ms (count + 1) × (count_by is_some ts ≡ count_by is_some totals + 1)
  round_leaves {o} best of-marks {ts} {ms} e f =
      let n = next o (sym best) in (
        subst (λ (us : List (Option T)). Part le nothing add g us ms (count + 1)) (sym e)
            (subst (λ (ns : List Mark). Part le nothing add g (totals_after o) ns (count + 1)) (sym f) (round_keeps o (sym best) of-marks)),
        subst (λ (us : List (Option T)). count_by is_some us ≡ count_by is_some totals + 1) (sym e) (settles_one o n),
      )

  -- all is settled, where no procedure starts at a node without a total
  settled_if : ((i : ℕ) → i < g.size → total_at totals i ≡ None → NumberedWay g i → ⊥) → Settled le nothing add g totals marks count
  settled_if none =
      record {
        least = λ i h. each i h (total_at totals i) refl;
        marked = part.marked;
      }
    where
      each : (i : ℕ) → i < g.size → (v : Option T) → total_at totals i ≡ v → Least {P = NumberedWay g i} le (λ p. numbered_total le nothing add p) v
      each i h None e = none i h e
      each i h (Some t) e = part.settled i t h e

  -- so it is where there is nothing more to settle
  pub all_settled : None ≡ best_node le nothing add g totals → Settled le nothing add g totals marks count
  all_settled none = settled_if (λ i h e p. none_left laws g totals below_all size (sym none) i (omega arith) e p)

  -- and where as many nodes are settled as there are
  pub all_full : {n : ℕ} → count ≡ n → n ≡ length totals → count ≡ count_by is_some totals → Settled le nothing add g totals marks n
  all_full same full counted =
      subst (λ (k : ℕ). Settled le nothing add g totals marks k) same
      (settled_if (λ i h e p.
      let one : Option T → ℕ = λ t. cond (is_some t) 1 0 in
      let before : one (total_at totals i) ≡ 0 = ap one e in
      let within : i < length totals = omega arith in
      let more : List (Option T) = set totals i (Some nothing) in
      absurd (omega (arith, sum_by-set one totals i (Some nothing) None within, before, count_by-le-length is_some more, length-set totals i (Some nothing)))))

module _ {T : Type 0} {le : T → T → Bool} {nothing : T} {add : Step → T → T} where
  -- before the first round no node is settled
  pub part_none : {g : Graph} {totals : List (Option T)} {marks : List Mark} → ((i : ℕ) → i < g.size → total_at totals i ≡ None) → Part le nothing add g totals marks 0
  part_none none =
      record {
        settled = λ i t h e. absurd (none-some _ (sym (none i h) ∙ e));
        marked = record {
          chosen = λ i t h e. absurd (none-some _ (sym (none i h) ∙ e));
          ranked = λ i t h e. absurd (none-some _ (sym (none i h) ∙ e));
          apart = λ i j t u h l e f same. absurd (none-some _ (sym (none i h) ∙ e));
          each_rank = λ r h. absurd (not-suc-le-zero h);
        };
      }

module _ {T : Type 0} (le : T → T → Bool) (nothing : T) (add : Step → T → T) where
  -- what is said of a settled graph depends on its nodes' totals and marks only, not on what lies beyond in the lists
  pub settled_beyond : (g : Graph) (ts : List (Option T)) (ms : List Mark) (us : List (Option T)) (ns : List Mark) (count : ℕ) → ((i : ℕ) → i < g.size → total_at us i ≡ total_at ts i) → ((i : ℕ) → i < g.size → mark_at ns i ≡ mark_at ms i) → Settled le nothing add g ts ms count → Settled le nothing add g us ns count
  settled_beyond g ts ms us ns count same_total same-mark s =
      record {
        least = λ i h. subst (λ (v : Option T). Least {P = NumberedWay g i} le (λ p. numbered_total le nothing add p) v) (sym (same_total i h)) (s.least i h);
        marked = record {
          chosen = λ i t h e.
              subst (λ (m : Mark). Chosen le nothing add g us ns i m.rank m.step t) (sym (same-mark i h))
              (stays_chosen le nothing add g ts ms us ns (λ j u l f. (same_total j l ∙ f, same-mark j l)) i (mark_at ms i).rank (mark_at ms i).step t (s.marked.chosen i t h (sym (same_total i h) ∙ e)));
          ranked = λ i t h e. subst (λ (m : Mark). m.rank < count) (sym (same-mark i h)) (s.marked.ranked i t h (sym (same_total i h) ∙ e));
          apart = λ i j t u h l e f same.
              s.marked.apart i j t u h l (sym (same_total i h) ∙ e) (sym (same_total j l) ∙ f)
              (ap (λ (m : Mark). m.rank) (sym (same-mark i h)) ∙ same ∙ ap (λ (m : Mark). m.rank) (same-mark j l));
          each_rank = λ r h.
              let k = s.marked.each_rank r h in
              (k.0, k.1, k.2, same_total k.0 k.2 ∙ k.3, ap (λ (m : Mark). m.rank) (same-mark k.0 k.2) ∙ k.4);
        };
      }

  -- the same with more behind both lists
  pub settled_before_more : (g : code_graph.Graph) (size n : ℕ) (ts more : List (Option T)) (ms others : List Mark) (count : ℕ) → size ≡ n → length ts ≡ n → length ms ≡ n → Settled le nothing add (graph_of g size) ts ms count → Settled le nothing add (graph_of g n) (ts ++ more) (ms ++ others) count
  settled_before_more g size n ts more ms others count same of-totals of-marks s =
      settled_beyond (graph_of g n) ts ms (ts ++ more) (ms ++ others) count
      (λ i h. get_or_append_left ts more None i (omega arith))
      (λ i h. get_or_append_left ms others _ i (omega arith))
      (subst (λ (k : ℕ). Settled le nothing add (graph_of g k) ts ms count) same s)
