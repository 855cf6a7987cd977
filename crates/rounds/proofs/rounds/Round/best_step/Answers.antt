use Rattle.std.proofs.Common.{ℕ, ◌<◌, length, get_or, option_and_then, zero-add, sym, ap, ◌∙◌, arith, rules}
use lib.ListN.{length-map}
use Rattle.std.specs.List.{enumerate_from}
use Rattle.std.proofs.lemmas.Iterator.{YieldsList-from_slice}
use Rattle.std.proofs.lemmas.Iterator.Consumers.{YieldsList-from_filter_map, YieldsList-from_enumerate}
use Rattle.std.proofs.lemmas.List.FromFn.{length-enumerate_from, get_or-enumerate_from}
use Rattle.worlds.specs.declared.step.Step as code_step
use Rattle.worlds.specs.Meaning.{step_of}
use Rattle.worlds.specs.Tickets.{step_at}
use Rattle.rounds.specs.Graph.{Graph, graph_of}
use Rattle.rounds.specs.Rounds.{best_below, by_step}
use Rattle.rounds.proofs.Lists.{step_at_map}
use Rattle.rounds.proofs.Chains.{best_of_chain}
use Rattle.rounds.proofs.rounds.Round.best_step.Goals as goal

pub returns : goal.returns
returns g c =
    let graph : Graph = graph_of c.args.self.now.graph (length c.args.self.now.totals.now) in
    let steps = c.args.self.now.graph.steps.now in
    let le = g.T.Tally.le in
    let by = λ (k : ℕ). by_step le g.T.Tally.nothing g.T.Tally.add c.args.self.now.totals.now c.args.node k (graph.move c.args.node k) in
    let try = λ (p : ℕ × code_step.Step). by p.0 (step_of p.1) in
    let rule = λ (k : ℕ). option_and_then (by k) (step_at graph.steps k) in
    best_of_chain le _ try rule (enumerate_from 0 steps) c.reduce.ensures.ran
    (YieldsList-from_filter_map _ try (YieldsList-from_enumerate (YieldsList-from_slice steps cc) cc) c.filter_map.ensures.closure (λ x r q k. search rules))
    (λ a x b q k. search rules)
    (λ k d h.
    let within : k < length steps = omega (arith, h, length-enumerate_from 0 steps) in
    ap try (get_or-enumerate_from 0 steps k d within)
    ∙ ap (λ (n : ℕ). by n (step_of (get_or steps k d.1))) (zero-add k)
    ∙ sym (ap (option_and_then (by k)) (step_at_map step_of steps k d.1 within)))
    ∙ ap (best_below le rule) (length-enumerate_from 0 steps ∙ sym (length-map steps step_of))
