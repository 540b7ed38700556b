use Rattle.std.proofs.Common.{◌≡◌, ◌+◌, ◌*◌, ◌++◌, [], ◌∷◌, List, length, ap, sym, refl, ◌∙◌}
use Rattle.graph.specs.declared.circuit.Lit.{Lit}
use Rattle.graph.specs.declared.circuit.Latch.{Latch}
use Rattle.graph.specs.declared.circuit.Gate.{Gate}
use Rattle.live_safe.specs.Shadow.{chain_gates, chain_end, negative}
use Rattle.extension.specs.Rounds.{always, ended_literal, met_literals, missing_gates, open_gates, round_gates, round_latches, rounds_of, seen_latches, stage_gates, stage_latches}
use Rattle.extension.proofs.RoundsFormed.{rounds_size}
use Rattle.extension.proofs.counter.rounds_parts.Goals as goal

pub returns : goal.returns
returns c j same =
    let m = c.args.parts.now in
    let k = c.args.rounds in
    let qs = c.args.wanted.now in
    let n = c.count_out-n.result in
    let rows = c.count_out-n.ensures.rows j same in
    let size : m.max_var + 4 * length qs + 3 * (k + 1) ≡ (rounds_of m j k).max_var = ap (λ (q : List Lit). m.max_var + 4 * length q + 3 * (k + 1)) same ∙ sym (rounds_size m j k) in
    let new_latches : seen_latches qs n.seen n.opened ++ stage_latches (k + 1) n.count n.stage ≡ round_latches m j k = rw (same, rows.seen, rows.opened, rows.count, rows.stage) refl in
    let new_gates : missing_gates qs n.seen n.missing ++ (chain_gates (met_literals qs n.missing) always n.join ++ (open_gates (chain_end (met_literals qs n.missing) always n.join) qs n.missing n.opened ++ stage_gates (chain_end (met_literals qs n.missing) always n.join) (k + 1) always n.count n.stage)) ≡ round_gates m j k =
    rw (same, rows.seen, rows.missing, rows.join, rows.opened, rows.count, rows.stage) refl in
    let latches : c.from_vec.result ≡ m.latches ++ round_latches m j k =
    c.from_vec.ensures ∙ c.in_ok-latches.ensures ∙ ap (λ (xs : List Latch). xs ++ (seen_latches qs n.seen n.opened ++ stage_latches (k + 1) n.count n.stage)) c.as_slice.ensures ∙ ap (λ (xs : List Latch). m.latches ++ xs) new_latches in
    let gates : c.from_vec-2.result ≡ m.gates ++ round_gates m j k =
    c.from_vec-2.ensures ∙ c.in_ok-gates.ensures ∙ ap (λ (xs : List Gate). xs ++ (missing_gates qs n.seen n.missing ++ (chain_gates (met_literals qs n.missing) always n.join ++ (open_gates (chain_end (met_literals qs n.missing) always n.join) qs n.missing n.opened ++ stage_gates (chain_end (met_literals qs n.missing) always n.join) (k + 1) always n.count n.stage)))) c.as_slice-2.ensures ∙ ap (λ (xs : List Gate). m.gates ++ xs) new_gates in
    let ended : c.negative-ended.result ≡ ended_literal m j k = c.negative-ended.ensures ∙ ap (λ v. negative (v + 2 * k + 1)) rows.stage in
    let bad : c.in_ok-from_slice.field-0 ≡ ended_literal m j k ∷ [] = c.in_ok-from_slice.ensures ∙ ap (λ (a : Lit). a ∷ []) ended in
    λ i. record {
      max_var = size i;
      inputs = c.in_ok-copy.ensures i;
      latches = latches i;
      outputs = c.new.ensures i;
      bad = bad i;
      constraints = c.in_ok-copy-2.ensures i;
      justice = c.new-2.ensures i;
      fairness = c.new-3.ensures i;
      gates = gates i;
    }
