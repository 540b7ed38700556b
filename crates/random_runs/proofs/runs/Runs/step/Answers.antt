use Rattle.std.proofs.Common.{◌≡◌, ◌∙◌, ◌+◌, ◌*◌, ◌≤◌, arith}
use Rattle.graph.proofs.Tabled.{holds_of_used}
use Rattle.random_runs.proofs.runs.Runs.step.Goals as goal

pub setting-requires-clause-in_range : goal.setting-requires-clause-in_range
setting-requires-clause-in_range c =
    let same : c.step.new.self.circuit ≡ c.self.inside.circuit.now = (c.step.ensures 0 (omega arith)).circuit ∙ c.self.invariant in
    let m = c.self.inside.circuit.now in
    rw (same, c.as_slice-constraints.ensures, c.parts.ensures.parts)
    (λ k d k_in. let h = (holds_of_used (λ a. a.0 ≤ 2 * m.max_var + 1) m c.parts.ensures.well_formed.used_in_range).constraints k d k_in in omega (arith, h))
