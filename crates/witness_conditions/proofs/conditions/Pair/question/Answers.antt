use Rattle.std.proofs.Common.{ap}
use Rattle.graph.specs.declared.parts.Parts.{Parts}
use Rattle.witness_conditions.proofs.Asked.{asks}
use Rattle.witness_conditions.proofs.conditions.Pair.question.Goals as goal

pub returns-clause-asks : goal.returns-clause-asks
returns-clause-asks c =
    let made = c.in_ok-circuit.ensures.made in
    asks _ _ _ _ _ (ap (λ (p : Parts). p.latches) made) (ap (λ (p : Parts). p.constraints) made) (ap (λ (p : Parts). p.bad) made) (ap (λ (p : Parts). p.gates) made) c.in_ok-drafted.ensures.value
