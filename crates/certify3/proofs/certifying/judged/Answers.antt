use Rattle.certificate3.specs.Writing.{evidence_in}
use Rattle.certify3.proofs.Outcomes.{of_clauses}
use Rattle.certify3.proofs.certifying.judged.Goals as goal

pub returns-clause-certified : goal.returns-clause-certified
returns-clause-certified c =
    of_clauses c.args.circuit.now c.args.claim c.args.extension.latches.now c.args.extension.gates.now c.args.invariant (evidence_in c.in_ok-evidence.evidence) c.judge.result
    c.in_ok-evidence.ensures.latches c.in_ok-evidence.ensures.gates c.in_ok-evidence.ensures.invariant c.judge.ensures.evidence
