use Rattle.stimulus.proofs.ExactLaws.{exact_of}
use Rattle.stimulus.proofs.judging.judge.Goals as goal

pub returns-in-Violated-clause-exact : goal.returns-in-Violated-clause-exact
returns-in-Violated-clause-exact c =
    rw (c.in-Violated.is, ← c.as_slice.ensures, ← c.as_slice-in-Violated.ensures)
    (exact_of c.args.circuit.now c.in-Violated.property c.as_slice.result.now c.as_slice-in-Violated.result.now c.judge_violated.result c.judge_violated.ensures.refused)
