use Rattle.std.proofs.Common.{refl}
use Rattle.lrat.specs.Proofs.{IsAcceptedProof}
use Rattle.cdcl_log.specs.Logged.{with_units}
use Rattle.certify.proofs.Pairs.{proof_over}
use Rattle.certify.proofs.proving.prove.Goals as goal

pub returns-in-Model-clause-halted : goal.returns-in-Model-clause-halted
returns-in-Model-clause-halted c = (refl, rw c.in-Model.is at c.in_ok-proof.ensures.lawful)

pub returns-in-Proof-clause-proved : goal.returns-in-Proof-clause-proved
returns-in-Proof-clause-proved c =
    let accepted : IsAcceptedProof (with_units c.args.refuter.now.formula c.args.units.now) c.in-Proof.proof = rw c.in-Proof.is at c.in_ok-proof.ensures.lawful in
    proof_over c.args.refuter.now.formula c.args.units.now c.in-Proof.proof c.lines.ensures.are_lines accepted
