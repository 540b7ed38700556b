use Rattle.stimulus.proofs.RowLaws.{err_at}
use Rattle.witness_circuits.specs.Causes.{HasCause}
use Rattle.witness_circuits.proofs.Unmade.{unmade_cause}
use Rattle.witness_circuits.proofs.writing.witness_of.Goals as goal

pub witness_model-requires-clause-watched : goal.witness_model-requires-clause-watched
witness_model-requires-clause-watched c = (c.args.property, c.in-Some.ensures)

pub returns-in_err-expect_fitting-clause-refused : goal.returns-in_err-expect_fitting-clause-refused
returns-in_err-expect_fitting-clause-refused c =
    err_at _ _ (HasCause c.args.circuit.now c.args.property c.args.latches.now c.args.gates.now c.args.invariant.now) c.from_residual.ensures.1 (c.in_err-expect_fitting.ensures.refused c.args.property)

pub returns-in_err-model-clause-refused : goal.returns-in_err-model-clause-refused
returns-in_err-model-clause-refused c =
    err_at _ _ (HasCause c.args.circuit.now c.args.property c.args.latches.now c.args.gates.now c.args.invariant.now) c.from_residual-in_err-model.ensures.1
    (unmade_cause c.args.circuit.now c.args.property c.args.latches.now c.args.gates.now c.args.invariant.now _ c.in_err-model.ensures.refused)

pub returns-in_err-symbols-clause-refused : goal.returns-in_err-symbols-clause-refused
returns-in_err-symbols-clause-refused c =
    err_at _ _ (HasCause c.args.circuit.now c.args.property c.args.latches.now c.args.gates.now c.args.invariant.now) c.from_residual-in_err-symbols.ensures.1
    (unmade_cause c.args.circuit.now c.args.property c.args.latches.now c.args.gates.now c.args.invariant.now _ c.in_err-symbols.ensures.refused)
