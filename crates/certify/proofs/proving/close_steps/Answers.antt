use Rattle.std.proofs.Common.{[], sym, subst}
use Rattle.cnf.specs.Formulas.{IsOverLatches}
use Rattle.checker2.proofs.InOrder.{clause_is}
use Rattle.certify.proofs.proving.close_steps.Goals as goal

pub step_units-requires-clause-over : goal.step_units-requires-clause-over
step_units-requires-clause-over c =
    let inv = c.args.invariant.now in
    let is = clause_is inv c.loop-place.place c.index-invariant-place.result c.as_slice.result.now c.loop-place-test.true c.index-invariant-place.is c.as_slice.ensures in
    subst (IsOverLatches c.args.circuit.now) (sym is) ((c.requires.invariant.clauses c.loop-place.place [] c.loop-place-test.true).over)
