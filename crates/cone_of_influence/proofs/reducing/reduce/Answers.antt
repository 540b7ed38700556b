use Rattle.std.proofs.Common.{sym, subst}
use Rattle.cnf.specs.Formulas.{bad_literal}
use Rattle.sequential_cones.specs.Cones.{IsConeOf}
use Rattle.cone_of_influence.proofs.reducing.reduce.Goals as goal

pub reduced_to-requires-clause-cone : goal.reduced_to-requires-clause-cone
reduced_to-requires-clause-cone c =
    let m = c.args.circuit.now in
    subst (IsConeOf m (bad_literal m 0)) (sym c.as_slice.ensures.value) (subst (λ a. IsConeOf m a c.in_ok-marks.marks.items) c.bad.ensures.bad c.in_ok-marks.ensures)
