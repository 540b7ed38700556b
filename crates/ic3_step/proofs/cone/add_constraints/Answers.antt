use Rattle.std.proofs.Common.{All, sym, subst}
use Rattle.cnf.specs.Formulas.{IsInRange}
use Rattle.ic3_step.proofs.Loaded.{constraints_in_range}
use Rattle.ic3_step.proofs.cone.add_constraints.Goals as goal

pub add_units-requires-clause-range : goal.add_units-requires-clause-range
add_units-requires-clause-range g c =
    let m = c.args.circuit.now in
    subst (λ n. All (IsInRange n) c.constraints.result.now) (sym c.first-time.ensures.max_var)
    (subst (All (IsInRange m.max_var)) (sym c.constraints.ensures) (constraints_in_range m c.well_formed-2.ensures))
