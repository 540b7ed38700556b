use Rattle.std.proofs.Common.{◌∙◌, All, sym, subst}
use Rattle.lrat.specs.Literals.{IsLiteral}
use Rattle.ic3_step.specs.States.{Guarded}
use Rattle.ic3_step.proofs.Loaded.{guarded_literals}
use Rattle.ic3_step.proofs.encoding.add.Goals as goal

pub add-requires : goal.add-requires
add-requires g c =
    let vars = g.S.Sat.vars c.args.solver.now in
    let guarded : Guarded = record { guard = c.args.guard; clause = c.args.clause.now } in
    subst (All (IsLiteral vars)) (sym (c.as_slice.ensures.value ∙ c.in_ok-literals.ensures))
    (guarded_literals c.args.circuit.now guarded vars c.well_formed-2.ensures c.requires.guard)
