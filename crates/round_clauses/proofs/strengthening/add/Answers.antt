use Rattle.std.proofs.Common.{◌≡◌, ◌∙◌, ◌+◌, ◌≤◌, ℕ, All, map, refl, sym, subst, arith}
use Rattle.lrat.specs.Literals.{IsLiteral}
use Rattle.cnf.specs.Clauses.{literal}
use Rattle.cnf.specs.Formulas.{IsInRange}
use Rattle.cnf.proofs.CaseLaws.{clause_range}
use Rattle.inductive_subset.proofs.Guarding.{clause_from}
use Rattle.round_clauses.proofs.strengthening.add.Goals as goal

pub clause_into-requires-clause-in_range : goal.clause_into-requires-clause-in_range
clause_into-requires-clause-in_range g c =
    subst (λ (n : ℕ). All (IsInRange n) c.args.clause.now) (sym c.first.ensures.max_var)
    (clause_range c.args.circuit.now c.args.clause.now c.well_formed-2.ensures (c.if-not-is_over_latches.ensures refl))

pub add-requires : goal.add-requires
add-requires g c =
    let m = c.args.circuit.now in
    let vars = g.S.Sat.vars c.args.solver.now in
    let room : m.max_var + 1 ≤ vars = omega (arith, c.requires.vars) in
    let same : map (literal c.first.result.max_var c.first.result.offset) c.args.clause.now ≡ map (literal m.max_var 0) c.args.clause.now = rw (c.first.ensures.max_var, c.first.ensures.offset) refl in
    subst (All (IsLiteral vars)) (sym (c.as_slice.ensures.value ∙ c.in_ok-clause_into.ensures.literals ∙ same))
    (clause_from m vars c.args.clause.now c.well_formed-2.ensures room (c.if-not-is_over_latches.ensures refl))
