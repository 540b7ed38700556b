use Rattle.std.proofs.Common.{rules, ◌≡◌, ◌+◌, sym, subst}
use Rattle.lrat.specs.Limits.{IsFormula}
use Rattle.cnf.specs.Clauses.{bad_clauses}
use Rattle.cnf.specs.Formulas.{formula_of}
use Rattle.cnf.proofs.Counted.{claim_formed}
use Rattle.inductive_proofs.proofs.formulas.bad_formula.Goals as goal

pub returns-clause-is_formula : goal.returns-clause-is_formula
returns-clause-is_formula c =
    let m = c.args.circuit.now in
    let inv = c.args.invariant.now in
    let e : c.push.new.self ≡ bad_clauses m inv c.args.bad = search rules in
    subst (λ n. IsFormula (record { vars = n + 1; clauses = c.push.new.self })) (sym c.max_var.ensures)
    (subst (λ r. IsFormula (formula_of m r)) (sym e) (claim_formed m inv c.args.bad c.well_formed-2.ensures c.requires.over c.requires.few c.requires.bad))
