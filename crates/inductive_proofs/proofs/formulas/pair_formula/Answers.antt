use Rattle.std.proofs.Common.{rules, ◌≡◌, ◌+◌, ◌*◌, ◌++◌, map, sym, subst}
use Rattle.lrat.specs.Limits.{IsFormula}
use Rattle.cnf.specs.Clauses.{literal}
use Rattle.cnf.specs.Unrolled.{times_from}
use Rattle.cnf.proofs.Counted.{pair_formed}
use Rattle.inductive_proofs.proofs.formulas.pair_formula.Goals as goal

pub returns-clause-is_formula : goal.returns-clause-is_formula
returns-clause-is_formula c =
    let m = c.args.circuit.now in
    let inv = c.args.invariant.now in
    let e : c.push_clauses.new.to ≡ times_from m 1 0 ++ map (map (literal m.max_var 0)) inv = search rules in
    subst (λ n. IsFormula (record { vars = 2 * (n + 1); clauses = c.push_clauses.new.to })) (sym c.max_var.ensures)
    (subst (λ r. IsFormula (record { vars = 2 * (m.max_var + 1); clauses = r })) (sym e) (pair_formed m inv c.well_formed-2.ensures c.requires.over c.requires.few))
