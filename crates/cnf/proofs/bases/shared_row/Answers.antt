use Rattle.std.proofs.Common.{rules, ◌≡◌, get_or, sym, subst}
use Rattle.lrat.specs.Limits.{IsFormula}
use Rattle.cnf.specs.Formulas.{formula_of, shared_formula}
use Rattle.cnf.proofs.CaseLaws.{clause_range}
use Rattle.cnf.proofs.Formed.{shared_formed}
use Rattle.cnf.proofs.Safety.{safety_law}
use Rattle.cnf.proofs.bases.shared_row.Goals as goal

pub push_lists-requires-clause-in_range : goal.push_lists-requires-clause-in_range
push_lists-requires-clause-in_range c =
    rw c.first-time.ensures.max_var (λ k d k_in. clause_range c.args.circuit.now (get_or c.args.invariant.now k d) c.well_formed-2.ensures ((c.requires.invariant.clauses k d k_in).over))

pub returns-clause-is_formula : goal.returns-clause-is_formula
returns-clause-is_formula c =
    let m = c.args.circuit.now in
    let e : formula_of m c.push_lists.new.clauses ≡ shared_formula m c.args.invariant.now = search rules in
    subst IsFormula (sym e) (shared_formed m c.args.invariant.now c.well_formed-2.ensures c.requires.invariant)

pub returns-clause-safety : goal.returns-clause-safety
returns-clause-safety c = safety_law c.args.circuit.now c.args.invariant.now c.well_formed-2.ensures (λ k d k_in. (c.requires.invariant.clauses k d k_in).over)
