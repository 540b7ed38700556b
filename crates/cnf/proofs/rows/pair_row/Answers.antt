use Rattle.std.proofs.Common.{rules, ◌≡◌, ◌+◌, ◌*◌, ◌++◌, map, sym, subst}
use Rattle.lrat.specs.Limits.{IsFormula}
use Rattle.cnf.specs.Clauses.{literal}
use Rattle.cnf.specs.Unrolled.{times_from}
use Rattle.graph.proofs.Evaluation.{latches_in_range}
use Rattle.cnf.proofs.CaseLaws.{nexts_in_range}
use Rattle.cnf.proofs.Counted.{pair_formed}
use Rattle.cnf.proofs.rows.pair_row.Goals as goal

pub push_joins-requires-clause-lits : goal.push_joins-requires-clause-lits
push_joins-requires-clause-lits c = rw (c.latches.ensures, c.first-time.ensures.max_var) (latches_in_range c.args.circuit.now c.well_formed-2.ensures)

pub push_joins-requires-clause-nexts : goal.push_joins-requires-clause-nexts
push_joins-requires-clause-nexts c = rw (c.latches.ensures, c.first-time.ensures.max_var) (nexts_in_range c.args.circuit.now c.well_formed-2.ensures)

pub returns-clause-is_formula : goal.returns-clause-is_formula
returns-clause-is_formula c =
    let m = c.args.circuit.now in
    let inv = c.args.invariant.now in
    let e : c.push_lists.new.clauses ≡ times_from m 1 0 ++ map (map (literal m.max_var 0)) inv = search rules in
    subst (λ r. IsFormula (record { vars = 2 * (m.max_var + 1); clauses = r })) (sym e) (pair_formed m inv c.well_formed-2.ensures c.requires.over c.requires.few)
