use Rattle.std.proofs.Common.{rules, ◌≡◌, ◌+◌, sym, subst}
use Rattle.graph.proofs.Evaluation.{latches_in_range}
use Rattle.lrat.specs.Limits.{IsFormula}
use Rattle.cnf.specs.Unrolled.{unroll_clauses}
use Rattle.cnf.proofs.Counted.{begin_formed}
use Rattle.cnf.proofs.rows.begin_row.Goals as goal

pub push_resets-requires-clause-in_range : goal.push_resets-requires-clause-in_range
push_resets-requires-clause-in_range c = rw (c.latches.ensures, c.first-time.ensures.max_var) (latches_in_range c.args.circuit.now c.well_formed-2.ensures)

pub returns-clause-is_formula : goal.returns-clause-is_formula
returns-clause-is_formula c =
    let m = c.args.circuit.now in
    let e : c.add_time.new.clauses ≡ unroll_clauses m 0 = search rules in
    subst (λ r. IsFormula (record { vars = m.max_var + 1; clauses = r })) (sym e) (begin_formed m c.well_formed-2.ensures)
