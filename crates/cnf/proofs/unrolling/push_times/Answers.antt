use Rattle.std.proofs.Common.{◌≡◌, ◌++◌, ◌∙◌, arith}
use Rattle.std.specs.Prelude.{flat_map}
use Rattle.graph.proofs.Evaluation.{latches_in_range}
use Rattle.cnf.specs.Unrolled.{join_clauses}
use Rattle.cnf.proofs.CaseLaws.{nexts_in_range}
use Rattle.cnf.proofs.Made.{times_more}
use Rattle.cnf.proofs.unrolling.push_times.Goals as goal

pub push_joins-requires-clause-lits : goal.push_joins-requires-clause-lits
push_joins-requires-clause-lits g c = rw (c.latches.ensures, c.loop-step.invariant.max_var) (latches_in_range c.args.circuit.now c.well_formed-2.ensures)

pub push_joins-requires-clause-nexts : goal.push_joins-requires-clause-nexts
push_joins-requires-clause-nexts g c = rw (c.latches.ensures, c.loop-step.invariant.max_var) (nexts_in_range c.args.circuit.now c.well_formed-2.ensures)

pub loop-step-preserved : goal.loop-step-preserved
loop-step-preserved g c =
    let m = c.args.circuit.now in
    let small = c.well_formed-2.ensures.limits.max_var in
    let joins : g.C.AddClause.clauses c.push_joins.new.clauses ≡ g.C.AddClause.clauses c.push_time.new.clauses ++ flat_map (join_clauses m.max_var c.loop-step.time.offset) m.latches =
    rw (c.loop-step.invariant.max_var, c.latches.ensures) at c.in_ok-push_joins.ensures in
    record {
      max_var = c.next-time.ensures.max_var ∙ c.loop-step.invariant.max_var;
      low = omega (arith, c.next-time.ensures.offset, c.loop-step.invariant.low, c.loop-step.invariant.max_var, small);
      left = rw (c.next-time.ensures.offset, c.loop-step.invariant.max_var)
          (times_more m c.args.steps c.loop-step._step c.loop-step.time.offset _ _ _ _ c.loop-step-test.true c.loop-step.invariant.left c.in_ok-push_time.ensures joins);
    }
