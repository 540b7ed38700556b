use Rattle.std.proofs.Common.{[]}
use Rattle.cnf.specs.Clauses.{gate_at}
use Rattle.cnf.proofs.Made.{map_more}
use Rattle.cnf.proofs.push.literals_of.Goals as goal

pub gate_literals-requires-clause-in_range : goal.gate_literals-requires-clause-in_range
gate_literals-requires-clause-in_range c = c.requires.in_range c.loop-gate.gate-index _ c.loop-gate-test.true

pub loop-gate-preserved : goal.loop-gate-preserved
loop-gate-preserved c =
    map_more (gate_at c.args.time.max_var c.args.time.offset) c.args.gates.now c.loop-gate.gate-index _ [] c.loop-gate.literals c.push.new.self _
    c.loop-gate-test.true c.loop-gate.invariant c.in_ok-push.ensures.ok c.gate_literals.ensures
