use Rattle.witness_additions.proofs.Spread.{clause_pushed, unit_pushed}
use Rattle.witness_additions.proofs.spreading.Spreading.push_clause.Goals as goal

pub returns-then-may_write : goal.returns-then-may_write
returns-then-may_write c =
    clause_pushed c.args.gates.now c.args.clauses.now c.push.new.self c.in_ok-clause.clause.items c.deref-then-may_write.result.now c.args.lit
    c.in_ok-push.ensures.ok c.deref-then-may_write.ensures.value c.in_ok-clause.ensures

pub returns : goal.returns
returns c = unit_pushed c.args.gates.now c.args.clauses.now c.push-else-may_write.new.self c.args.lit c.in_ok-push-2.ensures.ok
