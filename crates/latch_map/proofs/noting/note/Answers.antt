use Rattle.latch_map.proofs.Noted.{noted}
use Rattle.latch_map.proofs.noting.note.Goals as goal

pub returns-in-Some : goal.returns-in-Some
returns-in-Some c =
    noted c.args.clauses.now c.args.place c.args.denial c.clause_at.result.now c.clause_at-2.result.now c.in-Some.equal.one c.in-Some.equal.other
    c.args.table.now c.join.new.table c.clause_at.ensures c.clause_at-2.ensures c.in-Some.ensures c.join.ensures
