use Rattle.std.proofs.Common.{◌≡◌, ◌++◌, take}
use Rattle.std.specs.Prelude.{flat_map}
use Rattle.cnf.specs.Unrolled.{join_clauses}
use Rattle.cnf.proofs.unrolling.push_joins.Given as goal

abbrev pub invariant-loop-latch : goal.invariant-loop-latch
invariant-loop-latch g l = g.C.AddClause.clauses l.clauses ≡ g.C.AddClause.clauses l.initial.clauses ++ flat_map (join_clauses l.time.max_var l.time.offset) (take l.latch-index l.latches)
