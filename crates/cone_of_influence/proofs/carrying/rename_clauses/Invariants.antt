use Rattle.std.proofs.Common.{◌≡◌, map, take}
use Rattle.cone_of_influence.specs.Numbers.{renamed}
use Rattle.cone_of_influence.proofs.carrying.rename_clauses.Given as goal

abbrev pub invariant-loop-clause : goal.invariant-loop-clause
invariant-loop-clause l = l.all ≡ map (map (renamed l.table)) (take l.clause-index l.clauses)
