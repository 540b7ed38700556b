use Rattle.std.proofs.Common.{◌≡◌, ◌++◌, map, take}
use Rattle.cnf.specs.Clauses.{literal}
use Rattle.inductive_proofs.proofs.formulas.push_clauses.Given as goal

abbrev pub invariant-loop-k : goal.invariant-loop-k
invariant-loop-k l = l.to ≡ l.fn.to ++ map (map (literal l.time.max_var l.time.offset)) (take l.k l.invariant')
