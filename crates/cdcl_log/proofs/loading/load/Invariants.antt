use Rattle.std.proofs.Common.{◌≡◌, take, map}
use Rattle.cdcl_log.specs.Logged.{as_added}
use Rattle.cdcl_log.proofs.loading.load.Given as goal

abbrev pub invariant-loop-clause : goal.invariant-loop-clause
invariant-loop-clause l = record {
  vars : l.kernel.vars ≡ l.fn.formula.vars;
  clauses : l.kernel.kept ≡ map as_added (take l.clause-index l.fn.formula.clauses);
}
