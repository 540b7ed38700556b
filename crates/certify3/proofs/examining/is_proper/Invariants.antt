use Rattle.std.proofs.Common.{◌≡◌, map, take}
use Rattle.cnf.specs.Clauses.{literal}
use Rattle.certify3.proofs.examining.is_proper.Given as goal

abbrev pub invariant-loop-lit : goal.invariant-loop-lit
invariant-loop-lit l = record {
  vars : l.trail.vars ≡ l.fn.trail.vars;
  held : l.trail.literals ≡ map (literal l.time.max_var l.time.offset) (take l.lit-index l.clause);
}
