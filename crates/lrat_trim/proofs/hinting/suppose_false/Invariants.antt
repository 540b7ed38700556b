use Rattle.std.proofs.Common.{◌≡◌, All}
use Rattle.lrat.specs.Literals.{IsLiteral}
use Rattle.lrat_trim.proofs.hinting.suppose_false.Given as goal

abbrev pub invariant-loop-literal : goal.invariant-loop-literal
invariant-loop-literal l = record {
  vars : l.trail.vars ≡ l.fn.trail.vars;
  over : All (IsLiteral l.fn.trail.vars) l.literals;
}
