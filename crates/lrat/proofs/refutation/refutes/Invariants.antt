use Rattle.std.proofs.Common.{◌≡◌, take, None}
use Rattle.lrat.specs.Shared.{base_of}
use Rattle.lrat.specs.Stages.{GoAlong}
use Rattle.lrat.specs.Proofs.{first_stage}
use Rattle.lrat.proofs.refutation.refutes.Given as goal

abbrev pub invariant-loop-i : goal.invariant-loop-i
invariant-loop-i l = record {
  base : l.refuter.base ≡ base_of l.formula;
  open_ : l.refuter.refusal ≡ None;
  along : GoAlong l.formula.vars (first_stage l.formula) (take l.i l.lines) l.refuter.stage;
}
