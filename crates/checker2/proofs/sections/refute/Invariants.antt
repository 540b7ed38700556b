use Rattle.std.proofs.Common.{◌≡◌, take, None}
use Rattle.lrat.specs.Shared.{over}
use Rattle.lrat.specs.Stages.{GoAlong}
use Rattle.checker2.proofs.sections.refute.Given as goal

abbrev pub invariant-loop-i : goal.invariant-loop-i
invariant-loop-i l = record {
  base : l.refuter.base ≡ l.fn.refuter.base;
  open_ : l.refuter.refusal ≡ None;
  along : GoAlong l.fn.refuter.base.vars (over l.fn.refuter.base l.units) (take l.i l.lines) l.refuter.stage;
}
