use Rattle.std.proofs.Common.{◌≡◌, take, None}
use Rattle.lrat.specs.Lemmas.{Extends}
use Rattle.lrat.specs.Shared.{base_of}
use Rattle.lrat.specs.Proofs.{first_stage}
use Rattle.lrat.proofs.extension.extends.Given as goal

abbrev pub invariant-loop-i : goal.invariant-loop-i
invariant-loop-i l = record {
  base : l.refuter.base ≡ base_of l.formula;
  open_ : l.refuter.refusal ≡ None;
  extends : Extends l.formula.vars (first_stage l.formula) (take l.i l.lines) l.refuter.stage;
}
