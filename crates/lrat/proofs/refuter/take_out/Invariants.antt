use Rattle.std.proofs.Common.{◌≡◌, take}
use Rattle.lrat.specs.Stages.{TakesOut}
use Rattle.lrat.proofs.refuter.take_out.Given as goal

abbrev pub invariant-loop-id : goal.invariant-loop-id
invariant-loop-id l = record {
  base : l.stack.base ≡ l.initial.stack.base;
  top : l.stack.top ≡ l.initial.stack.top;
  takes : TakesOut l.initial.stack.present (take l.id-index l.ids) l.stack.present;
}
