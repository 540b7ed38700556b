use Rattle.std.proofs.Common.{◌≡◌, take}
use Rattle.cdcl_kernel.specs.Kept.{added}
use Rattle.cdcl_kernel.specs.Forgotten.{Forgets}
use Rattle.cdcl_kernel.proofs.store.Store.take_out.Given as goal

abbrev pub invariant-loop-id : goal.invariant-loop-id
invariant-loop-id l = record {
  vars : l.self.vars ≡ l.initial.self.vars;
  same_added : added l.self.kept ≡ added l.initial.self.kept;
  forgets : Forgets l.initial.self.kept l.self.kept (take l.id-index l.ids);
}
