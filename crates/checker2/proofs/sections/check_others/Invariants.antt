use Rattle.std.proofs.Common.{◌≡◌, ◌+◌, None, length}
use Rattle.checker2.specs.Accepted.{cases, RefuteBelow}
use Rattle.checker2.proofs.sections.check_others.Given as goal

abbrev pub invariant-loop-k : goal.invariant-loop-k
invariant-loop-k l = record {
  fresh : l.refuter.refusal ≡ None;
  base : l.refuter.base ≡ l.fn.refuter.base;
  below : RefuteBelow (cases l.circuit l.fn.refuter.base l.certificate.invariant l.bad) l.certificate.sections (length l.certificate.invariant + l.k);
}
