use Rattle.std.proofs.Common.{◌≡◌, ◌++◌}
use Rattle.certificate.proofs.sections.append.Given as goal

abbrev pub invariant-loop-proof : goal.invariant-loop-proof
invariant-loop-proof l = l.list.items ≡ l.initial.list.items ++ l.yielded
