use Rattle.std.proofs.Common.{◌≡◌, ◌++◌, map, take}
use Rattle.ic3_step.specs.Contents.{guard_literal}
use Rattle.ic3_step.proofs.asking.push_guards.Given as goal

abbrev pub invariant-loop-guard : goal.invariant-loop-guard
invariant-loop-guard l = l.literals.items ≡ l.initial.literals.items ++ map (guard_literal l.circuit) (take l.guard-index l.guards)
