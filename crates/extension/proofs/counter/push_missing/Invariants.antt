use Rattle.std.proofs.Common.{◌≡◌, ◌+◌, ◌++◌, drop}
use Rattle.extension.specs.Rounds.{missing_gates}
use Rattle.extension.proofs.counter.push_missing.Given as goal

abbrev pub invariant-loop-i : goal.invariant-loop-i
invariant-loop-i l = l.gates.items ++ missing_gates (drop l.i l.wanted) (l.seen + l.i) (l.variable + l.i) ≡ l.initial.gates.items ++ missing_gates l.wanted l.seen l.variable
