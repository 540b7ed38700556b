use Rattle.std.proofs.Common.{◌≡◌, ◌+◌, ◌++◌, drop}
use Rattle.extension.specs.Rounds.{open_gates}
use Rattle.extension.proofs.counter.push_opened.Given as goal

abbrev pub invariant-loop-i : goal.invariant-loop-i
invariant-loop-i l = l.gates.items ++ open_gates l.ends (drop l.i l.wanted) (l.missing + l.i) (l.variable + l.i) ≡ l.initial.gates.items ++ open_gates l.ends l.wanted l.missing l.variable
