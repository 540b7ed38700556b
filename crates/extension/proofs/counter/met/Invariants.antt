use Rattle.std.proofs.Common.{◌≡◌, ◌+◌, ◌++◌, drop}
use Rattle.extension.specs.Rounds.{met_literals}
use Rattle.extension.proofs.counter.met.Given as goal

abbrev pub invariant-loop-i : goal.invariant-loop-i
invariant-loop-i l = l.lits.items ++ met_literals (drop l.i l.wanted) (l.missing + l.i) ≡ met_literals l.wanted l.missing
