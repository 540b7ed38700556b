use Rattle.std.proofs.Common.{◌≡◌, ◌+◌, ◌*◌, ◌++◌, List, length, drop}
use Rattle.graph.specs.declared.circuit.Lit.{Lit}
use Rattle.graph.specs.declared.circuit.Latch.{Latch}
use Rattle.live_safe.specs.Shadow.{equal_literals, seen_literals}
use Rattle.live_safe.proofs.gates.chained_literals.Given as goal

abbrev pub invariant-loop-i : goal.invariant-loop-i
invariant-loop-i l = (ls : List Latch) → length ls ≡ l.latches → l.lits.items ++ equal_literals (drop l.i ls) (l.copies + 6 * l.i) ≡ equal_literals ls l.copies

abbrev pub invariant-loop-k : goal.invariant-loop-k
invariant-loop-k l = (ls : List Latch) (qs : List Lit) → length ls ≡ l.latches → length qs ≡ l.wanted →
    l.lits.items ++ seen_literals (drop l.k qs) (l.seen + l.k) ≡ equal_literals ls l.copies ++ seen_literals qs l.seen
