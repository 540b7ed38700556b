use Rattle.std.proofs.Common.{◌≡◌, ◌-◌, ◌^◌, length, take}
use Rattle.std.specs.Prelude.{min, sum_by}
use Rattle.graph.proofs.check.justice_sum.Given as goal

abbrev pub invariant-loop-lits : goal.invariant-loop-lits
invariant-loop-lits l = l.sum ≡ min (2 ^ 64 - 1) (sum_by length (take l.lits-index l.justice))
