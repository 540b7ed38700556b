use Rattle.std.proofs.Common.{◌≡◌, ◌++◌, take}
use Rattle.witness_additions.proofs.arranging.append.Given as goal

abbrev pub invariant-loop-k : goal.invariant-loop-k
invariant-loop-k l = l.to ≡ l.initial.to ++ take l.k l.more
