use Rattle.std.proofs.Common.{◌≡◌, ◌+◌, ◌≤◌, drop}
use Rattle.witness_circuits.specs.Witnesses.{gate_count}
use Rattle.witness_circuits.proofs.sizes.gate_count.Given as goal

abbrev pub invariant-loop-k : goal.invariant-loop-k
invariant-loop-k l = record {
  few : l.count ≤ l.most;
  rest : l.count + gate_count (drop l.k l.invariant') ≡ gate_count l.invariant';
}
