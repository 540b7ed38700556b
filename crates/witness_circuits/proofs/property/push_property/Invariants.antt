use Rattle.std.proofs.Common.{◌≡◌, ◌+◌, ◌++◌, drop}
use Rattle.witness_circuits.specs.Witnesses.{gate_count, property_gates, property_literal}
use Rattle.witness_circuits.proofs.property.push_property.Given as goal

abbrev pub invariant-loop-k : goal.invariant-loop-k
invariant-loop-k l = record {
  gates : l.gates.items ++ property_gates (drop l.k l.invariant') l.so_far l.next ≡ l.initial.gates.items ++ property_gates l.invariant' l.fn.first l.variable;
  literal : property_literal (drop l.k l.invariant') l.so_far l.next ≡ property_literal l.invariant' l.fn.first l.variable;
  count : l.next + gate_count (drop l.k l.invariant') ≡ l.variable + gate_count l.invariant';
}
