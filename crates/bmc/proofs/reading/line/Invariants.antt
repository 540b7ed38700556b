use Rattle.std.proofs.Common.{◌≡◌, ◌+◌, ◌<◌, ℕ, length, get_or}
use Rattle.graph.specs.Circuits.{place}
use Rattle.solver.specs.Answers.{values}
use Rattle.bmc.proofs.reading.line.Given as goal

abbrev pub invariant-loop-index : goal.invariant-loop-index
invariant-loop-index l = record {
  whole : length l.line.items ≡ length l.circuit.inputs;
  inputs : (k : ℕ) → k < l.index → place l.line.items (get_or l.cone.inputs.items k 0) ≡ values l.values (l.first + (k + 1));
}
