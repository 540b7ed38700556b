-- How the lists of a circuit are read.
use Rattle.std.specs.Prelude.{ℕ, ◌+◌, List, None, Some, codes, ◌==◌, if◌then◌else◌}
use Rattle.scan.specs.Reading.{◌>>=◌, Read}
use Rattle.graph.specs.declared.parts.Parts.{Parts}
use Rattle.aag.specs.declared.header.Header.{Header}
use Rattle.aag.specs.Sections.{header_at, uses_at, parts_of}
use Rattle.aig.specs.Lines.{input_at, latch_at, gate_at, numbered_at}

unfoldable pub lists_at : Header → List ℕ → Read Parts
lists_at h bytes = do
  latches ← numbered_at (latch_at h.max_var) (1 + h.inputs) h.latches bytes
  uses ← uses_at h latches.1
  gates ← numbered_at gate_at (1 + h.inputs + h.latches) h.gates uses.1
  inputs ← numbered_at input_at 1 h.inputs gates.1
  Some (parts_of h.max_var inputs.0 latches.0 uses.0 gates.0, inputs.1)

unfoldable pub circuit_at : List ℕ → Read Parts
circuit_at bytes = do
  h ← header_at (codes "aig ") bytes
  if h.0.inputs + h.0.latches + h.0.gates == h.0.max_var then (lists_at h.0 h.1) else None
