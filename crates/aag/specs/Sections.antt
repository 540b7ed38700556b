-- How the header and the lists of a circuit are read.
use Rattle.std.specs.Prelude.{ℕ, ◌+◌, List, None, Some, nat_lt, if◌then◌else◌, codes, slice_index}
use Rattle.scan.specs.Reading.{◌>>=◌, Read}
use Rattle.scan.specs.Bytes.{tag_at}
use Rattle.scan.specs.Words.{any, field_at}
use Rattle.scan.specs.Counts.{counts_at}
use Rattle.scan.specs.Lists.{many_at}
use Rattle.graph.specs.declared.circuit.Lit.{Lit}
use Rattle.graph.specs.declared.circuit.Latch.{Latch}
use Rattle.graph.specs.declared.circuit.Gate.{Gate}
use Rattle.graph.specs.declared.parts.Parts.{Parts}
use Rattle.aag.specs.declared.header.Header.{Header}
use Rattle.aag.specs.declared.uses.Uses.{Uses}
use Rattle.aag.specs.Lines.{greatest, defines, literal_at, latch_at, gate_at}
use Rattle.aag.specs.Justice.{justice_at}

-- the counts in the order of a header
abbrev pub header_of : ℕ → List ℕ → Header
header_of max ns = record {
  max_var = max;
  inputs = slice_index ns 0;
  latches = slice_index ns 1;
  outputs = slice_index ns 2;
  gates = slice_index ns 3;
  bad = slice_index ns 4;
  constraints = slice_index ns 5;
  justice = slice_index ns 6;
  fairness = slice_index ns 7;
}

-- a header that begins with this word
unfoldable pub header_at : List ℕ → List ℕ → Read Header
header_at word bytes = do
  rest ← tag_at word bytes
  max ← field_at greatest any 32 rest
  counts ← counts_at greatest 8 max.1
  Some (header_of max.0 counts.0, counts.1)

-- the lists between the latches and the gates
unfoldable pub uses_at : Header → List ℕ → Read Uses
uses_at h bytes = do
  outputs ← many_at (literal_at h.max_var any 10) h.outputs bytes
  bad ← many_at (literal_at h.max_var any 10) h.bad outputs.1
  constraints ← many_at (literal_at h.max_var any 10) h.constraints bad.1
  justice ← justice_at h.max_var h.justice constraints.1
  fairness ← many_at (literal_at h.max_var any 10) h.fairness justice.1
  Some (record { outputs = outputs.0; bad = bad.0; constraints = constraints.0; justice = justice.0; fairness = fairness.0 }, fairness.1)

-- the parts, with these lists between the latches and the gates
abbrev pub parts_of : ℕ → List Lit → List Latch → Uses → List Gate → Parts
parts_of max inputs latches u gates = record {
  max_var = max;
  inputs = inputs;
  latches = latches;
  outputs = u.outputs;
  bad = u.bad;
  constraints = u.constraints;
  justice = u.justice;
  fairness = u.fairness;
  gates = gates;
}

unfoldable pub lists_at : Header → List ℕ → Read Parts
lists_at h bytes = do
  inputs ← many_at (literal_at h.max_var defines 10) h.inputs bytes
  latches ← many_at (latch_at h.max_var) h.latches inputs.1
  uses ← uses_at h latches.1
  gates ← many_at (gate_at h.max_var) h.gates uses.1
  Some (parts_of h.max_var inputs.0 latches.0 uses.0 gates.0, gates.1)

unfoldable pub circuit_at : List ℕ → Read Parts
circuit_at bytes = do
  h ← header_at (codes "aag ") bytes
  if nat_lt h.0.max_var (h.0.inputs + h.0.latches + h.0.gates) then None else (lists_at h.0 h.1)
