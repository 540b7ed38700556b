use Rattle.std.proofs.Common.{◌≡◌, ℕ, ◌+◌, ◌≤◌, length, All}
use Rattle.lrat.specs.Literals.{IsLiteral}
use Rattle.unrolling.specs.Encodings.{Told}
use Rattle.unrolling.specs.Unrollings.{Leaves, IsTable, AreFresh}
use Rattle.unrolling.proofs.frame.fill_inputs.Given as goal

abbrev pub invariant-loop-index : goal.invariant-loop-index
invariant-loop-index l = record {
  whole : length l.table ≡ length l.initial.table;
  table : (s : Leaves) (d : Told) (t n : ℕ) → l.first + length l.cone.inputs.items ≤ n → AreFresh l.circuit l.cone s t l.first →
      IsTable l.circuit l.cone s d t n 0 0 0 l.initial.table → IsTable l.circuit l.cone s d t n l.index 0 0 l.table;
  literals : (n : ℕ) → l.first + length l.cone.inputs.items ≤ n → All (IsLiteral n) l.initial.table → All (IsLiteral n) l.table;
}
