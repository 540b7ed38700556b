use Rattle.std.proofs.Common.{◌≡◌, ℕ, length, All}
use Rattle.lrat.specs.Literals.{IsLiteral}
use Rattle.unrolling.specs.Encodings.{Told}
use Rattle.unrolling.specs.Unrollings.{Leaves, IsTable, AreStates}
use Rattle.unrolling.proofs.frame.fill_latches.Given as goal

abbrev pub invariant-loop-index : goal.invariant-loop-index
invariant-loop-index l = record {
  whole : length l.table ≡ length l.initial.table;
  table : (s : Leaves) (d : Told) (t n : ℕ) → AreStates l.circuit l.cone s d t n l.state →
      IsTable l.circuit l.cone s d t n (length l.cone.inputs.items) 0 0 l.initial.table → IsTable l.circuit l.cone s d t n (length l.cone.inputs.items) l.index 0 l.table;
  literals : (n : ℕ) → All (IsLiteral n) l.state → All (IsLiteral n) l.initial.table → All (IsLiteral n) l.table;
}
