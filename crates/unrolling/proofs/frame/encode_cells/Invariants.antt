use Rattle.std.proofs.Common.{◌≡◌, ℕ, ℤ, List, length, All}
use Rattle.base.specs.Budget.{Spends}
use Rattle.lrat.specs.Literals.{IsLiteral}
use Rattle.unrolling.specs.Encodings.{IsGrown, told}
use Rattle.unrolling.specs.Merged.{IsReady}
use Rattle.unrolling.specs.Unrollings.{Leaves, IsTable}
use Rattle.unrolling.proofs.frame.encode_cells.Given as goal

abbrev pub invariant-loop-place : goal.invariant-loop-place
invariant-loop-place g l = record {
  grown : IsGrown l.place l.initial.encoder l.encoder;
  whole : length l.table ≡ length l.initial.table;
  spends : Spends l.initial.budget l.budget;
  ready : IsReady l.encoder l.sweeping.given.items (g.S.Sat.vars l.sweeping.solver) (g.S.Sat.clauses l.sweeping.solver) l.sweeping.representatives;
  literals : All (IsLiteral l.encoder.variables) l.table;
  table : (s : Leaves) (cs : List (List ℤ)) (t : ℕ) → IsTable l.circuit l.cone s (told l.initial.encoder cs) t l.initial.encoder.variables (length l.cone.inputs.items) (length l.cone.latches.items) 0 l.initial.table →
      IsTable l.circuit l.cone s (told l.encoder cs) t l.encoder.variables (length l.cone.inputs.items) (length l.cone.latches.items) l.place l.table;
}
