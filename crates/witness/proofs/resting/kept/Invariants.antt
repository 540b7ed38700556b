use Rattle.std.proofs.Common.{◌≡◌, take, map}
use Rattle.witness.specs.Cleared.{kept_by}
use Rattle.witness.proofs.resting.kept.Given as goal

abbrev pub invariant-loop-lit : goal.invariant-loop-lit
invariant-loop-lit l = l.row ≡ map (kept_by l.values l.marks) (take l.lit-index l.lits)
