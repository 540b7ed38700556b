-- What is found of equal latches.
use Rattle.graph.specs.declared.parts.Parts.{Parts}
use Rattle.cnf.specs.Invariants.{IsInvariant}
use Rattle.merged.specs.Laws.{AreInductive}
use Rattle.correspondence.specs.declared.equal_latches.Correspondence.{Correspondence}
use Rattle.correspondence.specs.declared.equal_latches.Correspondence.TheVariants.{Invariant, Inductive}

-- the clauses are inductive, and exclude the bad literal where this is said
abbrev pub IsCorrespondence : Parts → Correspondence → Type 0
IsCorrespondence m (Invariant cs) = IsInvariant m cs
IsCorrespondence m (Inductive cs) = AreInductive m cs
