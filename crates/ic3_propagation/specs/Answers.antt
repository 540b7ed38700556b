-- Clauses that cannot be propagated.
use Rattle.std.specs.Prelude.{◌≡◌, ◌⊎◌, ℕ}
use Rattle.base.specs.Budget.{Steps}
use Rattle.graph.specs.declared.parts.Parts.{Parts}
use Rattle.ic3_frames.specs.declared.frames.Entry.{Entry}
use Rattle.ic3_frames.specs.Frames.{IsFalseAfter}

-- the clause does not end at the level, or it cannot be propagated from there: a step leads to where it is false, or the budget is exhausted
abbrev pub CannotPropagate : Parts → ℕ → Steps → Entry → Type 0
CannotPropagate m level after e = e.level ≡ level → IsFalseAfter m e.clause ⊎ (after.left ≡ 0)
