-- Clauses of a circuit's literals as clauses over its latches.
use Rattle.std.specs.Prelude.{ℕ, ◌<◌, List, Option, All, IfSome}
use Rattle.states.specs.declared.state_lit.StateLit.{StateLit}

-- each position is below the number of latches
abbrev pub HasPositions : ℕ → List (Option ℕ) → Type 0
HasPositions n positions = All (λ p. IfSome p (λ i. i < n)) positions

-- each latch is below that number
abbrev pub AreInside : ℕ → List StateLit → Type 0
AreInside n lits = All (λ a. a.latch < n) lits
