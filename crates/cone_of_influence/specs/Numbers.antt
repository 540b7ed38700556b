-- Variables that are kept, and their new numbers.
use Rattle.std.specs.Prelude.{◌≡◌, ℕ, ◌+◌, ◌*◌, ◌%◌, ◌<◌, ◌≤◌, Bool, List, length, slice_index_or, All}
use Rattle.graph.specs.declared.circuit.Lit.{Lit}
use Rattle.graph.specs.Circuits.{variable}
use Rattle.cones.specs.Marks.{IsMarked}

-- what the table has for a variable
abbrev pub entry : List ℕ → ℕ → ℕ
entry table v = slice_index_or table v 0

-- the literal of the variable that the table has for the literal's own, negated where the literal is
abbrev pub renamed : List ℕ → Lit → Lit
renamed table a = record { 0 = 2 * entry table (variable a) + a.0 % 2 }

-- each entry is a variable
abbrev pub IsSmall : List ℕ → Type 0
IsSmall table = All (λ v. v ≤ 4194303) table

-- those of the variables below n that are marked are kept, in increasing order, and the numbers say where each stands
pub record AreNumbersTo (marks : List Bool) (kept numbers : List ℕ) (n : ℕ) : Type 0 where
  pub there : (v : ℕ) → v < n → IsMarked marks v → (entry numbers v < length kept) × (entry kept (entry numbers v) ≡ v)
  pub back : (k : ℕ) → k < length kept → (entry kept k < n) × IsMarked marks (entry kept k) × (entry numbers (entry kept k) ≡ k)
  pub increasing : (j k : ℕ) → j < k → k < length kept → entry kept j < entry kept k
