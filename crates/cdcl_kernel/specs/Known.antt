-- What is known for sure, and what the calls make of it.
use Rattle.std.specs.Prelude.{◌≡◌, ℕ, List, [], ◌∷◌, ◌++◌, ℤ, Bool, true, false, All}
use Rattle.lrat.specs.Literals.{IsLiteral, Follows}
use Rattle.lrat.specs.Lines.{IsAcceptedLine}
use Rattle.cdcl_kernel.specs.Kept.{Kept, find_in, added}
use Rattle.cdcl_kernel.specs.declared.origin.Origin.{Origin}
use Rattle.cdcl_kernel.specs.declared.origin.Origin.TheVariants.{Learned}

-- the clauses by their ids, over the variables 1 to vars
pub record Known : Type 0 where
  pub vars : ℕ
  pub kept : List Kept

-- no variables, no clauses
abbrev pub none_known : ℕ → Known
none_known n = record { vars = n; kept = [] }

-- one clause more, under the next id
abbrev pub with_clause : Known → Origin → List ℤ → Known
with_clause k o c = record { vars = k.vars; kept = k.kept ++ record { origin = o; clause = c } ∷ [] }

-- the hints show the clause, which is true wherever the added clauses are
pub record IsLearned (k : Known) (c : List ℤ) (hints : List ℕ) : Type 0 where
  pub literals : All (IsLiteral k.vars) c
  pub accepted : IsAcceptedLine k.vars (find_in k.kept) c hints
  pub follows : Follows (added k.kept) c

-- the clause is learned exactly where the hints show it
abbrev pub Learns : Known → Known → List ℤ → List ℕ → Bool → Type 0
Learns old new c hints true = IsLearned old c hints × (new ≡ with_clause old Learned c)
Learns old new c hints false = (IsLearned old c hints → ⊥) × (new ≡ old)
