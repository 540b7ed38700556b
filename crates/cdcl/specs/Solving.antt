-- What a solver that learns is seen as.
use Rattle.std.specs.Prelude.{ℕ, ℤ, List}

-- the greatest variable, the clauses that were added, and how many ids are taken, by those and by what was learned
pub record Solving : Type 0 where
  pub vars : ℕ
  pub clauses : List (List ℤ)
  pub ids : ℕ
