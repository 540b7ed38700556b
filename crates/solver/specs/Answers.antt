-- What a solver's answers say.
use Rattle.std.specs.Prelude.{◌≡◌, ◌+◌, ℕ, ℤ, Bool, true, false, List, length, slice_index_or, All, Contains}
use Rattle.base.specs.Budget.{Steps}
use Rattle.lrat.specs.Literals.{is_true, IsSatisfied}
use Rattle.solver.specs.declared.answer.Answer.{Answer}
use Rattle.solver.specs.declared.answer.Answer.TheVariants.{Model, Core, Spent}

-- each of the literals is true
abbrev pub AreTrue : (ℕ → Bool) → List ℤ → Type 0
AreTrue v ls = All (λ l. is_true v l ≡ true) ls

-- the assignment whose value of a variable is at the variable's place
abbrev pub values : List Bool → ℕ → Bool
values b n = slice_index_or b n false

-- nothing satisfies the clauses and makes the literals true
abbrev pub IsRefuted : List (List ℤ) → List ℤ → Type 0
IsRefuted cs ls = (v : ℕ → Bool) → All (IsSatisfied v) cs → AreTrue v ls → ⊥

-- values of the variables 1 to n, after a place 0 that is false, that satisfy the clauses and the assumptions
pub record IsModel (n : ℕ) (cs : List (List ℤ)) (assume : List ℤ) (b : List Bool) : Type 0 where
  pub places : length b ≡ n + 1
  pub none : slice_index_or b 0 true ≡ false
  pub satisfied : All (IsSatisfied (values b)) cs
  pub assumed : AreTrue (values b) assume

-- part of the assumptions, and nothing satisfies it with the clauses
pub record IsCore (cs : List (List ℤ)) (assume core : List ℤ) : Type 0 where
  pub among : All (Contains assume) core
  pub refuted : IsRefuted cs core

-- what an answer says of n variables, the clauses, the assumptions and the budget after the call
abbrev pub IsLawful : ℕ → List (List ℤ) → List ℤ → Steps → Answer → Type 0
IsLawful n cs assume after (Model b) = IsModel n cs assume b.items
IsLawful n cs assume after (Core core) = IsCore cs assume core.items
IsLawful n cs assume after Spent = after.left ≡ 0
