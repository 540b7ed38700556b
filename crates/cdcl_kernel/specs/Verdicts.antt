-- What values say of clauses, and what hints and assumptions show.
use Rattle.std.specs.Prelude.{◌≡◌, ◌<◌, ℕ, ℤ, Bool, List, Some, All, Contains, map, neg_ℤ}
use Rattle.lrat.specs.Literals.{IsSatisfied}
use Rattle.solver.specs.Answers.{values}
use Rattle.cdcl_kernel.specs.Kept.{Kept, find_in, origin_in}
use Rattle.cdcl_kernel.specs.Known.{Known, IsLearned}
use Rattle.cdcl_kernel.specs.declared.origin.Origin.TheVariants.{Added}

-- one of the clause's literals is true under the values
abbrev pub IsSatisfiedBy : List Bool → List ℤ → Type 0
IsSatisfiedBy b c = IsSatisfied (values b) c

-- one of the literals of the clause with the id is true under the values
abbrev pub SatisfiesOf : List Kept → List Bool → ℕ → Type 0
SatisfiesOf ks b id = (c : List ℤ) × (find_in ks id ≡ Some c) × IsSatisfiedBy b c

-- the first added clause of which no literal is true under the values
pub record IsUnsatisfied (ks : List Kept) (b : List Bool) (id : ℕ) : Type 0 where
  pub is_added : origin_in ks id ≡ Added
  pub none : SatisfiesOf ks b id → ⊥
  pub before : (q : ℕ) → q < id → origin_in ks q ≡ Added → SatisfiesOf ks b q

-- the hints show a clause that denies assumptions alone
pub record DeniesAssumed (k : Known) (c : List ℤ) (hints : List ℕ) (assume : List ℤ) : Type 0 where
  pub learned : IsLearned k c hints
  pub assumed : All (Contains assume) (map neg_ℤ c)

-- the literal and its negation are both assumed
abbrev pub IsOpposed : List ℤ → ℤ → Type 0
IsOpposed assume l = Contains assume l × Contains assume (neg_ℤ l)
