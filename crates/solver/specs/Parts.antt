-- What an answer by part of the clauses says.
use Rattle.std.specs.Prelude.{◌≡◌, ◌+◌, ℕ, ℤ, Bool, true, false, ◌&&◌, List, length, slice_index_or, All}
use Rattle.base.specs.Budget.{Steps}
use Rattle.lrat.specs.Literals.{is_true}
use Rattle.solver.specs.declared.answer.Answer.{Answer}
use Rattle.solver.specs.declared.answer.Answer.TheVariants.{Model, Core, Spent}
use Rattle.solver.specs.declared.part.AndGate.{AndGate}
use Rattle.solver.specs.declared.part.Part.{Part}
use Rattle.solver.specs.Answers.{AreTrue, values, IsCore}

-- the gate's literal is true exactly where both right sides are
abbrev pub IsAnd : (ℕ → Bool) → AndGate → Type 0
IsAnd v g = is_true v g.lhs ≡ (is_true v g.rhs0 && is_true v g.rhs1)

-- values of the variables 1 to n, after a place 0 that is false, by which each gate of the part has its value by its right
-- sides, and the part's literals and the assumptions are true
pub record IsPartModel (n : ℕ) (part : Part) (assume : List ℤ) (b : List Bool) : Type 0 where
  pub places : length b ≡ n + 1
  pub none : slice_index_or b 0 true ≡ false
  pub gates : All (IsAnd (values b)) part.gates.items
  pub wanted : AreTrue (values b) part.literals.items
  pub assumed : AreTrue (values b) assume

-- what an answer by a part says of n variables, the clauses, the assumptions and the budget after the call
abbrev pub IsLawfulPart : ℕ → List (List ℤ) → Part → List ℤ → Steps → Answer → Type 0
IsLawfulPart n cs part assume after (Model b) = IsPartModel n part assume b.items
IsLawfulPart n cs part assume after (Core core) = IsCore cs assume core.items
IsLawfulPart n cs part assume after Spent = after.left ≡ 0
