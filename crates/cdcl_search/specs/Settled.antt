-- Answers that stand whatever the budget.
use Rattle.std.specs.Prelude.{◌≡◌, List, ℤ, Bool, Option, None, Some}
use Rattle.base.specs.Budget.{Steps}
use Rattle.solver.specs.Answers.{IsModel, IsCore}
use Rattle.solver.specs.Parts.{IsPartModel}
use Rattle.solver.specs.declared.part.Part.{Part}
use Rattle.solver.specs.declared.answer.Answer.{Answer}
use Rattle.solver.specs.declared.answer.Answer.TheVariants.{Model, Core, Spent}
use Rattle.cdcl_log.specs.Logged.{Logged, Ends}

-- the same of an answer, which need not have a core
abbrev pub EndsWith : Logged → Logged → List ℤ → Answer → Type 0
EndsWith old new assume (Model b) = Unit {0}
EndsWith old new assume (Core core) = Ends old new assume
EndsWith old new assume Spent = Unit {0}

-- a core
abbrev pub IsCoreAnswer : Logged → List ℤ → Answer → Type 0
IsCoreAnswer k assume (Model b) = ⊥
IsCoreAnswer k assume (Core core) = IsCore k.clauses assume core.items
IsCoreAnswer k assume Spent = ⊥

-- a model of the clauses that were added, or of the part where there is one, and of the assumptions
abbrev pub IsModelOf : Logged → Option Part → List ℤ → List Bool → Type 0
IsModelOf k None assume b = IsModel k.vars k.clauses assume b
IsModelOf k (Some part) assume b = IsPartModel k.vars part assume b

-- such a model, or a core
abbrev pub IsSettled : Logged → Option Part → List ℤ → Answer → Type 0
IsSettled k part assume (Model b) = IsModelOf k part assume b.items
IsSettled k part assume (Core core) = IsCore k.clauses assume core.items
IsSettled k part assume Spent = ⊥

-- what a search answers, with the budget after it
abbrev pub IsAnswer : Logged → Option Part → List ℤ → Steps → Answer → Type 0
IsAnswer k part assume after (Model b) = IsModelOf k part assume b.items
IsAnswer k part assume after (Core core) = IsCore k.clauses assume core.items
IsAnswer k part assume after Spent = after.left ≡ 0
