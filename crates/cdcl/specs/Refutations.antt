-- What a refutation comes to.
use Rattle.std.specs.Prelude.{◌≡◌, []}
use Rattle.base.specs.Budget.{Steps}
use Rattle.lrat.specs.Proofs.{IsAcceptedProof}
use Rattle.lrat.specs.declared.formula.Formula.{Formula}
use Rattle.solver.specs.Answers.{IsModel}
use Rattle.cdcl.specs.declared.refuted.Refuted.{Refuted}
use Rattle.cdcl.specs.declared.refuted.Refuted.TheVariants.{Proof, Model, Spent}

-- an accepted proof, a model, or a budget that is exhausted
abbrev pub IsProved : Formula → Steps → Refuted → Type 0
IsProved f after (Proof p) = IsAcceptedProof f p
IsProved f after (Model b) = IsModel f.vars f.clauses [] b.items
IsProved f after Spent = after.left ≡ 0
