use Rattle.std.proofs.Common.{IfOk, ◌∙◌, subst}
use Rattle.cdcl.specs.Refutations.{IsProved}
use Rattle.cdcl.proofs.Searched.{without_units}
use Rattle.cdcl.proofs.refutation.refute.Goals as goal

pub returns-clause-lawful : goal.returns-clause-lawful
returns-clause-lawful c = subst (λ f. IfOk c.refute.result (IsProved f c.refute.new.budget)) (without_units _ ∙ c.in_ok-refuter.ensures.formula) c.refute.ensures.lawful
