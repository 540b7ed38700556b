use Rattle.std.proofs.Common.{[], ◌∙◌, ap, subst}
use Rattle.lrat.specs.Proofs.{IsAcceptedProof}
use Rattle.solver.specs.Answers.{IsModel}
use Rattle.cdcl_log.specs.Logged.{Ends, added_to, with_units}
use Rattle.cdcl_log.specs.Refuting.{Refuting}
use Rattle.cdcl.proofs.Searched.{model_with, same_formula}
use Rattle.cdcl.proofs.refuter.Refuter.refute.Goals as goal

pub proof-requires-clause-shown : goal.proof-requires-clause-shown
proof-requires-clause-shown c =
    let ends : Ends c.self.inside.kernel c.searched.new.kernel c.args.units.now = rw c.in-Core.is at c.in_ok-values.ensures.ends in
    ends c.self.invariant

pub returns-in-Model-clause-lawful : goal.returns-in-Model-clause-lawful
returns-in-Model-clause-lawful c =
    subst (λ f. IsModel (with_units f c.args.units.now).vars (with_units f c.args.units.now).clauses [] c.in-Model.values.items) (ap (λ (r : Refuting). r.formula) c.self.view_is)
    (model_with (added_to c.self.inside.kernel) c.args.units.now c.in-Model.values.items (rw c.in-Model.is at c.in_ok-values.ensures.lawful))

pub returns-in-Core-clause-lawful : goal.returns-in-Core-clause-lawful
returns-in-Core-clause-lawful c =
    let k = c.in_ok-values.ensures.keeps in
    subst (λ f. IsAcceptedProof (with_units f c.args.units.now) c.in_ok-proof-in-Core.field-0)
    (same_formula c.self.inside.kernel c.searched.new.kernel k.same_vars k.same_clauses ∙ ap (λ (r : Refuting). r.formula) c.self.view_is) c.in_ok-proof-in-Core.ensures.accepted
