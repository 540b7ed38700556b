use Rattle.std.proofs.Common.{◌≡◌, ◌∙◌, [], sym, subst}
use Rattle.solver.specs.Answers.{IsModel}
use Rattle.cdcl_log.specs.Logged.{added_to, with_units}
use Rattle.cdcl_log.specs.Refuting.{refuting}
use Rattle.cdcl.proofs.Searched.{model_with, same_formula, same_refuting, stays_then}
use Rattle.cdcl.proofs.refuter.Refuter.show.Goals as goal

pub returns-in-Model-clause-lawful : goal.returns-in-Model-clause-lawful
returns-in-Model-clause-lawful c =
    let k = c.in_ok-values.ensures.keeps in
    let us = c.args.units.now in
    subst (λ f. IsModel (with_units f us).vars (with_units f us).clauses [] c.in-Model.values.items) (sym (same_formula c.self.inside.kernel c.searched.new.kernel k.same_vars k.same_clauses))
    (model_with (added_to c.self.inside.kernel) us c.in-Model.values.items (rw c.in-Model.is at c.in_ok-values.ensures.lawful))

pub returns-in_err-closing-in-Core-clause-stays : goal.returns-in_err-closing-in-Core-clause-stays
returns-in_err-closing-in-Core-clause-stays c =
    let k = c.in_ok-values.ensures.keeps in
    let same : refuting c.searched.new.kernel ≡ c.args.self.now =
    same_refuting c.self.inside.kernel c.searched.new.kernel k.same_vars k.same_clauses k.same_room k.same_shared ∙ c.self.view_is in
    stays_then c.args.self.now (refuting c.searched.new.kernel) (refuting c.closing.new.kernel) same c.in_err-closing-in-Core.ensures.stays

pub returns-in-Core-clause-stays : goal.returns-in-Core-clause-stays
returns-in-Core-clause-stays c =
    let k = c.in_ok-values.ensures.keeps in
    let same : refuting c.searched.new.kernel ≡ c.args.self.now =
    same_refuting c.self.inside.kernel c.searched.new.kernel k.same_vars k.same_clauses k.same_room k.same_shared ∙ c.self.view_is in
    stays_then c.args.self.now (refuting c.searched.new.kernel) (refuting c.closing.new.kernel) same c.in_ok-closing-in-Core.ensures.stays
