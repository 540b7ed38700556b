use Rattle.witness_adoption.proofs.Adoption.{adopted_found}
use Rattle.witness_adoption.proofs.adopting.adopted_of.Goals as goal

pub returns : goal.returns
returns c =
    adopted_found c.args.model.now c.args.witness.now c.args.bad c.args.trimmed.addition.latches c.args.trimmed.addition.gates c.in_ok-gates.gates c.as_slice.result.now
    c.constraints-constraints.result.now c.kept_of-kept.result c.in_ok-clauses.field-0.of_property c.in_ok-clauses.field-0.clauses c.deref.result.now
    c.in_ok-gates.ensures c.kept_of-kept.ensures.extends c.as_slice.ensures c.constraints-constraints.ensures c.in_ok-clauses.ensures
