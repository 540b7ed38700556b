use Rattle.graph.proofs.Shape.{exact_told}
use Rattle.graph.proofs.model.Model.from_parts.Goals as goal

pub returns-in_err-order-clause-exact : goal.returns-in_err-order-clause-exact
returns-in_err-order-clause-exact c = exact_told c.args.parts _ _ c.from_residual.ensures.1 c.in_err-order.ensures.refused
