use Rattle.graph.proofs.Shape.{only_bad_model}
use Rattle.graph.proofs.model.Model.with_bad.Goals as goal

pub invariant_of-result : goal.invariant_of-result
invariant_of-result c =
    let watched = rw (← c.self.view_is) at c.requires in
    only_bad_model c.self.inside.parts c.in_ok-parts.parts c.self.inside.order.items c.in_ok-order.order.items watched.0 c.args.bad watched.1 c.self.invariant c.in_ok-parts.ensures
    (rw c.deref.ensures.value at c.in_ok-order.ensures)
