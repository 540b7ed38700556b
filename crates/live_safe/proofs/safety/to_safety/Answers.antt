use Rattle.std.proofs.Common.{◌<◌, length}
use Rattle.live_safe.proofs.Back.{lasso_found}
use Rattle.live_safe.proofs.Carried.{lasso_carried}
use Rattle.live_safe.proofs.Consequence.{bounded_if_safe, shortest_lasso}
use Rattle.live_safe.proofs.Returned.{lasso_shown}
use Rattle.live_safe.proofs.safety.to_safety.Goals as goal

pub returns-clause-found : goal.returns-clause-found
returns-clause-found c =
    let exists : c.args.position < length c.args.circuit.now.justice = rw c.parts-parts.ensures.parts at c.in_ok-check.ensures.small.exists in
    lasso_found c.args.circuit.now c.args.position c.parts-parts.ensures.well_formed exists

pub returns-clause-carried : goal.returns-clause-carried
returns-clause-carried c = lasso_carried c.args.circuit.now c.args.position c.parts-parts.ensures.well_formed

pub returns-clause-bounded : goal.returns-clause-bounded
returns-clause-bounded c =
    let exists : c.args.position < length c.args.circuit.now.justice = rw c.parts-parts.ensures.parts at c.in_ok-check.ensures.small.exists in
    bounded_if_safe c.args.circuit.now c.args.position c.parts-parts.ensures.well_formed exists

pub returns-clause-shown : goal.returns-clause-shown
returns-clause-shown c =
    let exists : c.args.position < length c.args.circuit.now.justice = rw c.parts-parts.ensures.parts at c.in_ok-check.ensures.small.exists in
    lasso_shown c.args.circuit.now c.args.position (lasso_found c.args.circuit.now c.args.position c.parts-parts.ensures.well_formed exists)

pub returns-clause-shortest : goal.returns-clause-shortest
returns-clause-shortest c = shortest_lasso c.args.circuit.now c.args.position c.parts-parts.ensures.well_formed
