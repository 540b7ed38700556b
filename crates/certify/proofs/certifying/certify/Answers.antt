use Rattle.certify.proofs.Shown.{honest}
use Rattle.certify.proofs.certifying.certify.Goals as goal

pub returns-clause-honest : goal.returns-clause-honest
returns-clause-honest c = honest c.args.circuit.now c.args.property c.args.invariant.now c.certify_property.new.budget _ c.certify_property.ensures.certified
