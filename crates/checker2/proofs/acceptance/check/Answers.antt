use Rattle.std.proofs.Common.{◌≢◌}
use Rattle.base.specs.Witness.{witness}
use Rattle.lrat.proofs.Fit.{if_err}
use Rattle.checker2.specs.Accepted.{IsAcceptedCertificate}
use Rattle.graph.specs.Circuits.{IsUpheld}
use Rattle.checker2.specs.Causes.{HasCause}
use Rattle.checker2.specs.declared.check_error.CheckError.TheVariants.{OutOfMemory}
use Rattle.checker2.proofs.Accepted.{accepted_law, cause_refuses, if_on_ok}
use Rattle.checker2.proofs.acceptance.check.Goals as goal

pub returns-clause-complete : goal.returns-clause-complete
returns-clause-complete c =
    if_err (HasCause c.args.circuit.now c.args.certificate.now) (λ e. e ≢ OutOfMemory witness → IsAcceptedCertificate c.args.circuit.now c.args.certificate.now → ⊥) _
    (λ e cause. cause_refuses c.args.circuit.now c.args.certificate.now e cause) c.examine_property.ensures.refused

pub returns-clause-upheld : goal.returns-clause-upheld
returns-clause-upheld c =
    if_on_ok {P = IsAcceptedCertificate c.args.circuit.now c.args.certificate.now} {Q = IsUpheld c.args.circuit.now c.args.certificate.now.property} _ c.examine_property.ensures.accepted
    (λ accepted. accepted_law c.args.circuit.now c.args.certificate.now c.well_formed-2.ensures accepted)
