use Rattle.std.proofs.Common.{[], subst}
use Rattle.graph.specs.declared.circuit.Property.TheVariants.{Justice}
use Rattle.certify3.specs.Outcomes.{IsCertified}
use Rattle.certify3.specs.declared.certified.Certified.{Certified}
use Rattle.rounds.proofs.Tried.{shown_by}
use Rattle.rounds.proofs.shortening.Counting.shown_with.Goals as goal

pub returns-in-Ok-Certificate-clause-tried : goal.returns-in-Ok-Certificate-clause-tried
returns-in-Ok-Certificate-clause-tried c =
    let m = c.args.self.circuit.now in
    let j = c.args.self.position in
    let k = c.args.self.rounds in
    let inv = c.in_ok-invariant.invariant in
    shown_by m j k [] c.args.gates.now inv c.in-Ok-Certificate.text c.accepted_law.ensures c.accepted_rounds_law.ensures c.well_formed-2.ensures
    (subst (λ (r : Certified). IsCertified m (record { property = Justice j; rounds = k }) [] c.args.gates.now inv c.certify.new.budget r) c.in-Ok-Certificate.field-0-is c.in-Ok-Certificate.ensures.certified)
