use Rattle.std.proofs.Common.{◌≤◌, subst}
use Rattle.graph.specs.declared.circuit.Property.TheVariants.{Justice}
use Rattle.graph.specs.declared.parts.Parts.{Parts}
use Rattle.checker2.specs.Accepted.{IsShowable}
use Rattle.checker2.proofs.Watched.{closing_is, closing_used}
use Rattle.certify.proofs.Shown.{certified, honest, refused}
use Rattle.certify.proofs.certifying.certify_shadow.Goals as goal

pub certify_for-requires : goal.certify_for-requires
certify_for-requires c = closing_used c.args.circuit.now c.args.shadow.now c.args.n c.bad.result.now c.requires.shadow c.bad.ensures

pub returns-clause-certified : goal.returns-clause-certified
returns-clause-certified c =
    let m = c.args.circuit.now in
    let within : c.args.shadow.now.max_var ≤ 4194303 = c.well_formed-2.ensures.limits.max_var in
    let showable : IsShowable m (Justice c.args.n) = record { exists = c.requires.there; within = subst (λ (s : Parts). s.max_var ≤ 4194303) c.requires.shadow within } in
    certified m c.args.shadow.now (Justice c.args.n) _ c.args.invariant.now c.certify_for.new.budget _ showable c.requires.shadow
    (closing_is m c.args.shadow.now c.args.n c.bad.result.now c.requires.shadow c.bad.ensures) c.certify_for.ensures.certified

pub returns-clause-refused : goal.returns-clause-refused
returns-clause-refused c =
    let m = c.args.circuit.now in
    let within : c.args.shadow.now.max_var ≤ 4194303 = c.well_formed-2.ensures.limits.max_var in
    let showable : IsShowable m (Justice c.args.n) = record { exists = c.requires.there; within = subst (λ (s : Parts). s.max_var ≤ 4194303) c.requires.shadow within } in
    refused m c.args.shadow.now (Justice c.args.n) c.args.invariant.now _ showable c.requires.shadow c.certify_for.ensures.refused

pub returns-clause-honest : goal.returns-clause-honest
returns-clause-honest c =
    honest c.args.circuit.now (Justice c.args.n) c.args.invariant.now c.certify_for.new.budget c.certify_for.result (returns-clause-certified c)
