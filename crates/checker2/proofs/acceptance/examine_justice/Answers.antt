use Rattle.std.proofs.Common.{◌∙◌, ap, subst, sym}
use Rattle.graph.specs.declared.circuit.Property.TheVariants.{Justice}
use Rattle.checker2.specs.Accepted.{IsShowable, bad_of, circuit_of}
use Rattle.checker2.proofs.Accepted.{accepted_of, refused_of}
use Rattle.checker2.proofs.Watched.{closing_is, closing_used}
use Rattle.checker2.proofs.acceptance.examine_justice.Goals as goal

pub examine-requires : goal.examine-requires
examine-requires c = closing_used c.args.circuit.now c.in-Ok.shadow c.args.n c.bad.result.now c.in-Ok.ensures.shadow c.bad.ensures

pub returns-in-Ok-clause-accepted : goal.returns-in-Ok-clause-accepted
returns-in-Ok-clause-accepted c =
    let m = c.args.circuit.now in
    let n = c.args.n in
    let showable : IsShowable m (Justice n) = record { exists = c.in-Ok.ensures.exists; within = c.in-Ok.ensures.within } in
    accepted_of m c.in-Ok.shadow _ c.args.certificate.now _ (subst (IsShowable m) (sym c.requires) showable) (c.in-Ok.ensures.shadow ∙ ap (circuit_of m) (sym c.requires))
    (closing_is m c.in-Ok.shadow n c.bad.result.now c.in-Ok.ensures.shadow c.bad.ensures ∙ ap (bad_of m) (sym c.requires)) c.examine.ensures.accepted

pub returns-in-Ok-clause-refused : goal.returns-in-Ok-clause-refused
returns-in-Ok-clause-refused c =
    let m = c.args.circuit.now in
    let n = c.args.n in
    let showable : IsShowable m (Justice n) = record { exists = c.in-Ok.ensures.exists; within = c.in-Ok.ensures.within } in
    refused_of m c.in-Ok.shadow _ c.args.certificate.now _ (subst (IsShowable m) (sym c.requires) showable) (c.in-Ok.ensures.shadow ∙ ap (circuit_of m) (sym c.requires))
    (closing_is m c.in-Ok.shadow n c.bad.result.now c.in-Ok.ensures.shadow c.bad.ensures ∙ ap (bad_of m) (sym c.requires)) c.examine.ensures.refused
