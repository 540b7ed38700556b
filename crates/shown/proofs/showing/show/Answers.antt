use Rattle.std.proofs.Common.{List, IfOk, subst}
use Rattle.graph.specs.declared.circuit.Lit.{Lit}
use Rattle.shown.specs.Shown.{IsHonest}
use Rattle.shown.proofs.Certified.{honest_by, meant_by, shown_by}
use Rattle.shown.proofs.showing.show.Goals as goal

pub returns-clause-shown : goal.returns-clause-shown
returns-clause-shown c =
    shown_by c.args.circuit.now c.args.property c.args.extension.latches.now c.args.extension.gates.now c.in_ok-invariant.invariant c.certify.new.budget c.certify.result c.of_certified.result c.of_certified.ensures c.accepted_law.ensures
    c.well_formed-2.ensures c.certify.ensures.certified

pub returns-clause-meant : goal.returns-clause-meant
returns-clause-meant c =
    meant_by c.args.circuit.now c.args.property c.args.extension.latches.now c.args.extension.gates.now c.in_ok-invariant.invariant c.certify.new.budget c.certify.result c.of_certified.result c.of_certified.ensures c.certify.ensures.certified

pub returns-clause-honest : goal.returns-clause-honest
returns-clause-honest c =
    let m = c.args.circuit.now in
    let p = c.args.property in
    let ls = c.args.extension.latches.now in
    let gs = c.args.extension.gates.now in
    subst (λ (inv : List (List Lit)). IfOk c.of_certified.result (IsHonest m p ls gs inv)) c.in_ok-invariant.ensures
    (honest_by m p ls gs c.in_ok-invariant.invariant c.certify.new.budget c.certify.result c.of_certified.result c.of_certified.ensures c.requires.there
    c.certify.ensures.certified c.certify.ensures.honest c.certify.ensures.refused)
