use Rattle.std.proofs.Common.{rules, ◌≡◌, get_or, IfOk, ap, subst, sym}
use Rattle.graph.specs.declared.circuit.Property.{Property}
use Rattle.graph.specs.Circuits.{HasProperty}
use Rattle.checker2.specs.Accepted.{circuit_of}
use Rattle.checker2.proofs.Accepted.{showable_here}
use Rattle.checker2.proofs.Watched.{bad_is, bad_used, output_is, output_used}
use Rattle.certify.specs.Outcomes.{IsCertifiedFor}
use Rattle.certify.proofs.Shown.{certified, refused}
use Rattle.certify.proofs.certifying.certify_property.Goals as goal

-- ---- a bad literal

pub certify_for-requires : goal.certify_for-requires
certify_for-requires c =
    let there : HasProperty c.args.circuit.now c.args.property = search rules in
    bad_used c.args.circuit.now c.args.property c.in-Bad.n c.bad.result.now c.in-Bad.is c.bad.ensures there

pub returns-in-Bad-clause-certified : goal.returns-in-Bad-clause-certified
returns-in-Bad-clause-certified c =
    let m = c.args.circuit.now in
    let p = c.args.property in
    let there : HasProperty m p = search rules in
    let circuit : m ≡ circuit_of m p = ap (circuit_of m) (sym c.in-Bad.is) in
    certified m m p _ c.args.invariant.now c.certify_for.new.budget _ (showable_here m p c.parts.ensures.well_formed circuit there) circuit
    (bad_is m p c.in-Bad.n c.bad.result.now c.in-Bad.is c.bad.ensures)
    (subst (λ (q : Property). IfOk c.certify_for.result (IsCertifiedFor m (get_or c.bad.result.now c.in-Bad.n (record { 0 = 0 })) q c.args.invariant.now c.certify_for.new.budget)) (sym c.in-Bad.is)
    c.certify_for.ensures.certified)

pub returns-in-Bad-clause-refused : goal.returns-in-Bad-clause-refused
returns-in-Bad-clause-refused c =
    let m = c.args.circuit.now in
    let p = c.args.property in
    let there : HasProperty m p = search rules in
    let circuit : m ≡ circuit_of m p = ap (circuit_of m) (sym c.in-Bad.is) in
    refused m m p c.args.invariant.now _ (showable_here m p c.parts.ensures.well_formed circuit there) circuit c.certify_for.ensures.refused

-- ---- an output

pub certify_for-requires-in-Output : goal.certify_for-requires-in-Output
certify_for-requires-in-Output c =
    let there : HasProperty c.args.circuit.now c.args.property = search rules in
    output_used c.args.circuit.now c.args.property c.in-Output.n c.outputs.result.now c.in-Output.is c.outputs.ensures there

pub returns-in-Output-clause-certified : goal.returns-in-Output-clause-certified
returns-in-Output-clause-certified c =
    let m = c.args.circuit.now in
    let p = c.args.property in
    let there : HasProperty m p = search rules in
    let circuit : m ≡ circuit_of m p = ap (circuit_of m) (sym c.in-Output.is) in
    certified m m p _ c.args.invariant.now c.certify_for-in-Output.new.budget _ (showable_here m p c.parts.ensures.well_formed circuit there) circuit
    (output_is m p c.in-Output.n c.outputs.result.now c.in-Output.is c.outputs.ensures)
    (subst (λ (q : Property). IfOk c.certify_for-in-Output.result (IsCertifiedFor m (get_or c.outputs.result.now c.in-Output.n (record { 0 = 0 })) q c.args.invariant.now c.certify_for-in-Output.new.budget)) (sym c.in-Output.is)
    c.certify_for-in-Output.ensures.certified)

pub returns-in-Output-clause-refused : goal.returns-in-Output-clause-refused
returns-in-Output-clause-refused c =
    let m = c.args.circuit.now in
    let p = c.args.property in
    let there : HasProperty m p = search rules in
    let circuit : m ≡ circuit_of m p = ap (circuit_of m) (sym c.in-Output.is) in
    refused m m p c.args.invariant.now _ (showable_here m p c.parts.ensures.well_formed circuit there) circuit c.certify_for-in-Output.ensures.refused
