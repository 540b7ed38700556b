use Rattle.std.proofs.Common.{rules, ◌≡◌, ap, sym}
use Rattle.graph.specs.Circuits.{HasProperty}
use Rattle.checker2.specs.Accepted.{circuit_of}
use Rattle.checker2.proofs.Accepted.{accepted_of, refused_of, showable_here}
use Rattle.checker2.proofs.Watched.{bad_is, bad_used, output_is, output_used}
use Rattle.checker2.proofs.acceptance.examine_property.Goals as goal

-- ---- a bad literal

pub examine-requires : goal.examine-requires
examine-requires c =
    let there : HasProperty c.args.circuit.now c.args.certificate.now.property = search rules in
    bad_used c.args.circuit.now c.args.certificate.now.property c.in-Bad.n c.bad.result.now c.in-Bad.is c.bad.ensures there

pub returns-in-Bad-clause-accepted : goal.returns-in-Bad-clause-accepted
returns-in-Bad-clause-accepted c =
    let m = c.args.circuit.now in
    let p = c.args.certificate.now.property in
    let there : HasProperty m p = search rules in
    let circuit : m ≡ circuit_of m p = ap (circuit_of m) (sym c.in-Bad.is) in
    accepted_of m m _ c.args.certificate.now _ (showable_here m p c.parts.ensures.well_formed circuit there) circuit
    (bad_is m p c.in-Bad.n c.bad.result.now c.in-Bad.is c.bad.ensures) c.examine.ensures.accepted

pub returns-in-Bad-clause-refused : goal.returns-in-Bad-clause-refused
returns-in-Bad-clause-refused c =
    let m = c.args.circuit.now in
    let p = c.args.certificate.now.property in
    let there : HasProperty m p = search rules in
    let circuit : m ≡ circuit_of m p = ap (circuit_of m) (sym c.in-Bad.is) in
    refused_of m m _ c.args.certificate.now _ (showable_here m p c.parts.ensures.well_formed circuit there) circuit
    (bad_is m p c.in-Bad.n c.bad.result.now c.in-Bad.is c.bad.ensures) c.examine.ensures.refused

-- ---- an output

pub examine-requires-in-Output : goal.examine-requires-in-Output
examine-requires-in-Output c =
    let there : HasProperty c.args.circuit.now c.args.certificate.now.property = search rules in
    output_used c.args.circuit.now c.args.certificate.now.property c.in-Output.n c.outputs.result.now c.in-Output.is c.outputs.ensures there

pub returns-in-Output-clause-accepted : goal.returns-in-Output-clause-accepted
returns-in-Output-clause-accepted c =
    let m = c.args.circuit.now in
    let p = c.args.certificate.now.property in
    let there : HasProperty m p = search rules in
    let circuit : m ≡ circuit_of m p = ap (circuit_of m) (sym c.in-Output.is) in
    accepted_of m m _ c.args.certificate.now _ (showable_here m p c.parts.ensures.well_formed circuit there) circuit
    (output_is m p c.in-Output.n c.outputs.result.now c.in-Output.is c.outputs.ensures) c.examine-in-Output.ensures.accepted

pub returns-in-Output-clause-refused : goal.returns-in-Output-clause-refused
returns-in-Output-clause-refused c =
    let m = c.args.circuit.now in
    let p = c.args.certificate.now.property in
    let there : HasProperty m p = search rules in
    let circuit : m ≡ circuit_of m p = ap (circuit_of m) (sym c.in-Output.is) in
    refused_of m m _ c.args.certificate.now _ (showable_here m p c.parts.ensures.well_formed circuit there) circuit
    (output_is m p c.in-Output.n c.outputs.result.now c.in-Output.is c.outputs.ensures) c.examine-in-Output.ensures.refused
