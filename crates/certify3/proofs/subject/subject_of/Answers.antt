use Rattle.std.proofs.Common.{rules, ◌≡◌, ◌^◌, ◌≤◌, length, get_or, ap, sym}
use Rattle.graph.specs.Circuits.{HasProperty}
use Rattle.extension.specs.Accepted.{circuit_of}
use Rattle.certify3.proofs.Subjects.{bad_here, bad_range, output_here, output_range, showable_here, subject_for_is}
use Rattle.certify3.proofs.subject.subject_of.Goals as goal

pub returns-in-Bad-clause-subject : goal.returns-in-Bad-clause-subject
returns-in-Bad-clause-subject c =
    let m = c.args.circuit.now in
    let claim = c.args.claim in
    let there : HasProperty m claim.property = search rules in
    let few : claim.rounds ≤ 2 ^ length m.latches = search rules in
    let same : m ≡ circuit_of m claim.property claim.rounds = ap (λ p. circuit_of m p claim.rounds) (sym c.in-Bad.is) in
    subject_for_is m m claim c.args.extension.latches.now c.args.extension.gates.now (get_or c.bad.result.now c.in-Bad.n (record { 0 = 0 })) c.subject_for.result (showable_here m claim c.well_formed-2.ensures same there few) same
    (bad_here m claim.property claim.rounds c.in-Bad.n c.bad.result.now c.in-Bad.is c.bad.ensures) (bad_range m claim.property c.in-Bad.n c.bad.result.now c.well_formed-2.ensures c.in-Bad.is c.bad.ensures there) c.subject_for.ensures.subject

pub returns-in-Output-clause-subject : goal.returns-in-Output-clause-subject
returns-in-Output-clause-subject c =
    let m = c.args.circuit.now in
    let claim = c.args.claim in
    let there : HasProperty m claim.property = search rules in
    let few : claim.rounds ≤ 2 ^ length m.latches = search rules in
    let same : m ≡ circuit_of m claim.property claim.rounds = ap (λ p. circuit_of m p claim.rounds) (sym c.in-Output.is) in
    subject_for_is m m claim c.args.extension.latches.now c.args.extension.gates.now (get_or c.outputs.result.now c.in-Output.n (record { 0 = 0 })) c.subject_for-in-Output.result (showable_here m claim c.well_formed-2.ensures same there few) same
    (output_here m claim.property claim.rounds c.in-Output.n c.outputs.result.now c.in-Output.is c.outputs.ensures) (output_range m claim.property c.in-Output.n c.outputs.result.now c.well_formed-2.ensures c.in-Output.is c.outputs.ensures there)
    c.subject_for-in-Output.ensures.subject
