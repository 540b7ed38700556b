use Rattle.std.proofs.Common.{rules, ◌≡◌, ◌^◌, ◌≤◌, Some, length, ap, sym}
use Rattle.graph.specs.Circuits.{HasProperty}
use Rattle.extension.specs.Accepted.{circuit_of}
use Rattle.certificate3.specs.Reading.{evidence_at}
use Rattle.certificate3.proofs.ChainLaws.{finds_to, stops_all, weakens}
use Rattle.certificate3.proofs.PartLaws.{a_certificate}
use Rattle.certificate3.proofs.SkipLaws.{Skips}
use Rattle.checker3.specs.Judged.{IsJudged, IsJudgedFor, IsUnshowable}
use Rattle.checker3.proofs.Claiming.{bad_here, bad_range, output_here, output_range, showable_here, unshowable_here}
use Rattle.checker3.proofs.Judging.{judged_for}
use Rattle.checker3.proofs.text.check_claim.Goals as goal

pub returns-in_err-skip_evidence-clause-says : goal.returns-in_err-skip_evidence-clause-says
returns-in_err-skip_evidence-clause-says g c =
    stops_all (λ e found. IsJudged c.args.circuit.now (a_certificate c.args.claim e) found) evidence_at c.in_err-skip_evidence.field-0.0 _ _ _ _ _ c.from_residual.ensures.1 c.in_err-skip_evidence.ensures.says

pub returns-in-Some-clause-says : goal.returns-in-Some-clause-says
returns-in-Some-clause-says g c =
    let m = c.args.circuit.now in
    let claim = c.args.claim in
    let r = c.in-Some.refusal in
    let none : IsUnshowable m claim.property claim.rounds r = search rules in
    finds_to Skips (λ e found. IsJudged m (a_certificate claim e) found) evidence_at (tt {0}) (Some r) _ _ _ _ c.in_ok-skip_evidence.ensures.says (λ e u. unshowable_here m claim e r none)

-- ---- a bad literal

pub check_evidence-requires-clause-bad : goal.check_evidence-requires-clause-bad
check_evidence-requires-clause-bad g c =
    let there : HasProperty c.args.circuit.now c.args.claim.property = search rules in
    bad_range c.args.circuit.now c.args.claim.property c.in-Bad.n c.bad.result.now c.well_formed-2.ensures c.in-Bad.is c.bad.ensures there

pub returns-in-Bad-clause-says : goal.returns-in-Bad-clause-says
returns-in-Bad-clause-says g c =
    let m = c.args.circuit.now in
    let claim = c.args.claim in
    let there : HasProperty m claim.property = search rules in
    let few : claim.rounds ≤ 2 ^ length m.latches = search rules in
    let same : m ≡ circuit_of m claim.property claim.rounds = ap (λ p. circuit_of m p claim.rounds) (sym c.in-Bad.is) in
    weakens (λ e found. IsJudgedFor m _ e found) (λ e found. IsJudged m (a_certificate claim e) found) evidence_at _ _ _ _ _
    (λ e x. judged_for m m _ claim e x (showable_here m claim c.well_formed-2.ensures same there few) same (bad_here m claim.property claim.rounds c.in-Bad.n c.bad.result.now c.in-Bad.is c.bad.ensures)) c.check_evidence.ensures.says

-- ---- an output

pub check_evidence-requires-in-Output-clause-bad : goal.check_evidence-requires-in-Output-clause-bad
check_evidence-requires-in-Output-clause-bad g c =
    let there : HasProperty c.args.circuit.now c.args.claim.property = search rules in
    output_range c.args.circuit.now c.args.claim.property c.in-Output.n c.outputs.result.now c.well_formed-2.ensures c.in-Output.is c.outputs.ensures there

pub returns-in-Output-clause-says : goal.returns-in-Output-clause-says
returns-in-Output-clause-says g c =
    let m = c.args.circuit.now in
    let claim = c.args.claim in
    let there : HasProperty m claim.property = search rules in
    let few : claim.rounds ≤ 2 ^ length m.latches = search rules in
    let same : m ≡ circuit_of m claim.property claim.rounds = ap (λ p. circuit_of m p claim.rounds) (sym c.in-Output.is) in
    weakens (λ e found. IsJudgedFor m _ e found) (λ e found. IsJudged m (a_certificate claim e) found) evidence_at _ _ _ _ _
    (λ e x. judged_for m m _ claim e x (showable_here m claim c.well_formed-2.ensures same there few) same (output_here m claim.property claim.rounds c.in-Output.n c.outputs.result.now c.in-Output.is c.outputs.ensures)) c.check_evidence-in-Output.ensures.says
