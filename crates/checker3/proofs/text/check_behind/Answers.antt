use Rattle.std.proofs.Common.{◌≡◌, Ok, Option, Some, refl}
use Rattle.certificate3.specs.Reading.{claim_at, evidence_at}
use Rattle.certificate3.specs.Texts.{Certificate}
use Rattle.certificate3.proofs.ChainLaws.{goes_on, maps_ok, stops}
use Rattle.certificate3.proofs.PartLaws.{a_certificate, then_evidence}
use Rattle.certificate3.proofs.PieceLaws.{claim_of_piece}
use Rattle.checker3.specs.declared.text.Outcome.{Outcome}
use Rattle.checker3.specs.declared.check_error.CheckError.{CheckError}
use Rattle.checker3.specs.Judged.{IsJudged}
use Rattle.checker3.proofs.text.check_behind.Goals as goal

pub line-requires-clause-line : goal.line-requires-clause-line
line-requires-clause-line g c = claim_of_piece

pub returns-in_err-claim-clause-says : goal.returns-in_err-claim-clause-says
returns-in_err-claim-clause-says g c =
    let P = λ (d : Certificate) (found : Outcome). (found.claim ≡ d.claim) × IsJudged c.args.circuit.now d found.refusal in
    stops P claim_at then_evidence c.in_err-claim.field-0.0 _ _ _ _ _ c.from_residual.ensures.1 c.in_err-claim.ensures.says

pub returns-in_err-refusal-clause-says : goal.returns-in_err-refusal-clause-says
returns-in_err-refusal-clause-says g c =
    let P = λ (d : Certificate) (found : Outcome). (found.claim ≡ d.claim) × IsJudged c.args.circuit.now d found.refusal in
    let claim = c.in_ok-claim.claim in
    goes_on P claim_at then_evidence claim _ _ _ _ _ _ _ c.in_ok-claim.ensures.says
    (stops P evidence_at (λ e rest. Some (a_certificate claim e, rest)) c.in_err-refusal.field-0.0 _ _ _ _ _ c.from_residual-in_err-refusal.ensures.1 c.in_err-refusal.ensures.says)

pub returns-clause-says : goal.returns-clause-says
returns-clause-says g c =
    let P = λ (d : Certificate) (found : Outcome). (found.claim ≡ d.claim) × IsJudged c.args.circuit.now d found.refusal in
    let claim = c.in_ok-claim.claim in
    let told : Option CheckError → Outcome = λ found. record { claim = claim; refusal = found } in
    goes_on P claim_at then_evidence claim (Ok (told c.in_ok-refusal.refusal)) _ _ _ c.args.reader.now.held c.line.new.self.held c.check_claim.new.reader.held c.in_ok-claim.ensures.says
    (maps_ok (λ e found. IsJudged c.args.circuit.now (a_certificate claim e) found) P evidence_at (a_certificate claim) told c.in_ok-refusal.refusal _ _ c.line.new.self.held c.check_claim.new.reader.held c.in_ok-refusal.ensures.says
    (λ e found judged. (refl, judged)))
