use Rattle.std.proofs.Common.{◌≡◌, None, Some, ap, subst}
use Rattle.certificate3.specs.declared.claim.Claim.{Claim}
use Rattle.certificate3.specs.Formats.{behind_at}
use Rattle.certificate3.specs.Texts.{Certificate}
use Rattle.certificate3.proofs.ChainLaws.{finds_to, stops_all}
use Rattle.checker3.specs.declared.text.Outcome.{Outcome as Judgement}
use Rattle.checker3.specs.Judged.{IsJudged}
use Rattle.checker.specs.AnyVersion.{IsFoundThird}
use Rattle.checker2.specs.declared.certificate_text.Outcome.{Outcome}
use Rattle.checker.proofs.certificate_text.check_third.Goals as goal

pub returns-in_err-found-clause-says : goal.returns-in_err-found-clause-says
returns-in_err-found-clause-says g c =
    let P = λ (d : Certificate) (told : Outcome). (told.property ≡ d.claim.property) × IsFoundThird c.args.circuit.now d told.refusal in
    stops_all P behind_at c.in_err-found.field-0.0 _ _ _ c.args.reader.now.held c.check_behind.new.reader.held c.from_residual.ensures.1 c.in_err-found.ensures.says

pub returns-in-None-clause-says : goal.returns-in-None-clause-says
returns-in-None-clause-says g c =
    let m = c.args.circuit.now in
    let found = c.in_ok-found.found in
    let told : Outcome = record { property = found.claim.property; refusal = None } in
    finds_to (λ (d : Certificate) (f : Judgement). (f.claim ≡ d.claim) × IsJudged m d f.refusal) (λ (d : Certificate) (t : Outcome). (t.property ≡ d.claim.property) × IsFoundThird m d t.refusal) behind_at found told _ _ c.args.reader.now.held c.check_behind.new.reader.held c.in_ok-found.ensures.says
    (λ d both. (ap (λ (claim : Claim). claim.property) both.0, subst (λ o. IsJudged m d o) c.in-None.is both.1))

pub returns-in-Some-clause-says : goal.returns-in-Some-clause-says
returns-in-Some-clause-says g c =
    let m = c.args.circuit.now in
    let found = c.in_ok-found.found in
    let told : Outcome = record { property = found.claim.property; refusal = Some c.number.result } in
    finds_to (λ (d : Certificate) (f : Judgement). (f.claim ≡ d.claim) × IsJudged m d f.refusal) (λ (d : Certificate) (t : Outcome). (t.property ≡ d.claim.property) × IsFoundThird m d t.refusal) behind_at found told _ _ c.args.reader.now.held c.check_behind.new.reader.held c.in_ok-found.ensures.says
    (λ d both. (ap (λ (claim : Claim). claim.property) both.0, (c.in-Some.refusal, subst (λ o. IsJudged m d o) c.in-Some.is both.1, c.number.ensures)))
