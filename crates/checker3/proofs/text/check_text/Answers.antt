use Rattle.std.proofs.Common.{◌≡◌}
use Rattle.scan.specs.Reading.{◌>>=◌}
use Rattle.certificate3.specs.Reading.{certificate_at, first_line_at}
use Rattle.certificate3.specs.Texts.{Certificate}
use Rattle.certificate3.proofs.ChainLaws.{goes_on, same_reads, stops}
use Rattle.certificate3.proofs.PartLaws.{certificate_is, then_claim}
use Rattle.certificate3.proofs.PieceLaws.{first_line_of_piece}
use Rattle.checker3.specs.declared.text.Outcome.{Outcome}
use Rattle.checker3.specs.Judged.{IsJudged}
use Rattle.checker3.proofs.text.check_text.Goals as goal

pub line-requires-clause-line : goal.line-requires-clause-line
line-requires-clause-line g c = first_line_of_piece

pub returns-in_err-line-clause-says : goal.returns-in_err-line-clause-says
returns-in_err-line-clause-says g c =
    let P = λ (d : Certificate) (found : Outcome). (found.claim ≡ d.claim) × IsJudged c.args.circuit.now d found.refusal in
    same_reads P (λ bytes. first_line_at bytes >>= λ u. then_claim u.0 u.1) certificate_at _ _ _ _ _ certificate_is
    (stops P first_line_at then_claim c.in_err-line.field-0.0 _ _ _ _ _ c.from_residual.ensures.1 c.in_err-line.ensures.says)

pub returns-clause-says : goal.returns-clause-says
returns-clause-says g c =
    let P = λ (d : Certificate) (found : Outcome). (found.claim ≡ d.claim) × IsJudged c.args.circuit.now d found.refusal in
    same_reads P (λ bytes. first_line_at bytes >>= λ u. then_claim u.0 u.1) certificate_at c.check_behind.result _ _ c.args.reader.now.held c.check_behind.new.reader.held certificate_is
    (goes_on P first_line_at then_claim (tt {0}) c.check_behind.result _ _ _ c.args.reader.now.held c.line.new.self.held c.check_behind.new.reader.held c.in_ok-line.ensures.says c.check_behind.ensures.says)
