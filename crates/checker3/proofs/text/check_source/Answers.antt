use Rattle.std.proofs.Common.{◌≡◌, ◌++◌, subst, sym, ap}
use Rattle.graph.specs.declared.circuit.Property.{Property}
use Rattle.certificate.specs.Streams.{ForText}
use Rattle.pieces.proofs.LineLaws.{over}
use Rattle.graph.specs.Circuits.{IsUpheld}
use Rattle.certificate3.specs.declared.claim.Claim.{Claim}
use Rattle.certificate3.specs.Texts.{Certificate, SpellsCertificate}
use Rattle.certificate3.proofs.WholeLaws.{text_goes_on, text_refused, text_whole, told}
use Rattle.checker3.specs.declared.text.Outcome.{Outcome}
use Rattle.checker3.specs.Judged.{IsJudged}
use Rattle.checker3.proofs.Refused.{text_not_accepted}
use Rattle.checker3.proofs.text.check_source.Goals as goal

-- the text is refused before its end, behind it, and it is whole
pub returns-in_err-outcome-clause-says : goal.returns-in_err-outcome-clause-says
returns-in_err-outcome-clause-says g c text later left =
    let e = c.in_err-outcome.field-0.0 in
    let (ys, before, refused) = c.in_err-outcome.ensures.says text later left in (
      ys,
      before,
      told (λ (found : Outcome). (d : Certificate) × SpellsCertificate ys d × (found.claim ≡ d.claim) × IsJudged c.args.circuit.now d found.refusal) (λ x. ForText x ((d : Certificate) → SpellsCertificate ys d → ⊥)) c.from_residual-in_err-outcome.result e c.from_residual-in_err-outcome.ensures.1
          (text_refused c.in_ok-reader.reader.held ys e c.in_ok-reader.ensures.begins refused),
    )

pub returns-in_err-end-clause-says : goal.returns-in_err-end-clause-says
returns-in_err-end-clause-says g c text later left =
    let e = c.in_err-end.field-0.0 in
    let P = λ (d : Certificate) (found : Outcome). (found.claim ≡ d.claim) × IsJudged c.args.circuit.now d found.refusal in
    let (zs, between, more) = c.in_err-end.ensures.says text later left in
    let (ys, before, found) = c.in_ok-outcome.ensures.says text zs between in (
      ys,
      before,
      told (λ (found : Outcome). (d : Certificate) × SpellsCertificate ys d × (found.claim ≡ d.claim) × IsJudged c.args.circuit.now d found.refusal) (λ x. ForText x ((d : Certificate) → SpellsCertificate ys d → ⊥)) c.from_residual-in_err-end.result e c.from_residual-in_err-end.ensures.1
          (text_goes_on P c.in_ok-reader.reader.held c.check_text.new.reader.held ys zs c.in_ok-outcome.outcome e c.in_ok-reader.ensures.begins found more),
    )

pub returns-clause-says : goal.returns-clause-says
returns-clause-says g c text later left =
    let P = λ (d : Certificate) (found : Outcome). (found.claim ≡ d.claim) × IsJudged c.args.circuit.now d found.refusal in
    let (zs, between, ended) = c.in_ok-end.ensures.says text later left in
    let (ys, before, found) = c.in_ok-outcome.ensures.says text zs between in
    let (d, spelled, both) = text_whole P c.in_ok-reader.reader.held c.check_text.new.reader.held c.end.new.self.held ys zs later c.in_ok-outcome.outcome c.in_ok-reader.ensures.begins found ended in
    (ys, before, (d, spelled, both.0, both.1))

pub returns-clause-upheld : goal.returns-clause-upheld
returns-clause-upheld g c text later left =
    let m = c.args.circuit.now in
    let P = λ (d : Certificate) (found : Outcome). (found.claim ≡ d.claim) × IsJudged m d found.refusal in
    let (zs, between, ended) = c.in_ok-end.ensures.says text later left in
    let (ys, before, found) = c.in_ok-outcome.ensures.says text zs between in
    let (d, spelled, both) = text_whole P c.in_ok-reader.reader.held c.check_text.new.reader.held c.end.new.self.held ys zs later c.in_ok-outcome.outcome c.in_ok-reader.ensures.begins found ended in (
      ys,
      before,
      λ accepted.
          subst (λ (p : Property). IsUpheld m p) (sym (ap (λ (claim : Claim). claim.property) both.0))
          (c.accepted_law.ensures m d.claim.property d.claim.rounds d.evidence c.well_formed-2.ensures (subst (λ o. IsJudged m d o) accepted both.1)),
    )

pub returns-clause-refused : goal.returns-clause-refused
returns-clause-refused g c text later left =
    let m = c.args.circuit.now in
    let P = λ (d : Certificate) (found : Outcome). (found.claim ≡ d.claim) × IsJudged m d found.refusal in
    let (zs, between, ended) = c.in_ok-end.ensures.says text later left in
    let (ys, before, found) = c.in_ok-outcome.ensures.says text zs between in
    let (d, spelled, both) = text_whole P c.in_ok-reader.reader.held c.check_text.new.reader.held c.end.new.self.held ys zs later c.in_ok-outcome.outcome c.in_ok-reader.ensures.begins found ended in
    (ys, before, text_not_accepted m ys d c.in_ok-outcome.outcome.refusal spelled both.1)

pub returns-clause-ended : goal.returns-clause-ended
returns-clause-ended g c text later left =
    let (zs, between, ended) = c.in_ok-end.ensures.says text later left in
    over (c.check_text.new.reader.held ++ zs) c.end.new.self.held later ended
