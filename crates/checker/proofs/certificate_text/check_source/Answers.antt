use Rattle.std.proofs.Common.{◌≡◌, ◌++◌}
use Rattle.aiger.proofs.LayoutLaws.{match_gives}
use Rattle.certificate.specs.Streams.{ForText}
use Rattle.pieces.proofs.LineLaws.{over}
use Rattle.certificate3.specs.Formats.{Certified, SpellsCertified}
use Rattle.checker2.specs.declared.certificate_text.Outcome.{Outcome}
use Rattle.checker.specs.AnyVersion.{IsFoundOf, named_property}
use Rattle.checker.proofs.AnyText.{IsOutcome, text_goes_on, text_refused, text_whole}
use Rattle.checker.proofs.certificate_text.check_source.Goals as goal

-- the text is refused before its end, behind it, and it is whole
pub returns-in_err-outcome-clause-says : goal.returns-in_err-outcome-clause-says
returns-in_err-outcome-clause-says g c text later left =
    let e = c.in_err-outcome.field-0.0 in
    let (ys, before, refused) = c.in_err-outcome.ensures.says text later left in (
      ys,
      before,
      match_gives (λ (found : Outcome). (d : Certified) × SpellsCertified ys d × (found.property ≡ named_property d) × IsFoundOf c.args.circuit.now d found.refusal) (λ x. ForText x ((d : Certified) → SpellsCertified ys d → ⊥)) c.from_residual-in_err-outcome.result e c.from_residual-in_err-outcome.ensures.1
          (text_refused c.in_ok-reader.reader.held ys e c.in_ok-reader.ensures.begins refused),
    )

pub returns-in_err-end-clause-says : goal.returns-in_err-end-clause-says
returns-in_err-end-clause-says g c text later left =
    let e = c.in_err-end.field-0.0 in
    let P = IsOutcome c.args.circuit.now in
    let (zs, between, more) = c.in_err-end.ensures.says text later left in
    let (ys, before, found) = c.in_ok-outcome.ensures.says text zs between in (
      ys,
      before,
      match_gives (λ (found : Outcome). (d : Certified) × SpellsCertified ys d × (found.property ≡ named_property d) × IsFoundOf c.args.circuit.now d found.refusal) (λ x. ForText x ((d : Certified) → SpellsCertified ys d → ⊥)) c.from_residual-in_err-end.result e c.from_residual-in_err-end.ensures.1
          (text_goes_on P c.in_ok-reader.reader.held c.check_text.new.reader.held ys zs c.in_ok-outcome.outcome e c.in_ok-reader.ensures.begins found more),
    )

pub returns-clause-says : goal.returns-clause-says
returns-clause-says g c text later left =
    let P = IsOutcome c.args.circuit.now in
    let (zs, between, ended) = c.in_ok-end.ensures.says text later left in
    let (ys, before, found) = c.in_ok-outcome.ensures.says text zs between in
    let (d, spelled, both) = text_whole P c.in_ok-reader.reader.held c.check_text.new.reader.held c.end.new.self.held ys zs later c.in_ok-outcome.outcome c.in_ok-reader.ensures.begins found ended in
    (ys, before, (d, spelled, both.0, both.1))

pub returns-clause-ended : goal.returns-clause-ended
returns-clause-ended g c text later left =
    let (zs, between, ended) = c.in_ok-end.ensures.says text later left in
    over (c.check_text.new.reader.held ++ zs) c.end.new.self.held later ended
