use Rattle.std.proofs.Common.{rules, ◌≡◌}
use Rattle.certificate3.specs.Texts.{certificate_text}
use Rattle.certificate3.specs.Writing.{certificate_in, evidence_in}
use Rattle.certify3.specs.Outcomes.{IsAcceptedText}
use Rattle.certify3.proofs.Texts.{text_is}
use Rattle.certify3.proofs.judging.judge.Goals as goal

pub returns-then-branch : goal.returns-then-branch
returns-then-branch c =
    let m = c.args.circuit.now in
    let e = c.args.evidence.now in
    let is : c.into_bytes-text.result ≡ certificate_text (certificate_in c.args.claim e) = search rules in
    let accepted : IsAcceptedText m c.into_bytes-text.result = search rules in
    record {
      evidence = text_is m c.args.claim (evidence_in e) c.into_bytes-text.result (certificate_text (certificate_in c.args.claim e)) is c.in_default.ensures.spelled c.read_law.ensures.one accepted;
      memory = tt;
    }
