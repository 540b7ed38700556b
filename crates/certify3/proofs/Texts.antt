-- The text that was written is the one that was judged.
use Rattle.std.proofs.Common.{◌≡◌, ℕ, List, sym, subst}
use Rattle.graph.specs.declared.parts.Parts.{Parts}
use Rattle.cnf.specs.Evidences.{Evidence}
use Rattle.extension.specs.Accepted.{IsAcceptedCertificate}
use Rattle.certificate3.specs.Laws.{OneLaw}
use Rattle.certificate3.specs.Texts.{Certificate, SpellsCertificate}
use Rattle.certificate3.specs.declared.claim.Claim.{Claim}
use Rattle.certify3.specs.Outcomes.{IsAcceptedText, IsTextOf}

pub text_is : (m : Parts) (claim : Claim) (e : Evidence) (text written : List ℕ) → text ≡ written → SpellsCertificate written (record { claim = claim; evidence = e }) → OneLaw → IsAcceptedText m text → IsTextOf m claim e text
text_is m claim e text written is spelled one accepted =
    let whole : Certificate = record { claim = claim; evidence = e } in
    let mine : SpellsCertificate text whole = subst (λ t. SpellsCertificate t whole) (sym is) spelled in
    let same : accepted.certificate ≡ whole = one text accepted.certificate whole accepted.spelled mine in
    record {
      spelled = mine;
      accepted = subst (λ (d : Certificate). IsAcceptedCertificate m d.claim.property d.claim.rounds d.evidence) same accepted.accepted;
    }
