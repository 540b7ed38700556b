use Rattle.std.proofs.Common.{List, ◌+◌, ◌++◌, ◌∷◌, [], take, sym, ap, subst, ◌∙◌}
use Rattle.std.proofs.lemmas.List.{take_more}
use Rattle.states.specs.declared.state_lit.StateLit.{StateLit}
use Rattle.ic3_frames.specs.declared.frames.Entry.{Entry}
use Rattle.ic3_frames.specs.Signatures.{IsSignature, AreSignatures}
use Rattle.ic3_frames.proofs.Signed.{signed_push}
use Rattle.ic3_frames.proofs.signature.signatures_of.Goals as goal

pub signing-preserved : goal.signing-preserved
signing-preserved c =
    let entries = c.args.entries.now in
    let i = c.signing.entry-index in
    let x : Entry = c.entry-item.result in
    let words = c.signing.signatures.items in
    let w = c.signature_of.result in
    let signed : IsSignature x.clause w = subst (λ (cl : List StateLit). IsSignature cl w) c.as_slice.ensures c.signature_of.ensures in
    let more = take_more entries i x c.signing-test.true ∙ ap (λ (e : Entry). take i entries ++ e ∷ []) (sym c.entry-item.is) in
    subst (AreSignatures (take (i + 1) entries)) (sym c.in_ok-push.ensures.items) (subst (λ (es : List Entry). AreSignatures es (words ++ w ∷ [])) (sym more) (signed_push (take i entries) words x w c.signing.invariant signed))
