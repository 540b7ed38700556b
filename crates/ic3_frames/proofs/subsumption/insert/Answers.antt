use Rattle.std.proofs.Common.{◌⊎◌, inl, inr, List, All, Contains, subst, sym}
use Rattle.std.proofs.lemmas.List.Elements.{Contains-push}
use Rattle.ic3_frames.specs.declared.frames.Entry.{Entry}
use Rattle.ic3_frames.specs.Frames.{IsSubsumed, IsNotSubsumed}
use Rattle.states.specs.declared.state_lit.StateLit.{StateLit}
use Rattle.ic3_frames.specs.Signatures.{IsSignature}
use Rattle.ic3_frames.proofs.Signed.{signed_push}
use Rattle.ic3_frames.proofs.Sifting.{nowhere, inserted_only, inserted_each, inserted_lean}
use Rattle.ic3_frames.proofs.subsumption.insert.Goals as goal

pub returns-clause-added : goal.returns-clause-added
returns-clause-added c =
    let old = c.args.entries.now.items in
    let middle = c.reserve_one.new.to.items in
    let kept = c.remove_subsumed.new.entries.items in
    let now = c.push-2.new.to.items in
    let newest : Entry = record { clause = c.args.clause; level = c.args.level } in
    let Gone : Entry → Type 0 = IsSubsumed c.args.clause c.args.level in
    let each = subst (λ cl. All (λ (e : Entry). Contains kept e ⊎ IsSubsumed cl c.args.level e) middle) c.as_slice-2.ensures c.remove_subsumed.ensures.each in
    let none_excepted : All (IsNotSubsumed c.as_slice-2.result.now c.args.level) kept = λ k d k_in. elim (c.remove_subsumed.ensures.lean k d k_in) [
      | inl other ↦ other
      | inr excepted ↦ absurd (nowhere excepted.0 excepted.1)
    ] in
    let lean = subst (λ cl. All (IsNotSubsumed cl c.args.level) kept) c.as_slice-2.ensures none_excepted in
    record {
      newest = subst (λ es. Contains es newest) (sym c.in_ok-push-2.ensures.items) (Contains-push kept newest);
      only = inserted_only old middle kept now newest c.in_ok-reserve_one.ensures.items c.remove_subsumed.ensures.only c.in_ok-push-2.ensures.items;
      each = inserted_each Gone old middle kept now newest c.in_ok-reserve_one.ensures.items each c.in_ok-push-2.ensures.items;
      lean = inserted_lean (IsNotSubsumed c.args.clause c.args.level) kept now newest lean c.in_ok-push-2.ensures.items;
    }

pub returns-clause-signatures : goal.returns-clause-signatures
returns-clause-signatures c =
    let newest : Entry = record { clause = c.args.clause; level = c.args.level } in
    let signature = c.signature_of-signature.result in
    let signed : IsSignature c.args.clause signature = subst (λ (cl : List StateLit). IsSignature cl signature) c.as_slice.ensures c.signature_of-signature.ensures in
    rw (c.in_ok-push-2.ensures.items, c.in_ok-push.ensures.items) (signed_push c.remove_subsumed.new.entries.items c.remove_subsumed.new.signatures.items newest signature c.remove_subsumed.ensures.signatures signed)
