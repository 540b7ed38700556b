use Rattle.std.proofs.Common.{◌≡◌, Some, ◌⊎◌, ◌∙◌, ◌+◌, get_or, inl, inr, arith, refl, All, Contains, sym, subst}
use Rattle.std.proofs.lemmas.Bool.{false≢true}
use Rattle.std.proofs.lemmas.List.{get_or_default}
use Rattle.ic3_frames.specs.declared.frames.Entry.{Entry}
use Rattle.ic3_frames.specs.Frames.{IsSubsumed, IsNotSubsumed, IsExcepted}
use Rattle.ic3_frames.specs.Signatures.{IsSignature}
use Rattle.ic3_frames.proofs.Signed.{signed_swapped, signed_take}
use Rattle.ic3_frames.proofs.Sifting.{IsStill, sifted_kept, sifted_gone, sifted_only, sifted_lean, sifted_each, at_place, not_at, still_gone, still_kept, still_before, still_here, still_taken}
use Rattle.ic3_frames.proofs.subsumption.remove_subsumed.Goals as goal
use Rattle.ic3_frames.proofs.subsumption.remove_subsumed.Goals.{then-not-stays+then-is_subsumed, else-not-stays, else-not-stays-via-then-not-stays+else-is_subsumed, else-not-stays-via-else-not-stays, then-stays, else-stays}

pub is_subsumed-requires-clause-entry : goal.is_subsumed-requires-clause-entry
is_subsumed-requires-clause-entry c =
    let words = c.sifting.signatures.items in
    let i = c.sifting.i in
    let x : Entry = c.index.result.now in
    let long = c.sifting.invariant.sifted.long in
    let signed_long = c.sifting.invariant.signed.long in
    let here : get_or words i 0 ≡ c.index-then-not-stays.result.now = get_or_default words i 0 c.index-then-not-stays.result.now (omega arith) ∙ sym c.index-then-not-stays.ensures in
    subst (IsSignature x.clause) here (subst (λ (e : Entry). IsSignature e.clause (get_or words i 0)) (sym c.index.ensures) (c.sifting.invariant.signed.each i x (omega arith)))

pub sifting-preserved : goal.sifting-preserved
sifting-preserved c =
    let old = c.args.entries.now.items in
    let now = c.sifting.entries.items in
    let kept = c.sifting.kept in
    let i = c.sifting.i in
    let except = c.args.except in
    let h = c.sifting.invariant.sifted in
    let behind = h.behind in
    let long = h.long in
    let Gone : Entry → Type 0 = IsSubsumed c.args.clause.now c.args.level in
    let Kept : Entry → Type 0 = λ e. IsNotSubsumed c.args.clause.now c.args.level e ⊎ IsExcepted old except e in
    elim c.if-not-stays.branch [
      | then-not-stays+then-is_subsumed w ↦
          let x : Entry = w.index.result.now in
          rw (w.entries-is, w.signatures-is, w.kept-is, w.place-is) (record {
            sifted = sifted_gone Gone Kept old now kept i x (omega arith) w.index.ensures (w.if-is_subsumed.ensures.sound refl) h;
            still = still_gone old now except c.sifting.place kept i (not_at except i (sym c.eq-stays.ensures ∙ w.if-not-stays.true)) c.sifting.invariant.still;
            signed = c.sifting.invariant.signed;
          })
      | else-not-stays w ↦
          let next = w.keep.new.entries.items in
          let d : Entry = record { clause = c.args.clause.now; level = 0 } in
          let x : Entry = get_or now i d in
          let at : x ≡ get_or now i x = get_or_default now i d x (omega arith) in
          let stays : Kept x = elim w.else-not-stays.branch [
            | else-not-stays-via-then-not-stays+else-is_subsumed v ↦
                let y : Entry = v.index.result.now in
                let same : y ≡ x = v.index.ensures ∙ get_or_default now i y d (omega arith) in
                inl (subst (IsNotSubsumed c.args.clause.now c.args.level) same (λ rising entry_rising subsumption. false≢true (v.if-is_subsumed.ensures.complete rising entry_rising subsumption)))
            | else-not-stays-via-else-not-stays v ↦ inr (i, at_place except i (sym c.eq-stays.ensures ∙ v.if-not-stays.false), omega arith, at ∙ h.rest i x (omega arith))
          ] in
          let still : IsStill old next except c.if-not-stays.place (kept + 1) (i + 1) = elim w.if-stays.branch [
            | then-stays v ↦
                let is : except ≡ Some i = at_place except i (sym c.eq-stays.ensures ∙ v.if-stays.true) in
                rw (w.place-is, v.place-is) (still_here old now next except kept i is behind (λ e. h.rest i e (omega arith)) h.only w.keep.ensures.entries)
            | else-stays v ↦
                let other : except ≡ Some i → ⊥ = not_at except i (sym c.eq-stays.ensures ∙ v.if-stays.false) in
                rw (w.place-is, v.place-is) (still_kept old now next except c.sifting.place kept i other behind w.keep.ensures.entries c.sifting.invariant.still)
          ] in
          rw (w.entries-is, w.signatures-is, w.kept-is) (record {
            sifted = sifted_kept Gone Kept old now next kept i x (omega arith) at stays w.keep.ensures.entries h;
            still = still;
            signed = signed_swapped now next c.sifting.signatures.items w.keep.new.signatures.items kept i behind (omega arith) c.sifting.invariant.signed w.keep.ensures.entries w.keep.ensures.signatures;
          })
    ]

pub returns-clause-only : goal.returns-clause-only
returns-clause-only c =
    let old = c.args.entries.now.items in
    let Gone : Entry → Type 0 = IsSubsumed c.args.clause.now c.args.level in
    let Kept : Entry → Type 0 = λ e. IsNotSubsumed c.args.clause.now c.args.level e ⊎ IsExcepted old c.args.except e in
    subst (All (Contains old)) (sym c.truncate.ensures.items) (sifted_only Gone Kept old c.sifting.entries.items c.sifting.kept c.sifting.i (omega arith) c.sifting.invariant.sifted)

pub returns-clause-lean : goal.returns-clause-lean
returns-clause-lean c =
    let old = c.args.entries.now.items in
    let Gone : Entry → Type 0 = IsSubsumed c.args.clause.now c.args.level in
    let Kept : Entry → Type 0 = λ e. IsNotSubsumed c.args.clause.now c.args.level e ⊎ IsExcepted old c.args.except e in
    subst (All Kept) (sym c.truncate.ensures.items) (sifted_lean Gone Kept old c.sifting.entries.items c.sifting.kept c.sifting.i (omega arith) c.sifting.invariant.sifted)

pub returns-clause-each : goal.returns-clause-each
returns-clause-each c =
    let old = c.args.entries.now.items in
    let Gone : Entry → Type 0 = IsSubsumed c.args.clause.now c.args.level in
    let Kept : Entry → Type 0 = λ e. IsNotSubsumed c.args.clause.now c.args.level e ⊎ IsExcepted old c.args.except e in
    subst (λ es. All (λ (e : Entry). Contains es e ⊎ Gone e) old) (sym c.truncate.ensures.items)
    (sifted_each Gone Kept old c.sifting.entries.items c.sifting.kept c.sifting.i (omega arith) (omega arith) c.sifting.invariant.sifted)

pub returns-clause-place : goal.returns-clause-place
returns-clause-place c = λ p d is p_in.
    let old = c.args.entries.now.items in
    let behind = c.sifting.invariant.sifted.behind in
    let long = c.sifting.invariant.sifted.long in
    rw c.truncate.ensures.items (still_taken old c.sifting.entries.items c.args.except c.sifting.place c.sifting.kept c.sifting.i (omega arith) (omega (arith, behind, long)) c.sifting.invariant.still p d is p_in)

pub returns-clause-front : goal.returns-clause-front
returns-clause-front c = λ p is p_in.
    let d : Entry = record { clause = c.args.clause.now; level = 0 } in
    (c.sifting.invariant.still p d is (omega arith)).2

pub returns-clause-before : goal.returns-clause-before
returns-clause-before c = λ p is p_in.
    rw c.truncate.ensures.items (still_before c.args.entries.now.items c.sifting.entries.items c.args.except c.sifting.place c.sifting.kept c.sifting.i (omega arith) c.sifting.invariant.still p is p_in)

pub returns-clause-signatures : goal.returns-clause-signatures
returns-clause-signatures c =
    rw (c.truncate.ensures.items, c.truncate-2.ensures.items) (signed_take c.sifting.entries.items c.sifting.signatures.items c.sifting.kept c.sifting.invariant.signed)
