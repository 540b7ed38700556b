-- The resets are the laws of the first frame.
use Rattle.std.proofs.Common.{◌≡◌, ℕ, ◌+◌, ◌<◌, ◌≤◌, Bool, true, false, length, List, [], ◌∷◌, ◌++◌, get_or, inl, inr, refl, arith, All, Contains, ◌∙◌, sym, ap, subst}
use Rattle.std.proofs.lemmas.Bool.{cases_lt, false≢true}
use Rattle.std.proofs.lemmas.List.{get_or-map, get_or_default}
use Rattle.std.proofs.lemmas.List.Elements.{All-cons, All-nil, All-contains, Contains-push, Contains-append_left}
use Rattle.graph.proofs.Evaluation.{true_or_false}
use Rattle.graph.specs.declared.circuit.Lit.{Lit}
use Rattle.graph.specs.declared.circuit.Latch.{Latch}
use Rattle.graph.specs.declared.parts.Parts.{Parts}
use Rattle.graph.specs.Circuits.{value_of, state_of, IsInitial}
use Rattle.states.specs.declared.state_lit.StateLit.{StateLit}
use Rattle.states.specs.States.{latch_at, IsSet, Holds}
use Rattle.states.proofs.Defaults.{no_latch}
use Rattle.ic3_frames.specs.declared.frames.Entry.{Entry}
use Rattle.ic3_frames.specs.Frames.{IsStateClause, InFrame, HoldsInitially, IsFalseAfter, AreFrames}
use Rattle.ic3_frames.specs.Resets.{IsInitialState}
use Rattle.ic3_frames.specs.Clauses.{IsResetLit, IsResetEntry, reset_entry}
use Rattle.ic3_frames.proofs.Laws.{levels}

single : (m : Parts) (a : StateLit) → IsResetLit m.latches a → IsStateClause m (a ∷ [])
single m a reset = record {
  inside = All-cons (λ (b : StateLit). b.latch < length m.latches) a [] reset.inside (All-nil _);
  rising = λ i j d i_j j_in. absurd (omega arith);
}

set_at_first : (m : Parts) (a : StateLit) (w : List Bool) → IsResetLit m.latches a → IsInitial m w → IsSet (state_of m w) a
set_at_first m a w reset initial =
    let at : latch_at (state_of m w) a.latch ≡ value_of w (get_or m.latches a.latch no_latch).lit = get_or-map (λ (l : Latch). value_of w l.lit) m.latches a.latch no_latch false reset.inside in
    elim (true_or_false a.value) [
      | inl on ↦ at ∙ (initial a.latch no_latch reset.inside).high (reset.high no_latch on) ∙ sym on
      | inr off ↦ at ∙ (initial a.latch no_latch reset.inside).low (reset.low no_latch off) ∙ sym off
    ]

single_holds : (m : Parts) (a : StateLit) → IsResetLit m.latches a → HoldsInitially m (a ∷ [])
single_holds m a reset w initial = (a, (0, omega arith, refl), set_at_first m a w reset initial)

-- the entries of the resets of the first i latches
abbrev pub HasResetsBefore : List Latch → ℕ → List Entry → Type 0
HasResetsBefore latches i es = (a : StateLit) → IsResetLit latches a → a.latch < i → Contains es (reset_entry a)

not_both : (n : ℕ) → n ≡ 0 → n ≡ 1 → ⊥
not_both n zero one = omega (arith, zero, one)

-- a latch has one reset at most
same_reset : (latches : List Latch) (a b : StateLit) → IsResetLit latches a → IsResetLit latches b → a.latch ≡ b.latch → a ≡ b
same_reset latches a b first second same =
    let reset : ℕ → ℕ = λ i. (get_or latches i no_latch).reset.0 in
    let values : a.value ≡ b.value = elim (true_or_false a.value) [
      | inl on ↦ elim (true_or_false b.value) [
        | inl also ↦ on ∙ sym also
        | inr off ↦ absurd (not_both (reset b.latch) (second.low no_latch off) (sym (ap reset same) ∙ first.high no_latch on))
      ]
      | inr off ↦ elim (true_or_false b.value) [
        | inl on ↦ absurd (not_both (reset b.latch) (sym (ap reset same) ∙ first.low no_latch off) (second.high no_latch on))
        | inr also ↦ off ∙ sym also
      ]
    ] in
    ap (λ i. let x : StateLit = record { latch = i; value = a.value } in x) same ∙ ap (λ v. let x : StateLit = record { latch = b.latch; value = v } in x) values

pub resets_none : (latches : List Latch) (es : List Entry) → HasResetsBefore latches 0 es
resets_none latches es a reset below = absurd (omega arith)

pub resets_more : (latches : List Latch) (i : ℕ) (es : List Entry) (a : StateLit) → IsResetLit latches a → a.latch ≡ i → HasResetsBefore latches i es →
    HasResetsBefore latches (i + 1) (es ++ reset_entry a ∷ [])
resets_more latches i es a is_reset at before b reset below = elim (cases_lt b.latch i) [
  | inl earlier ↦ Contains-append_left es (reset_entry a ∷ []) (reset_entry b) (before b reset earlier)
  | inr last ↦
      let here : a.latch ≡ b.latch = omega (arith, at) in
      subst (λ x. Contains (es ++ reset_entry a ∷ []) (reset_entry x)) (same_reset latches a b is_reset reset here) (Contains-push es (reset_entry a))
]

pub resets_past : (latches : List Latch) (i : ℕ) (es : List Entry) → ((a : StateLit) → a.latch ≡ i → IsResetLit latches a → ⊥) → HasResetsBefore latches i es →
    HasResetsBefore latches (i + 1) es
resets_past latches i es none before b reset below = elim (cases_lt b.latch i) [
  | inl earlier ↦ before b reset earlier
  | inr last ↦ absurd (none b (omega arith) reset)
]

-- in the first frame each reset is there
has_reset : (latches : List Latch) (es : List Entry) (s : List Bool) (a : StateLit) → ((b : StateLit) → IsResetLit latches b → Contains es (reset_entry b)) → InFrame es 0 s →
    IsResetLit latches a → IsSet s a
has_reset latches es s a each in_frame reset =
    let holds : Holds s (a ∷ []) = All-contains (λ (e : Entry). 0 ≤ e.level → Holds s e.clause) es (reset_entry a) in_frame (each a reset) (omega arith) in
    subst (IsSet s) (All-contains (λ b. b ≡ a) (a ∷ []) holds.0 (All-cons (λ (b : StateLit). b ≡ a) a [] refl (All-nil _)) holds.1) holds.2

pub first_initial : (m : Parts) (es : List Entry) → ((a : StateLit) → IsResetLit m.latches a → Contains es (reset_entry a)) → (s : List Bool) → InFrame es 0 s → IsInitialState m s
first_initial m es each s in_frame i d i_in =
    let same : (e : Latch) → (get_or m.latches i e).reset.0 ≡ (get_or m.latches i d).reset.0 = λ e. ap (λ (l : Latch). l.reset.0) (get_or_default m.latches i e d i_in) in (
      λ zero. has_reset m.latches es s (record { latch = i; value = false }) each in_frame (record { inside = i_in; low = λ e _. same e ∙ zero; high = λ e on. absurd (false≢true on) }),
      λ one. has_reset m.latches es s (record { latch = i; value = true }) each in_frame (record { inside = i_in; low = λ e off. absurd (false≢true (sym off)); high = λ e _. same e ∙ one }),
    )

pub level_zero : (m : Parts) (es : List Entry) → All (IsResetEntry m.latches) es → All (λ e. e.level ≡ 0) es
level_zero m es all k d k_in = ap (λ (e : Entry). e.level) ((all k d k_in).2)

pub first_laws : (m : Parts) (bad : Lit) (es : List Entry) (failed : List (List StateLit)) → failed ≡ [] → All (IsResetEntry m.latches) es → AreFrames m bad (levels es 0 failed)
first_laws m bad es failed none all = record {
  clauses = λ k d k_in. let one = all k d k_in in subst (λ (e : Entry). IsStateClause m e.clause) (sym one.2) (single m one.0 one.1);
  initial = λ k d k_in. let one = all k d k_in in subst (λ (e : Entry). HoldsInitially m e.clause) (sym one.2) (single_holds m one.0 one.1);
  reached = λ k d k_in j is. absurd (let zero = level_zero m es all k d k_in in omega (arith, zero, is));
  excluded = λ k k_in. absurd (omega arith);
  failed = subst (All (IsFalseAfter m)) (sym none) (All-nil (IsFalseAfter m));
}
