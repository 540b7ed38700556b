-- Clauses that join the frames, and the bad literal in them.
use Rattle.std.proofs.Common.{◌≡◌, ℕ, ◌+◌, ◌<◌, ◌≤◌, ◌⊎◌, Bool, true, false, List, [], ◌∷◌, length, get_or, All, Contains, refl, inl, inr, ◌∙◌, sym, ap, subst, arith}
use Rattle.std.proofs.lemmas.List.Elements.{All-contains, All-cons, All-nil, Contains-get_or, Contains-push_cases}
use Rattle.std.proofs.lemmas.List.{get_or_default}
use Rattle.base.specs.Budget.{Steps}
use Rattle.graph.specs.declared.circuit.Lit.{Lit}
use Rattle.graph.specs.declared.parts.Parts.{Parts}
use Rattle.graph.specs.Circuits.{Valuation, value_of, state_of}
use Rattle.graph.specs.WellFormed.{IsWellFormed}
use Rattle.cnf.specs.Formulas.{bad_literal}
use Rattle.cnf.proofs.Formed.{bad_known}
use Rattle.engine.specs.Findings.{IsForBad}
use Rattle.states.specs.declared.state_lit.StateLit.{StateLit}
use Rattle.ic3_step.specs.declared.assignment.Assignment.{Assignment}
use Rattle.ic3_step.specs.declared.reply.Reply.TheVariants.{Found, Core}
use Rattle.states.specs.States.{Holds, IsPartOf}
use Rattle.ic3_step.specs.States.{Guarded, IsAt, AllSet}
use Rattle.ic3_step.specs.Replies.{IsReply, IsUsable}
use Rattle.ic3_frames.specs.declared.frames.Entry.{Entry}
use Rattle.ic3_frames.specs.Frames.{InFrame, AreFrames, Levels, Excludes}
use Rattle.ic3_blocking.specs.declared.frame_solver.FrameSolver.{FrameSolver}
use Rattle.ic3_blocking.specs.Sound.{Backs, HasFrames, IsSound}
use Rattle.ic3_blocking.proofs.Guarding.{frame_guarded}

-- what all of the old entries have, and the newest
pub all_more : (P : Entry → Type 0) (old new : List Entry) (e : Entry) → ((x : Entry) → Contains new x → Contains old x ⊎ (x ≡ e)) → All P old → P e → All P new
all_more P old new e only all newest k d k_in = elim (only (get_or new k d) (Contains-get_or new k d k_in)) [
  | inl before ↦ All-contains P old (get_or new k d) all before
  | inr same ↦ subst P (sym same) newest
]

-- an entry's clause holds in the frame of its level
pub entry_holds : (es : List Entry) (c : List StateLit) (level : ℕ) (s : List Bool) → Contains es (record { clause = c; level = level }) → InFrame es level s → Holds s c
entry_holds es c level s found inside = All-contains (λ (e : Entry). level ≤ e.level → Holds s e.clause) es (record { clause = c; level = level }) inside found (omega arith)

-- a frame is within those behind it
pub frame_from : (es : List Entry) (j k : ℕ) (s : List Bool) → j ≤ k → InFrame es j s → InFrame es k s
frame_from es j k s le inside i d i_in above = inside i d i_in (omega (arith, le, above))

-- a clause holds where a part of it does
pub holds_part : (s : List Bool) (part c : List StateLit) → IsPartOf part c → Holds s part → Holds s c
holds_part s part c wide holds = (holds.0, wide holds.0 holds.1, holds.2)

-- an entry that was raised, where it is then
pub raised_found : (es fs : List Entry) (place p k : ℕ) (d : Entry) (c : List StateLit) →
    ((x : Entry) → (p < length fs) × (get_or fs p x ≡ record { clause = (get_or es place x).clause; level = (get_or es place x).level + 1 })) →
    place < length es → (get_or es place d).clause ≡ c → (get_or es place d).level ≡ k → Contains fs (record { clause = c; level = k + 1 })
raised_found es fs place p k d c are place_in clause_is level_is =
    let e : Entry = record { clause = c; level = k + 1 } in
    let next : Entry → Entry = λ x. record { clause = x.clause; level = x.level + 1 } in
    let same : next (get_or es place e) ≡ e =
    ap next (get_or_default es place e d place_in)
    ∙ ap (λ (xs : List StateLit). let x : Entry = record { clause = xs; level = (get_or es place d).level + 1 } in x) clause_is
    ∙ ap (λ (n : ℕ). let x : Entry = record { clause = c; level = n + 1 } in x) level_is in
    (p, (are e).0, (are e).1 ∙ same)

-- the bad literal is one that can be asked for
pub bad_usable : (m : Parts) (bads : List Lit) → IsWellFormed m → IsForBad m → bads ≡ m.bad → All (IsUsable m) (get_or bads 0 (record { 0 = 0 }) ∷ [])
bad_usable m bads well for_bad are =
    let some : 0 < length m.bad = omega (arith, ap length for_bad.one) in
    let same : bad_literal m 0 ≡ get_or bads 0 (record { 0 = 0 }) = ap (λ (xs : List Lit). get_or xs 0 (record { 0 = 0 })) (sym are) in
    All-cons (IsUsable m) (get_or bads 0 (record { 0 = 0 })) [] (subst (IsUsable m) same (bad_known m well 0 (record { 0 = 0 }) some)) (All-nil (IsUsable m))

first_of_bads : (m : Parts) (bads : List Lit) → bads ≡ m.bad → get_or bads 0 (record { 0 = 0 }) ≡ bad_literal m 0
first_of_bads m bads are = ap (λ (xs : List Lit). get_or xs 0 (record { 0 = 0 })) are

-- a time of the frame at which the bad literal is true
pub set_at : (m : Parts) (gs : List Guarded) (guards : List ℕ) (bads : List Lit) (after : Steps) (t : Assignment) → bads ≡ m.bad →
    IsReply m gs guards (get_or bads 0 (record { 0 = 0 }) ∷ []) after (Found t) → (w : Valuation) × IsAt m (bad_literal m 0 ∷ []) w t × (value_of w (bad_literal m 0) ≡ true)
set_at m gs guards bads after t are law = (law.0, subst (λ a. IsAt m (a ∷ []) law.0 t) (first_of_bads m bads are) law.1, ap (value_of law.0) (sym (first_of_bads m bads are)) ∙ law.2 0 (record { 0 = 0 }) (omega arith))

only_one : (w : Valuation) (bad : Lit) (core : List Lit) → value_of w bad ≡ true → All (Contains (bad ∷ [])) core → AllSet w core
only_one w bad core set among i d i_in =
    let one = among i d i_in in
    subst (λ a. value_of w a ≡ true) (elim (Contains-push_cases [] bad (get_or core i d) one) [ inl none ↦ absurd (omega (arith, none.1)) | inr same ↦ same ]) set

false_unless : (b : Bool) → (b ≡ true → ⊥) → b ≡ false
false_unless true h = absurd (h refl)
false_unless false h = refl

-- a core of the bad literal alone: the frame excludes it
pub excluded_by : (m : Parts) (es : List Entry) (levels k : ℕ) (gs : List Guarded) (guards : List ℕ) (bads core : List Lit) (after : Steps) → bads ≡ m.bad → Backs es levels gs →
    All (λ g. (k ≤ g) × (g < levels)) guards → IsReply m gs guards (get_or bads 0 (record { 0 = 0 }) ∷ []) after (Core core) → Excludes m (bad_literal m 0) es k
excluded_by m es levels k gs guards bads core after are backs range law w time inside =
    let bad : Lit = get_or bads 0 (record { 0 = 0 }) in
    ap (value_of w) (sym (first_of_bads m bads are)) ∙ false_unless (value_of w bad) (λ set.
    law.1 w time (frame_guarded es levels k gs guards (state_of m w) backs range inside) (only_one w bad core set law.0))

-- the frames with a failed push more
pub noted_sound : {S : Type 0} (m : Parts) (a : FrameSolver S) (f g : Levels) → IsSound m a f → g.entries ≡ f.entries → g.top ≡ f.top → AreFrames m (bad_literal m 0) g → IsSound m a g
noted_sound m a f g sound entries top laws = record {
  has = subst (λ es. HasFrames m es a) (sym entries) sound.has;
  laws = laws;
  top = subst (λ n. n < a.levels) (sym top) sound.top;
  below = subst (All (λ (e : Entry). e.level < a.levels)) (sym entries) sound.below;
}

-- a frame more
pub opened_sound : {S : Type 0} (m : Parts) (a : FrameSolver S) (f g : Levels) → IsSound m a f → g.entries ≡ f.entries → g.top ≡ f.top + 1 → f.top + 1 < a.levels → AreFrames m (bad_literal m 0) g → IsSound m a g
opened_sound m a f g sound entries top room laws = record {
  has = subst (λ es. HasFrames m es a) (sym entries) sound.has;
  laws = laws;
  top = omega (arith, top, room);
  below = subst (All (λ (e : Entry). e.level < a.levels)) (sym entries) sound.below;
}
