-- A violation of the shadow circuit's bad literal gives a lasso.
use Rattle.std.proofs.Common.{◌≡◌, ℕ, ◌-◌, ◌<◌, Bool, false, IsTrue, ◌↔◌, List, [], ◌∷◌, ◌++◌, length, map, take, get_or, All, Some, refl, arith, ◌∙◌, sym, ap, ap₂, subst}
use Rattle.std.specs.Prelude.{slice_get}
use Rattle.std.proofs.Math.Seq.{take-append_seam}
use Rattle.std.proofs.lemmas.Bool.{true≢false}
use Rattle.std.proofs.lemmas.List.{map-append, length-map, take-map}
use Rattle.std.proofs.lemmas.List.Elements.{All-map}
use Rattle.graph.specs.declared.circuit.Lit.{Lit}
use Rattle.graph.specs.declared.circuit.Property.TheVariants.{Bad, Justice}
use Rattle.graph.specs.declared.parts.Parts.{Parts}
use Rattle.graph.specs.Circuits.{value_of, state_of, inputs_of, at}
use Rattle.graph.proofs.Times.{Starts-at}
use Rattle.stimulus.specs.declared.value.Stimulus.TheVariants.{Violated}
use Rattle.stimulus.specs.Shown.{ShowsBad, ShowsLasso}
use Rattle.live_safe.specs.Shadow.{positive, save_of, new_latches, closing_literal, shadow_of}
use Rattle.live_safe.specs.Laws.{FitsShadow, FoundLaw, ShownLaw}
use Rattle.live_safe.proofs.Begun.{begins_at}

-- the old latches and inputs come first
old_state : (m : Parts) (j : ℕ) (x : List Bool) → take (length m.latches) (state_of (shadow_of m j) x) ≡ state_of m x
old_state m j x =
    let front : List Bool = state_of m x in
    let rest : List Bool = map (λ l. value_of x l.lit) (new_latches m j) in
    let whole : state_of (shadow_of m j) x ≡ front ++ rest = map-append (λ l. value_of x l.lit) m.latches (new_latches m j) in
    let long : length front ≡ length m.latches = length-map m.latches (λ l. value_of x l.lit) in
    ap (take (length m.latches)) whole ∙ ap (λ n. take n (front ++ rest)) (sym long) ∙ take-append_seam front rest

old_line : (m : Parts) (j : ℕ) (x : List Bool) → take (length m.inputs) (inputs_of (shadow_of m j) x) ≡ inputs_of m x
old_line m j x =
    let front : List Bool = inputs_of m x in
    let rest : List Bool = map (value_of x) (positive (save_of m) ∷ []) in
    let whole : inputs_of (shadow_of m j) x ≡ front ++ rest = map-append (value_of x) m.inputs (positive (save_of m) ∷ []) in
    let long : length front ≡ length m.inputs = length-map m.inputs (value_of x) in
    ap (take (length m.inputs)) whole ∙ ap (λ n. take n (front ++ rest)) (sym long) ∙ take-append_seam front rest

old_lines : (m : Parts) (j : ℕ) (r : List (List Bool)) → map (take (length m.inputs)) (map (inputs_of (shadow_of m j)) r) ≡ map (inputs_of m) r
old_lines m j [] = refl
old_lines m j (x ∷ r) = ap₂ (λ p q. p ∷ q) (old_line m j x) (old_lines m j r)

only_one : (a b : Lit) → slice_get (a ∷ []) 0 ≡ Some b → a ≡ b
only_one a b e = cc

pub lasso_shown : (m : Parts) (j : ℕ) → FoundLaw m j → ShownLaw m j
lasso_shown m j found initial lines h =
    let r : List (List Bool) = h.replay in
    let t : ℕ = length r - 1 in
    let some : 0 < length r = (Starts-at (shadow_of m j) r h.runs.starts).0 in
    let is_bad : closing_literal m j ≡ h.bad = only_one (closing_literal m j) h.bad h.watched in
    let lasso : ShowsLasso m (Violated (Justice j) (state_of m (at r 0)) (map (inputs_of m) (take t r))) =
    found r t h.runs h.keeps (omega (arith, some)) (ap (value_of (at r t)) is_bad ∙ h.sets) in
    let first : take (length m.latches) initial ≡ state_of m (at r 0) =
    ap (take (length m.latches)) (sym (begins_at (shadow_of m j) initial r h.replays.begins)) ∙ old_state m j (at r 0) in
    let long : length lines ≡ length r = ap length (sym h.replays.has_inputs) ∙ length-map r (inputs_of (shadow_of m j)) in
    let cut : take (length lines - 1) lines ≡ map (inputs_of (shadow_of m j)) (take t r) =
    ap (λ n. take (n - 1) lines) long ∙ ap (take t) (sym h.replays.has_inputs) ∙ take-map (inputs_of (shadow_of m j)) t r in
    let rest : map (take (length m.inputs)) (take (length lines - 1) lines) ≡ map (inputs_of m) (take t r) =
    ap (map (take (length m.inputs))) cut ∙ old_lines m j (take t r) in
    rw (first, rest) lasso

-- a violation of the shadow circuit has its lengths
pub fits_shown : (m : Parts) (j : ℕ) (initial : List Bool) (lines : List (List Bool)) → ShowsBad (shadow_of m j) (Violated (Bad 0) initial lines) → FitsShadow m j initial lines
fits_shown m j initial lines h =
    let s : Parts = shadow_of m j in
    let r : List (List Bool) = h.replay in
    let some : 0 < length r = (Starts-at s r h.runs.starts).0 in
    let long : length lines ≡ length r = ap length (sym h.replays.has_inputs) ∙ length-map r (inputs_of s) in
    record {
      latches = ap length (sym (begins_at s initial r h.replays.begins)) ∙ length-map s.latches (λ l. value_of (at r 0) l.lit);
      inputs = subst (All (λ line. length line ≡ length s.inputs)) h.replays.has_inputs
          (All-map (λ line. length line ≡ length s.inputs) (inputs_of s) r (λ k d k_in. length-map s.inputs (value_of (get_or r k d))));
      some = omega (arith, some, long);
    }

pub not_shown : (m p : Parts) (j : ℕ) (initial : List Bool) (lines : List (List Bool)) (fits : Bool) → p ≡ m → fits ≡ false → (IsTrue fits ↔ FitsShadow p j initial lines) →
    ShowsBad (shadow_of m j) (Violated (Bad 0) initial lines) → ⊥
not_shown m p j initial lines fits same off h shown =
    true≢false (sym (h.1 (subst (λ q. FitsShadow q j initial lines) (sym same) (fits_shown m j initial lines shown))) ∙ off)
