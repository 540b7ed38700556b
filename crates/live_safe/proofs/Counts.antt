-- How many literals, latches and inputs there are, and how great their numbers.
use Rattle.std.proofs.Common.{◌≡◌, ℕ, ◌+◌, ◌*◌, ◌^◌, ◌<◌, Bool, List, [], ◌∷◌, ◌↔◌, IsTrue, length, arith, All, ◌∙◌, sym, length-append}
use Rattle.graph.specs.declared.parts.Parts.{Parts}
use Rattle.graph.specs.Circuits.{wanted_of}
use Rattle.graph.specs.WellFormed.{IsWellFormed}
use Rattle.live_safe.specs.Shadow.{positive, save_of, new_latches, shadow_of}
use Rattle.live_safe.specs.Laws.{FitsShadow}
use Rattle.live_safe.proofs.Ranges.{are_in}
use Rattle.live_safe.proofs.Extended.{length-new_latches}

-- the latches' and the wanted literals have a negation
pub latches_small : (m : Parts) → IsWellFormed m → All (λ l. l.lit.0 + 1 < 2 ^ 32) m.latches
latches_small m well k d k_in = let high = (are_in m 0 well).latches k d k_in in let limit = well.limits.max_var in omega (arith, high, limit)

pub wanted_small : (m : Parts) (j : ℕ) → IsWellFormed m → All (λ a. a.0 + 1 < 2 ^ 32) (wanted_of m j)
wanted_small m j well k d k_in = let high = (are_in m j well).wanted k d k_in in let limit = well.limits.max_var in omega (arith, high, limit)

pub length-latches : (m : Parts) (j : ℕ) → length (shadow_of m j).latches ≡ 2 * length m.latches + 1 + length (wanted_of m j)
length-latches m j = omega (arith, length-append m.latches (new_latches m j), length-new_latches m j)

pub length-inputs : (m : Parts) (j : ℕ) → length (shadow_of m j).inputs ≡ length m.inputs + 1
length-inputs m j = omega (arith, length-append m.inputs (positive (save_of m) ∷ []))

-- what is compared in place of the shadow circuit's own lengths
pub fits_where : (m : Parts) (j : ℕ) (initial : List Bool) (lines : List (List Bool)) (width : ℕ) (wide : Bool) → length initial ≡ 2 * length m.latches + 1 + length (wanted_of m j) →
    0 < length lines → width ≡ length m.inputs → (IsTrue wide ↔ All (λ line. length line ≡ width + 1) lines) → (IsTrue wide ↔ FitsShadow m j initial lines)
fits_where m j initial lines width wide long some is_width h =
    let same : width + 1 ≡ length (shadow_of m j).inputs = (let e = length-inputs m j in omega (arith, is_width, e)) in (
      λ on. record { latches = long ∙ sym (length-latches m j); inputs = λ k d k_in. h.0 on k d k_in ∙ same; some = some },
      λ fits. h.1 (λ k d k_in. fits.inputs k d k_in ∙ sym same),
    )

pub fits_not : (m : Parts) (j : ℕ) (initial : List Bool) (lines : List (List Bool)) → (length initial ≡ 2 * length m.latches + 1 + length (wanted_of m j) → 0 < length lines → ⊥) →
    FitsShadow m j initial lines → ⊥
fits_not m j initial lines none h = none (h.latches ∙ length-latches m j) h.some
