-- Rows of latches and gates of the circuit that counts rounds, element by element.
use Rattle.std.proofs.Common.{◌≡◌, ℕ, suc, ◌+◌, ◌-◌, ◌*◌, ◌<◌, List, [], ◌∷◌, ◌++◌, length, drop, arith, ◌∙◌, ap, refl}
use Rattle.std.proofs.lemmas.List.{drop_more}
use Rattle.graph.specs.declared.circuit.Lit.{Lit}
use Rattle.graph.specs.declared.circuit.Latch.{Latch}
use Rattle.graph.specs.declared.circuit.Gate.{Gate}
use Rattle.live_safe.specs.Shadow.{positive, negative, negation, joins, cleared, chain_end}
use Rattle.extension.specs.Rounds.{met_literals, open_gates, seen_latches, stage_gates, stage_latches}
use Rattle.live_safe.proofs.Pushes.{pushed}

-- two items more
pub pushed_two : {X : Type 0} (xs ys zs old rest target : List X) (x y : X) → ys ≡ xs ++ x ∷ [] → zs ≡ ys ++ y ∷ [] → old ≡ x ∷ (y ∷ rest) → xs ++ old ≡ target → zs ++ rest ≡ target
pushed_two xs ys zs old rest target x y is_ys is_zs is_old h = pushed ys zs (y ∷ rest) rest target y is_zs refl (pushed xs ys old (y ∷ rest) target x is_ys is_old h)

pub seen_more : (qs : List Lit) (i seen v : ℕ) → i < length qs → seen_latches (drop i qs) (seen + i) (v + i) ≡ cleared (seen + i) (positive (v + i)) ∷ seen_latches (drop (i + 1) qs) (seen + (i + 1)) (v + (i + 1))
seen_more qs i seen v i_in =
    let e : seen + i + 1 ≡ seen + (i + 1) = omega arith in
    let f : v + i + 1 ≡ v + (i + 1) = omega arith in
    ap (λ (q : List Lit). seen_latches q (seen + i) (v + i)) (drop_more qs i (positive 0) i_in)
    ∙ ap (λ (q : List Latch). cleared (seen + i) (positive (v + i)) ∷ q) (ap (λ s. seen_latches (drop (i + 1) qs) s (v + i + 1)) e ∙ ap (λ g. seen_latches (drop (i + 1) qs) (seen + (i + 1)) g) f)

pub met_more : (qs : List Lit) (i v : ℕ) → i < length qs → met_literals (drop i qs) (v + i) ≡ negative (v + i) ∷ met_literals (drop (i + 1) qs) (v + (i + 1))
met_more qs i v i_in =
    let f : v + i + 1 ≡ v + (i + 1) = omega arith in
    ap (λ (q : List Lit). met_literals q (v + i)) (drop_more qs i (positive 0) i_in) ∙ ap (λ g. negative (v + i) ∷ met_literals (drop (i + 1) qs) g) f

pub opened_more : (ends : Lit) (qs : List Lit) (i missing v : ℕ) → i < length qs →
    open_gates ends (drop i qs) (missing + i) (v + i) ≡ joins (v + i) (negative (missing + i)) (negation ends) ∷ open_gates ends (drop (i + 1) qs) (missing + (i + 1)) (v + (i + 1))
opened_more ends qs i missing v i_in =
    let e : missing + i + 1 ≡ missing + (i + 1) = omega arith in
    let f : v + i + 1 ≡ v + (i + 1) = omega arith in
    ap (λ (q : List Lit). open_gates ends q (missing + i) (v + i)) (drop_more qs i (positive 0) i_in)
    ∙ ap (λ (q : List Gate). joins (v + i) (negative (missing + i)) (negation ends) ∷ q) (ap (λ s. open_gates ends (drop (i + 1) qs) s (v + i + 1)) e ∙ ap (λ g. open_gates ends (drop (i + 1) qs) (missing + (i + 1)) g) f)

pub counts_more : (stages i count v : ℕ) → i < stages →
    stage_latches (stages - i) (count + i) (v + 2 * i) ≡ cleared (count + i) (negative (v + 2 * i + 1)) ∷ stage_latches (stages - (i + 1)) (count + (i + 1)) (v + 2 * (i + 1))
counts_more stages i count v i_in =
    let n : stages - i ≡ suc (stages - (i + 1)) = omega (arith, i_in) in
    let e : count + i + 1 ≡ count + (i + 1) = omega arith in
    let f : v + 2 * i + 2 ≡ v + 2 * (i + 1) = omega arith in
    ap (λ k. stage_latches k (count + i) (v + 2 * i)) n
    ∙ ap (λ (q : List Latch). cleared (count + i) (negative (v + 2 * i + 1)) ∷ q) (ap (λ s. stage_latches (stages - (i + 1)) s (v + 2 * i + 2)) e ∙ ap (λ g. stage_latches (stages - (i + 1)) (count + (i + 1)) g) f)

pub stages_more : (ends : Lit) (stages i : ℕ) (before : Lit) (count v : ℕ) → i < stages →
    stage_gates ends (stages - i) before (count + i) (v + 2 * i)
    ≡ joins (v + 2 * i) before ends ∷ (joins (v + 2 * i + 1) (negative (count + i)) (negative (v + 2 * i)) ∷ stage_gates ends (stages - (i + 1)) (positive (count + i)) (count + (i + 1)) (v + 2 * (i + 1)))
stages_more ends stages i before count v i_in =
    let n : stages - i ≡ suc (stages - (i + 1)) = omega (arith, i_in) in
    let e : count + i + 1 ≡ count + (i + 1) = omega arith in
    let f : v + 2 * i + 2 ≡ v + 2 * (i + 1) = omega arith in
    ap (λ k. stage_gates ends k before (count + i) (v + 2 * i)) n
    ∙ ap (λ (q : List Gate). joins (v + 2 * i) before ends ∷ (joins (v + 2 * i + 1) (negative (count + i)) (negative (v + 2 * i)) ∷ q))
    (ap (λ s. stage_gates ends (stages - (i + 1)) (positive (count + i)) s (v + 2 * i + 2)) e ∙ ap (λ g. stage_gates ends (stages - (i + 1)) (positive (count + i)) (count + (i + 1)) g) f)

-- the end of a chain of small variables has a negation
pub end_small : (rest : List Lit) (first : Lit) (v : ℕ) → first.0 + 1 < 4294967296 → v + length rest < 2147483648 → (chain_end rest first v).0 + 1 < 4294967296
end_small [] first v small fits = small
end_small (a ∷ rest) first v small fits = end_small rest (positive v) (v + 1) (omega (arith, fits)) (omega (arith, fits))

pub length-mets : (qs : List Lit) (v : ℕ) → length (met_literals qs v) ≡ length qs
length-mets [] v = refl
length-mets (q ∷ qs) v = ap suc (length-mets qs (v + 1))
