-- The own resets of a witness, latch by latch.
use Rattle.std.proofs.Common.{◌≡◌, ◌≢◌, inl, inr, subst, Result, Ok, Err, IfErr, IsErrAnd, ℕ, Bool, true, false, not, eqb, None, Some, ◌+◌, ◌<◌, List, [], ◌∷◌, ◌++◌, Option, length, drop, get_or, sym, ap, refl, ◌∙◌, append_assoc}
use Rattle.std.specs.Cmp.Lexicographic.{pointwise}
use Rattle.std.specs.Option.{option_eq}
use Rattle.std.proofs.lemmas.Bool.{and_parts, eqb-true}
use Rattle.std.proofs.lemmas.List.{drop_more}
use Rattle.graph.specs.declared.circuit.Lit.{Lit}
use Rattle.graph.specs.declared.parts.Parts.{Parts}
use Rattle.reset_functions.specs.Made.{head, with_gates}
use Rattle.reset_functions.proofs.Loops.{others_drop}
use Rattle.aigmc_files.specs.declared.exit_error.ExitError.{ExitError}
use Rattle.aigmc_certificates.specs.WitnessFiles.{IsUnadopted, IsUnmade, IsUnpaired, own_reset, own_resets, plain_witness}

-- ---- a test of two lists

abbrev lit_eq : Lit → Lit → Bool
lit_eq a b = eqb a.0 b.0

abbrev lit : ℕ → Lit
lit n = record { 0 = n }

is_on : (b : Bool) → not b ≡ false → b ≡ true
is_on true e = refl
is_on false e = absurd cc

option_same : (a b : Option Lit) → option_eq lit_eq a b ≡ true → a ≡ b
option_same None None e = refl
option_same None (Some b) e = absurd cc
option_same (Some a) None e = absurd cc
option_same (Some a) (Some b) e = let same : a.0 ≡ b.0 = eqb-true a.0 b.0 e in ap (λ (n : ℕ). Some (lit n)) same

pub same_resets : (xs ys : List (Option Lit)) → pointwise (option_eq lit_eq) xs ys ≡ true → xs ≡ ys
same_resets [] [] e = refl
same_resets [] (y ∷ ys) e = absurd cc
same_resets (x ∷ xs) [] e = absurd cc
same_resets (x ∷ xs) (y ∷ ys) e =
    let p = and_parts (option_eq lit_eq x y) (pointwise (option_eq lit_eq) xs ys) e in
    ap (λ (q : Option Lit). q ∷ xs) (option_same x y p.0) ∙ ap (λ (q : List (Option Lit)). y ∷ q) (same_resets xs ys p.1)

-- where the test of both fails they are the same
pub same_by : (xs ys : List (Option Lit)) (b : Bool) → b ≡ not (pointwise (option_eq lit_eq) xs ys) → b ≡ false → xs ≡ ys
same_by xs ys b is off = same_resets xs ys (is_on (pointwise (option_eq lit_eq) xs ys) (sym is ∙ off))

-- a witness with a function as a reset
pub plain_made : (w : Parts) (given resets : List (Option Lit)) (m : Parts) (n : ℕ) → n ≡ length resets → false ≡ eqb n 0 → m ≡ with_gates w (own_resets given resets) → m ≡ plain_witness w given resets
plain_made w given [] m n long some is = let none : n ≡ 0 = long in absurd (let no : false ≡ true = some ∙ rw none refl in cc)
plain_made w given (reset ∷ resets) m n long some is = is

pub own_step : (given resets : List (Option Lit)) (k : ℕ) (d g r v : Option Lit) (xs ys target : List (Option Lit)) → k < length resets → r ≡ get_or resets k d → g ≡ head (drop k given) → v ≡ own_reset g r → ys ≡ xs ++ v ∷ [] →
    xs ++ own_resets (drop k given) (drop k resets) ≡ target → ys ++ own_resets (drop (k + 1) given) (drop (k + 1) resets) ≡ target
own_step given resets k d g r v xs ys target k_in is_reset is_given is_own pushed h =
    let rest : List (Option Lit) = own_resets (drop (k + 1) given) (drop (k + 1) resets) in
    let one : List (Option Lit) = v ∷ [] in
    let split : own_resets (drop k given) (drop k resets) ≡ one ++ rest =
    ap (own_resets (drop k given)) (drop_more resets k d k_in) ∙ rw (others_drop given k, is_own, is_reset, is_given) refl in
    ap (λ (q : List (Option Lit)). q ++ rest) pushed ∙ append_assoc xs one rest ∙ ap (λ (q : List (Option Lit)). xs ++ q) (sym split) ∙ h

-- ---- why nothing is adopted

some_resets : (resets : List (Option Lit)) (n : ℕ) → n ≡ length resets → false ≡ eqb n 0 → resets ≢ []
some_resets [] n long some same = let none : n ≡ 0 = long in let no : false ≡ true = some ∙ rw none refl in cc
some_resets (x ∷ xs) n long some same = cc

pub unmade : {A : Type 0} (r : Result A ExitError) (e : ExitError) (w : Parts) (given resets : List (Option Lit)) (n : ℕ) → n ≡ length resets → false ≡ eqb n 0 → IsErrAnd r (λ x. x ≡ e) → IsUnmade w given resets e → IfErr r (IsUnadopted w given resets)
unmade (Ok x) e w given resets n long some is why = absurd is
unmade (Err x) e w given resets n long some is why = subst (IsUnadopted w given resets) (sym is) (inl (some_resets resets n long some, why))

pub unpaired : {A : Type 0} (r : Result A ExitError) (w : Parts) (given resets : List (Option Lit)) (m : Parts) (n : ℕ) → n ≡ length resets → false ≡ eqb n 0 → m ≡ with_gates w (own_resets given resets) → IfErr r (IsUnpaired m) → IfErr r (IsUnadopted w given resets)
unpaired (Ok x) w given resets m n long some is why = tt
unpaired (Err e) w given resets m n long some is why = inr (subst (λ (q : Parts). IsUnpaired q e) (plain_made w given resets m n long some is) why)
