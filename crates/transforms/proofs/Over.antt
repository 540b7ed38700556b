-- Which clauses and gates are chosen.
use Rattle.std.proofs.Common.{◌≡◌, ℕ, zero, suc, ◌+◌, ◌<◌, Bool, true, false, cond, List, [], ◌∷◌, ◌++◌, length, take, get_or, filter, inl, inr, arith, Contains, Some, ◌≤◌, ◌∙◌, sym, ap, subst}
use Rattle.std.proofs.lemmas.Bool.{cases_Bool}
use Rattle.std.proofs.lemmas.Option.{get_or_from_slice_get, slice_get_within}
use Rattle.std.proofs.lemmas.List.{take_more, append-nil}
use Rattle.std.proofs.lemmas.List.Elements.{filter-append, Contains-append_right}
use Rattle.graph.specs.declared.circuit.Lit.{Lit}
use Rattle.graph.specs.declared.circuit.Property.{Property}
use Rattle.graph.specs.declared.circuit.Property.TheVariants.{Bad, Justice, Output}
use Rattle.graph.specs.declared.parts.Parts.{Parts}
use Rattle.graph.specs.Circuits.{variable}
use Rattle.graph.specs.WellFormed.{IsWellFormed}
use Rattle.stimulus.proofs.Ranges.{bad_in_range, outputs_in_range}
use Rattle.transforms.specs.Cones.{literal_of}

-- one more item is chosen
pub filter_takes : {X : Type 0} (p : X → Bool) (xs kept more : List X) (i : ℕ) (d : X) → i < length xs → more ≡ kept ++ get_or xs i d ∷ [] → p (get_or xs i d) ≡ true →
    kept ≡ filter p (take i xs) → more ≡ filter p (take (i + 1) xs)
filter_takes p xs kept more i d i_in is passes h = is ∙ ap (λ ys. ys ++ get_or xs i d ∷ []) h
    ∙ sym (ap (filter p) (take_more xs i d i_in) ∙ filter-append p (take i xs) (get_or xs i d ∷ []) ∙ ap (λ b. filter p (take i xs) ++ cond b (get_or xs i d ∷ []) []) passes)

-- one is left
pub filter_leaves : {X : Type 0} (p : X → Bool) (xs kept more : List X) (i : ℕ) (d : X) → i < length xs → more ≡ kept → p (get_or xs i d) ≡ false →
    kept ≡ filter p (take i xs) → more ≡ filter p (take (i + 1) xs)
filter_leaves p xs kept more i d i_in is fails h = is ∙ h
    ∙ sym (ap (filter p) (take_more xs i d i_in) ∙ filter-append p (take i xs) (get_or xs i d ∷ []) ∙ ap (λ b. filter p (take i xs) ++ cond b (get_or xs i d ∷ []) []) fails
    ∙ append-nil (filter p (take i xs)))

-- what passes the test is chosen
pub filter_has : {X : Type 0} (p : X → Bool) (xs : List X) (x : X) → Contains xs x → p x ≡ true → Contains (filter p xs) x
filter_has p [] x found passes = absurd (omega (arith, found.1))
filter_has p (y ∷ xs) x (zero, k_in, is) passes = rw (ap p is ∙ passes) (0, omega arith, is)
filter_has p (y ∷ xs) x (suc k, k_in, is) passes =
    let later : Contains (filter p xs) x = filter_has p xs x (k, omega arith, is) passes in
    elim (cases_Bool (p y)) [
      | inl taken ↦ rw taken (Contains-append_right (y ∷ []) (filter p xs) x later)
      | inr left ↦ rw left later
    ]

-- the literal at a property's position is of one of the circuit's variables
pub literal_in_range : (m : Parts) (p : Property) (a : Lit) → IsWellFormed m → literal_of m p ≡ Some a → variable a ≤ m.max_var
literal_in_range m (Bad n) a well is =
    subst (λ (b : Lit). variable b ≤ m.max_var) (get_or_from_slice_get m.bad n a a is) (bad_in_range m well n a (slice_get_within m.bad n a is))
literal_in_range m (Justice n) a well is = let no : ⊥ = cc is in absurd no
literal_in_range m (Output n) a well is =
    subst (λ (b : Lit). variable b ≤ m.max_var) (get_or_from_slice_get m.outputs n a a is) (outputs_in_range m well n a (slice_get_within m.outputs n a is))
