-- The literal that a property watches.
use Rattle.std.proofs.Common.{◌≡◌, ℕ, ◌≤◌, List, get_or, sym, subst}
use Rattle.std.proofs.lemmas.Option.{get_or_from_slice_get, slice_get-get_or, slice_get_within}
use Rattle.graph.specs.declared.circuit.Lit.{Lit}
use Rattle.graph.specs.declared.circuit.Property.{Property}
use Rattle.graph.specs.declared.circuit.Property.TheVariants.{Bad, Justice, Output}
use Rattle.graph.specs.declared.parts.Parts.{Parts}
use Rattle.graph.specs.Circuits.{HasProperty, IsWatched, variable}
use Rattle.graph.specs.WellFormed.{IsWellFormed}
use Rattle.stimulus.proofs.Ranges.{bad_in_range, outputs_in_range}

-- it is of one of the circuit's variables
pub watched_in_range : (m : Parts) (p : Property) (a : Lit) → IsWellFormed m → IsWatched m p a → variable a ≤ m.max_var
watched_in_range m (Bad n) a well watched =
    subst (λ (b : Lit). variable b ≤ m.max_var) (get_or_from_slice_get m.bad n a a watched) (bad_in_range m well n a (slice_get_within m.bad n a watched))
watched_in_range m (Justice n) a well watched = absurd watched
watched_in_range m (Output n) a well watched =
    subst (λ (b : Lit). variable b ≤ m.max_var) (get_or_from_slice_get m.outputs n a a watched.1) (outputs_in_range m well n a (slice_get_within m.outputs n a watched.1))

-- the bad literal at the position, and the output there
pub bad_watched : (m : Parts) (p : Property) (n : ℕ) (xs : List Lit) (d : Lit) → p ≡ Bad n → xs ≡ m.bad → HasProperty m p → IsWatched m p (get_or xs n d)
bad_watched m p n xs d is are there =
    let named : HasProperty m (Bad n) = subst (HasProperty m) is there in
    let watched : IsWatched m (Bad n) (get_or m.bad n d) = slice_get-get_or m.bad n d named in
    subst (λ (q : Property). IsWatched m q (get_or xs n d)) (sym is) (subst (λ (ys : List Lit). IsWatched m (Bad n) (get_or ys n d)) (sym are) watched)

pub output_watched : (m : Parts) (p : Property) (n : ℕ) (xs : List Lit) (d : Lit) → p ≡ Output n → xs ≡ m.outputs → HasProperty m p → IsWatched m p (get_or xs n d)
output_watched m p n xs d is are there =
    let named : HasProperty m (Output n) = subst (HasProperty m) is there in
    let watched : IsWatched m (Output n) (get_or m.outputs n d) = (named.0, slice_get-get_or m.outputs n d named.1) in
    subst (λ (q : Property). IsWatched m q (get_or xs n d)) (sym is) (subst (λ (ys : List Lit). IsWatched m (Output n) (get_or ys n d)) (sym are) watched)
