-- The literal of which a property's certificate speaks, as it is read from the circuit's lists.
use Rattle.std.proofs.Common.{◌≡◌, ℕ, ◌<◌, List, length, get_or, Contains, arith, refl, sym, ap, ◌∙◌, subst}
use Rattle.graph.specs.declared.circuit.Lit.{Lit}
use Rattle.graph.specs.declared.circuit.Property.{Property}
use Rattle.graph.specs.declared.circuit.Property.TheVariants.{Bad, Output}
use Rattle.graph.specs.declared.parts.Parts.{Parts}
use Rattle.graph.specs.Circuits.{HasProperty}
use Rattle.graph.specs.WellFormed.{used}
use Rattle.live_safe.specs.Shadow.{closing_literal, shadow_of}
use Rattle.stimulus.proofs.Watching.{bad_watched, output_watched}
use Rattle.cnf.proofs.Safety.{watched_used}
use Rattle.checker2.specs.Accepted.{bad_of}

-- ---- a bad literal

pub bad_used : (m : Parts) (p : Property) (n : ℕ) (xs : List Lit) → p ≡ Bad n → xs ≡ m.bad → HasProperty m p → Contains (used m) (get_or xs n (record { 0 = 0 }))
bad_used m p n xs is are there = watched_used m p (get_or xs n (record { 0 = 0 })) (bad_watched m p n xs (record { 0 = 0 }) is are there)

pub bad_is : (m : Parts) (p : Property) (n : ℕ) (xs : List Lit) → p ≡ Bad n → xs ≡ m.bad → get_or xs n (record { 0 = 0 }) ≡ bad_of m p
bad_is m p n xs is are = ap (λ (ys : List Lit). get_or ys n (record { 0 = 0 })) are ∙ ap (bad_of m) (sym is)

-- ---- an output

pub output_used : (m : Parts) (p : Property) (n : ℕ) (xs : List Lit) → p ≡ Output n → xs ≡ m.outputs → HasProperty m p → Contains (used m) (get_or xs n (record { 0 = 0 }))
output_used m p n xs is are there = watched_used m p (get_or xs n (record { 0 = 0 })) (output_watched m p n xs (record { 0 = 0 }) is are there)

pub output_is : (m : Parts) (p : Property) (n : ℕ) (xs : List Lit) → p ≡ Output n → xs ≡ m.outputs → get_or xs n (record { 0 = 0 }) ≡ bad_of m p
output_is m p n xs is are = ap (λ (ys : List Lit). get_or ys n (record { 0 = 0 })) are ∙ ap (bad_of m) (sym is)

-- ---- the shadow circuit's

pub closing_first : (m s : Parts) (n : ℕ) (xs : List Lit) → s ≡ shadow_of m n → xs ≡ s.bad → 0 < length xs
closing_first m s n xs is are = subst (λ (ys : List Lit). 0 < length ys) (sym (are ∙ ap (λ (t : Parts). t.bad) is)) (omega arith)

pub closing_is : (m s : Parts) (n : ℕ) (xs : List Lit) → s ≡ shadow_of m n → xs ≡ s.bad → get_or xs 0 (record { 0 = 0 }) ≡ closing_literal m n
closing_is m s n xs is are = ap (λ (ys : List Lit). get_or ys 0 (record { 0 = 0 })) (are ∙ ap (λ (t : Parts). t.bad) is)

pub closing_used : (m s : Parts) (n : ℕ) (xs : List Lit) → s ≡ shadow_of m n → xs ≡ s.bad → Contains (used s) (get_or xs 0 (record { 0 = 0 }))
closing_used m s n xs is are =
    let there : HasProperty s (Bad 0) = subst (λ (ys : List Lit). 0 < length ys) are (closing_first m s n xs is are) in
    bad_used s (Bad 0) 0 xs refl are there
