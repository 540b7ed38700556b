-- Causes of what is not made.
use Rattle.std.proofs.Common.{ℕ, ◌+◌, ◌<◌, ◌≤◌, List, length, All, arith}
use Rattle.std.proofs.lemmas.List.Elements.{All-weaker}
use Rattle.graph.specs.declared.circuit.Lit.{Lit}
use Rattle.graph.specs.declared.circuit.Latch.{Latch}
use Rattle.graph.specs.declared.circuit.Gate.{Gate}
use Rattle.graph.specs.declared.circuit.Property.{Property}
use Rattle.graph.specs.declared.parts.Parts.{Parts}
use Rattle.cnf.specs.Formulas.{IsInRange}
use Rattle.extension.specs.Extended.{extended}
use Rattle.extension.specs.Inductive.{IsOverAll}
use Rattle.witness_circuits.specs.declared.error.MakeError.{MakeError}
use Rattle.witness_circuits.specs.declared.error.MakeError.TheVariants.{NoProperty, Limit, Outside, Circuit, OutOfMemory, Name}
use Rattle.witness_circuits.specs.Causes.{HasCause, IsUnmade}

pub unmade_cause : (m : Parts) (p : Property) (ls : List Latch) (gs : List Gate) (inv : List (List Lit)) (e : MakeError) → IsUnmade e → HasCause m p ls gs inv e
unmade_cause m p ls gs inv (NoProperty n) unmade = absurd unmade
unmade_cause m p ls gs inv Limit unmade = absurd unmade
unmade_cause m p ls gs inv (Outside k) unmade = absurd unmade
unmade_cause m p ls gs inv (Circuit e) unmade = tt
unmade_cause m p ls gs inv (OutOfMemory refused) unmade = tt
unmade_cause m p ls gs inv Name unmade = tt

-- clauses over the variables of a circuit with further latches and gates
pub over_small : (m : Parts) (ls : List Latch) (gs : List Gate) (inv : List (List Lit)) → m.max_var + length ls + length gs ≤ 4194303 → All (IsOverAll (extended m ls gs)) inv → All (All (λ (a : Lit). a.0 + 1 < 4294967296)) inv
over_small m ls gs inv few over =
    let n : ℕ = m.max_var + length ls + length gs in
    let small : Lit → Type 0 = λ (a : Lit). a.0 + 1 < 4294967296 in
    All-weaker (All (IsInRange n)) (All small) (λ c. All-weaker (IsInRange n) small (λ a in_range. omega (arith, in_range, few)) c) inv over
