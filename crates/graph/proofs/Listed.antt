-- The looks at all literals, list by list.
use Rattle.std.proofs.Common.{◌≡◌, ℕ, ◌+◌, ◌^◌, ◌<◌, ◌≤◌, List, ◌++◌, length, map, arith, length-append}
use Rattle.std.specs.List.{flat_map}
use Rattle.graph.specs.declared.circuit.Use.{Use}
use Rattle.graph.specs.declared.circuit.Use.TheVariants.{Defines, Mentions}
use Rattle.graph.specs.declared.parts.Parts.{Parts}
use Rattle.graph.specs.WellFormed.{IsInLimits}
use Rattle.graph.specs.Circuits.{justice_literals}
use Rattle.graph.specs.Uses.{uses_of, latch_uses, gate_uses}
use Rattle.graph.proofs.Going.{uses-few}

-- the literals of one list, and those up to it
abbrev pub inputs_part : Parts → List Use
inputs_part m = map (λ a. Defines a) m.inputs

abbrev pub latches_part : Parts → List Use
latches_part m = flat_map latch_uses m.latches

abbrev pub outputs_part : Parts → List Use
outputs_part m = map (λ a. Mentions a) m.outputs

abbrev pub bad_part : Parts → List Use
bad_part m = map (λ a. Mentions a) m.bad

abbrev pub constraints_part : Parts → List Use
constraints_part m = map (λ a. Mentions a) m.constraints

abbrev pub justice_part : Parts → List Use
justice_part m = map (λ a. Mentions a) (justice_literals m.justice)

abbrev pub fairness_part : Parts → List Use
fairness_part m = map (λ a. Mentions a) m.fairness

abbrev pub gates_part : Parts → List Use
gates_part m = flat_map gate_uses m.gates

abbrev pub to_inputs : Parts → List Use
to_inputs m = inputs_part m

abbrev pub to_latches : Parts → List Use
to_latches m = to_inputs m ++ latches_part m

abbrev pub to_outputs : Parts → List Use
to_outputs m = to_latches m ++ outputs_part m

abbrev pub to_bad : Parts → List Use
to_bad m = to_outputs m ++ bad_part m

abbrev pub to_constraints : Parts → List Use
to_constraints m = to_bad m ++ constraints_part m

abbrev pub to_justice : Parts → List Use
to_justice m = to_constraints m ++ justice_part m

abbrev pub to_fairness : Parts → List Use
to_fairness m = to_justice m ++ fairness_part m

abbrev pub to_gates : Parts → List Use
to_gates m = to_fairness m ++ gates_part m

-- a beginning is no longer than the whole
pub within_gates : (m : Parts) → length (to_gates m) ≤ length (uses_of m)
within_gates m = omega arith

pub within_fairness : (m : Parts) → length (to_fairness m) ≤ length (uses_of m)
within_fairness m = omega (arith, within_gates m, length-append (to_fairness m) (gates_part m))

pub within_justice : (m : Parts) → length (to_justice m) ≤ length (uses_of m)
within_justice m = omega (arith, within_fairness m, length-append (to_justice m) (fairness_part m))

pub within_constraints : (m : Parts) → length (to_constraints m) ≤ length (uses_of m)
within_constraints m = omega (arith, within_justice m, length-append (to_constraints m) (justice_part m))

pub within_bad : (m : Parts) → length (to_bad m) ≤ length (uses_of m)
within_bad m = omega (arith, within_constraints m, length-append (to_bad m) (constraints_part m))

pub within_outputs : (m : Parts) → length (to_outputs m) ≤ length (uses_of m)
within_outputs m = omega (arith, within_bad m, length-append (to_outputs m) (bad_part m))

pub within_latches : (m : Parts) → length (to_latches m) ≤ length (uses_of m)
within_latches m = omega (arith, within_outputs m, length-append (to_latches m) (outputs_part m))

pub within_inputs : (m : Parts) → length (to_inputs m) ≤ length (uses_of m)
within_inputs m = omega (arith, within_latches m, length-append (to_inputs m) (latches_part m))

-- there is room for the next list
pub room_latches : (m : Parts) (n : ℕ) → IsInLimits m → n ≡ 0 + length (to_inputs m) → n + length (latches_part m) < 2 ^ 60
room_latches m n h count = omega (arith, count, uses-few m h, within_latches m, length-append (to_inputs m) (latches_part m))

pub room_outputs : (m : Parts) (n : ℕ) → IsInLimits m → n ≡ 0 + length (to_latches m) → n + length (outputs_part m) < 2 ^ 60
room_outputs m n h count = omega (arith, count, uses-few m h, within_outputs m, length-append (to_latches m) (outputs_part m))

pub room_bad : (m : Parts) (n : ℕ) → IsInLimits m → n ≡ 0 + length (to_outputs m) → n + length (bad_part m) < 2 ^ 60
room_bad m n h count = omega (arith, count, uses-few m h, within_bad m, length-append (to_outputs m) (bad_part m))

pub room_constraints : (m : Parts) (n : ℕ) → IsInLimits m → n ≡ 0 + length (to_bad m) → n + length (constraints_part m) < 2 ^ 60
room_constraints m n h count = omega (arith, count, uses-few m h, within_constraints m, length-append (to_bad m) (constraints_part m))

pub room_justice : (m : Parts) (n : ℕ) → IsInLimits m → n ≡ 0 + length (to_constraints m) → n + length (justice_part m) < 2 ^ 60
room_justice m n h count = omega (arith, count, uses-few m h, within_justice m, length-append (to_constraints m) (justice_part m))

pub room_fairness : (m : Parts) (n : ℕ) → IsInLimits m → n ≡ 0 + length (to_justice m) → n + length (fairness_part m) < 2 ^ 60
room_fairness m n h count = omega (arith, count, uses-few m h, within_fairness m, length-append (to_justice m) (fairness_part m))

pub room_gates : (m : Parts) (n : ℕ) → IsInLimits m → n ≡ 0 + length (to_fairness m) → n + length (gates_part m) < 2 ^ 60
room_gates m n h count = omega (arith, count, uses-few m h, within_gates m, length-append (to_fairness m) (gates_part m))
