-- What is adopted of a witness circuit of whose latches some begin with the values of functions.
use Rattle.std.specs.Prelude.{◌≡◌, ◌≢◌, ◌⊎◌, List, [], ◌∷◌, Option, Some, None}
use Rattle.base.specs.Witness.{witness}
use Rattle.graph.specs.declared.circuit.Lit.{Lit}
use Rattle.graph.specs.declared.error.ReadError.{ReadError}
use Rattle.graph.specs.declared.parts.Parts.{Parts}
use Rattle.graph.specs.Faults.{HasCause}
use Rattle.graph.specs.Refusals.{number_of, place_of}
use Rattle.reset_functions.specs.Made.{head, others, with_gates}
use Rattle.witness_pairs.specs.Pairs.{IsRefused as IsPairRefused, number_of as pair_number, place_of as pair_place}
use Rattle.witness_pairs.specs.declared.pair_error.PairError.{PairError}
use Rattle.aigmc_files.specs.declared.command_error.CommandError.TheVariants.{OutOfMemory}
use Rattle.aigmc_files.specs.declared.exit_error.ExitError.{ExitError}
use Rattle.aigmc_files.specs.declared.exit_error.ExitError.TheVariants.{Fault, Refused, Told}

-- the reset of a latch, where it is a function and the model has not the latch
abbrev pub own_reset : Option Lit → Option Lit → Option Lit
own_reset None reset = reset
own_reset (Some a) reset = None

-- those of all latches, by the model's literals of them and by their resets
abbrev pub own_resets : List (Option Lit) → List (Option Lit) → List (Option Lit)
own_resets given [] = []
own_resets given (reset ∷ resets) = own_reset (head given) reset ∷ own_resets (others given) resets

-- the witness without functions as resets: with gates in place of its own latches that have some
abbrev pub plain_witness : Parts → List (Option Lit) → List (Option Lit) → Parts
plain_witness w given [] = w
plain_witness w given (reset ∷ resets) = with_gates w (own_resets given (reset ∷ resets))

-- what is said of a cause: that resets depend on one another is told already, and else its number and place
abbrev pub IsToldOf : ReadError → ExitError → Type 0
IsToldOf c e = ((number_of c ≡ 11) × (e ≡ Told)) ⊎ ((number_of c ≢ 11) × (e ≡ Fault (number_of c) (place_of c)))

-- what is said of a cause for which the parts are no circuit
abbrev pub IsStop : Parts → ExitError → Type 0
IsStop m e = (c : ReadError) × HasCause m c × IsToldOf c e

-- why the witness gets no gates in place of functions: out of memory, or with those of its own latches or of all it is no circuit
abbrev pub IsUnmade : Parts → List (Option Lit) → List (Option Lit) → ExitError → Type 0
IsUnmade w given resets e = (e ≡ Refused (OutOfMemory witness)) ⊎ IsStop (with_gates w (own_resets given resets)) e ⊎ IsStop (with_gates w resets) e

-- why it is taken as no witness, by number and place
abbrev pub IsUnpaired : Parts → ExitError → Type 0
IsUnpaired w e = (c : PairError) × IsPairRefused w c × (e ≡ Fault (pair_number c) (pair_place c))

-- why nothing is adopted of it: the one where some resets are functions, or the other
abbrev pub IsUnadopted : Parts → List (Option Lit) → List (Option Lit) → ExitError → Type 0
IsUnadopted w given resets e = ((resets ≢ []) × IsUnmade w given resets e) ⊎ IsUnpaired (plain_witness w given resets) e
