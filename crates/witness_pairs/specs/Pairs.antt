-- What a witness circuit is about, and why a circuit is taken as none: numbers, places and causes.
use Rattle.std.specs.Prelude.{◌≡◌, ◌≢◌, ◌⊎◌, ℕ, [], ◌∷◌, length}
use Rattle.graph.specs.declared.circuit.Lit.{Lit}
use Rattle.graph.specs.declared.parts.Parts.{Parts}
use Rattle.graph.specs.Circuits.{AreOutputsBad}
use Rattle.witness_pairs.specs.declared.pair_error.PairError.{PairError}
use Rattle.witness_pairs.specs.declared.pair_error.PairError.TheVariants.{Bad, Symbol, Limit, OutOfMemory}

abbrev pub number_of : PairError → ℕ
number_of (Bad n) = 58
number_of (Symbol n) = 57
number_of Limit = 4
number_of (OutOfMemory refused) = 20

abbrev pub place_of : PairError → ℕ
place_of (Bad n) = n
place_of (Symbol n) = n
place_of Limit = 0
place_of (OutOfMemory refused) = 0

-- the circuit has this one bad literal, or this one output where outputs are taken as bad literals
abbrev pub IsAbout : Parts → Lit → Type 0
IsAbout m a = (AreOutputsBad m × (m.outputs ≡ a ∷ [])) ⊎ (m.bad ≡ a ∷ [])

-- the reason is not the number of bad literals
abbrev pub IsOther : PairError → Type 0
IsOther (Bad n) = ⊥
IsOther (Symbol n) = Unit {0}
IsOther Limit = Unit {0}
IsOther (OutOfMemory refused) = Unit {0}

-- another number of bad literals, or of outputs that are taken as some, than one; nothing is said of the other reasons
abbrev pub IsRefused : Parts → PairError → Type 0
IsRefused m (Bad n) = (AreOutputsBad m × (n ≡ length m.outputs) × (n ≢ 1)) ⊎ ((n ≡ length m.bad) × (n ≢ 1))
IsRefused m (Symbol n) = Unit {0}
IsRefused m Limit = Unit {0}
IsRefused m (OutOfMemory refused) = Unit {0}
