-- What counting the rounds of a justice property says.
use Rattle.std.specs.Prelude.{◌≡◌, ℕ, ◌+◌, ◌^◌, ◌<◌, ◌≤◌, ◌⊎◌, List, length}
use Rattle.base.specs.Budget.{Steps}
use Rattle.graph.specs.declared.circuit.Property.TheVariants.{Bad, Justice}
use Rattle.graph.specs.declared.parts.Parts.{Parts}
use Rattle.graph.specs.Circuits.{IsUpheld}
use Rattle.engine.specs.Bounds.{IsClear}
use Rattle.cnf.specs.Evidences.{Evidence}
use Rattle.extension.specs.Rounds.{HoldsFew, HoldsMore, rounds_of}
use Rattle.certify3.specs.Outcomes.{IsTextOf}
use Rattle.rounds.specs.declared.counted.Cause.{Cause}
use Rattle.rounds.specs.declared.counted.Cause.TheVariants.{Budget, Depth, NoEvidence, Unaccepted, Unbounded, Variables}
use Rattle.rounds.specs.declared.counted.Counted.{Counted}
use Rattle.rounds.specs.declared.counted.Counted.TheVariants.{Bounded, Unknown}

-- the text spells an accepted certificate that no run holds more than k rounds
pub record IsShownBy (m : Parts) (j k : ℕ) (text : List ℕ) : Type 0 where
  pub evidence : Evidence
  pub is_text : IsTextOf m (record { property = Justice j; rounds = k }) evidence text

-- the circuit that counts so many rounds has a variable over the limit
abbrev pub IsTooLarge : Parts → ℕ → ℕ → Type 0
IsTooLarge m j k = 4194303 < (rounds_of m j k).max_var

-- a run that keeps the constraints holds so many rounds
abbrev pub AreHeld : Parts → ℕ → ℕ → Type 0
AreHeld m j held = (held ≡ 0) ⊎ ((k : ℕ) × (held ≡ k + 1) × HoldsMore m j k)

-- the certificate is accepted and the property upheld, and no run that keeps the constraints holds more than k rounds; or nothing is
-- known but that a run holds so many rounds
abbrev pub IsBacked : Parts → ℕ → Counted → Type 0
IsBacked m j (Bounded k text) = IsShownBy m j k text × IsUpheld m (Justice j) × HoldsFew m j k
IsBacked m j (Unknown cause held) = AreHeld m j held

-- why nothing is known: the budget is exhausted, or no run so short holds more than a number of rounds that was asked about,
-- or one holds more than there are states, or the circuit that counts a number that is no less is too large; that a
-- certificate is not accepted says nothing, and that there was no evidence is no reason
abbrev pub IsWhy : Parts → ℕ → ℕ → Steps → Cause → Type 0
IsWhy m j held after Budget = after.left ≡ 0
IsWhy m j held after (Depth steps) = (k : ℕ) × (held ≤ k) × IsClear (rounds_of m j k) (Bad 0) steps
IsWhy m j held after NoEvidence = ⊥
IsWhy m j held after Unaccepted = Unit {0}
IsWhy m j held after Unbounded = 2 ^ length m.latches < held
IsWhy m j held after Variables = (k : ℕ) × (held ≤ k) × IsTooLarge m j k

-- where nothing is known, the cause stands
abbrev pub IsMeant : Parts → ℕ → Steps → Counted → Type 0
IsMeant m j after (Bounded k text) = Unit {0}
IsMeant m j after (Unknown cause held) = IsWhy m j held after cause
