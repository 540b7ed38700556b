-- Whether a witness is the model where it shares something with it, by literals that stand for those of both.
use Rattle.std.specs.Prelude.{◌≡◌, ℕ, ◌<◌, Bool, true, false, ◌||◌, ◌==◌, List, length, get_or, Option, None, Some, Contains}
use Rattle.std.specs.List.{list_all, list_any}
use Rattle.graph.specs.declared.circuit.Lit.{Lit}
use Rattle.graph.specs.declared.circuit.Latch.{Latch}
use Rattle.graph.specs.declared.parts.Parts.{Parts}
use Rattle.witness_pairs.specs.Renamed.{renamed}

abbrev pub is_some : Option Lit → Bool
is_some None = false
is_some (Some a) = true

-- the number of what stands for a literal
abbrev pub number_in : List Lit → Lit → ℕ
number_in names a = (renamed names a).0

-- whether it is the number of what stands for one of these
abbrev pub is_among : List Lit → List Lit → ℕ → Bool
is_among names lits n = list_any (λ a. number_in names a == n) lits

-- whether what stands for each of the first literals is 1 or stands for one of the others
abbrev pub are_among : List Lit → List Lit → List Lit → List Lit → Bool
are_among names lits same others = list_all (λ a. (number_in names a == 1) || is_among same others (number_in names a)) lits

-- a latch that the model has is one of these with that literal, and the same stands for both next literals, and the reset's
-- is the model's
abbrev pub IsSameLatch : List Lit → List Lit → List Latch → Latch → Option Lit → Type 0
IsSameLatch names same latches l None = Unit {0}
IsSameLatch names same latches l (Some a) =
    (k : Latch) × Contains latches k × (k.lit ≡ a) × (renamed names l.next ≡ renamed same k.next) × (renamed names l.reset ≡ k.reset)

-- that holds of each latch, by the model's literals of them
abbrev pub AreSameLatches : List Lit → List Lit → List Latch → List Latch → List (Option Lit) → Type 0
AreSameLatches names same latches ls given = (k : ℕ) (d : Latch) → k < length ls → IsSameLatch names same latches (get_or ls k d) (get_or given k None)

-- each input of the witness is given and no reset is a function; shared latches are the model's, and so are the
-- constraints, but for those that are 1
pub record AreAgreed (names same : List Lit) (m w : Parts) (given given_latches functions : List (Option Lit)) : Type 0 where
  pub inputs : list_all is_some given ≡ true
  pub resets : list_any is_some functions ≡ false
  pub latches : AreSameLatches names same m.latches w.latches given_latches
  pub constraints : are_among names w.constraints same m.constraints ≡ true
  pub model_constraints : are_among same m.constraints names w.constraints ≡ true
