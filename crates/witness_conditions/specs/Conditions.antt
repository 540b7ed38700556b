-- Circuits that say whether what is given holds and what is wanted does not.
use Rattle.std.specs.Prelude.{◌≡◌, Bool, true, not, ◌&&◌, List, [], ◌∷◌, Option, Some, None}
use Rattle.graph.specs.declared.circuit.Lit.{Lit}
use Rattle.graph.specs.declared.circuit.Gate.{Gate}
use Rattle.graph.specs.declared.circuit.Latch.{Latch}
use Rattle.graph.specs.declared.parts.Parts.{Parts}
use Rattle.graph.specs.Circuits.{Valuation, value_of, Agrees}
use Rattle.witness_pairs.specs.Drafts.{Follows, all_true, same, seen}

-- a latch has its next value at the time after, where the model shares it
abbrev pub has_next : Valuation → Valuation → Latch → Option Lit → Bool
has_next now after l None = true
has_next now after l (Some a) = same (value_of after l.lit) (value_of now l.next)

-- each shared latch has its next value at the time after, by the model's literals of them
abbrev pub have_next : Valuation → Valuation → List Latch → List (Option Lit) → Bool
have_next now after [] given = true
have_next now after (l ∷ ls) [] = have_next now after ls []
have_next now after (l ∷ ls) (g ∷ given) = has_next now after l g && have_next now after ls given

-- the facts say what the old ones say, and that each shared latch has its next value
pub record AreNext (gates : List Gate) (first then : List Lit) (latches : List Latch) (given : List (Option Lit)) (old facts : List Lit) : Type 0 where
  pub says : (x : Valuation) → Follows gates x → all_true x facts ≡ (all_true x old && have_next (seen first x) (seen then x) latches given)

-- the facts say what the old ones say, that each shared latch has its next value, and that the constraints hold then
pub record AreOfStep (gates : List Gate) (first then : List Lit) (latches : List Latch) (given : List (Option Lit)) (constraints old facts : List Lit) : Type 0 where
  pub says : (x : Valuation) → Follows gates x → all_true x facts ≡ (all_true x old && (have_next (seen first x) (seen then x) latches given && all_true (seen then x) constraints))

-- the circuit has inputs and gates alone, and one bad literal, which is set exactly where all of the first literals are true
-- and one of the others is not
pub record Asks (given wanted : List Lit) (m : Parts) : Type 0 where
  pub latches : m.latches ≡ []
  pub constraints : m.constraints ≡ []
  pub bad : Lit
  pub only : m.bad ≡ bad ∷ []
  pub exact : (x : Valuation) → Agrees m x → value_of x bad ≡ (all_true x given && not (all_true x wanted))
