-- Latches that have one value in each run.
use Rattle.std.specs.Prelude.{◌≡◌, ◌⊎◌, ℕ, true, false, List, [], ◌∷◌, slice_index_or, All, Option, None, Some, IfSome}
use Rattle.graph.specs.declared.circuit.Lit.{Lit}
use Rattle.graph.specs.declared.parts.Parts.{Parts}
use Rattle.graph.specs.Circuits.{Valuation, place, value_of, IsRun, KeepsConstraints}
use Rattle.cnf.specs.Clauses.{along}
use Rattle.cnf.specs.Meaning.{HoldsClause}
use Rattle.latch_map.specs.declared.mapping.Line.{Line}

-- what a table has for a variable
abbrev pub entry : List (Option Lit) → ℕ → Option Lit
entry table v = slice_index_or table v None

-- each variable has the value of the literal that the table has for it
abbrev pub AreValues : Valuation → List (Option Lit) → Type 0
AreValues w table = (v : ℕ) (b : Lit) → entry table v ≡ Some b → place w v ≡ value_of w b

-- a valuation in which the constant is false and the clauses hold
pub record IsKeptBy (cs : List (List Lit)) (w : Valuation) : Type 0 where
  pub constant : place w 0 ≡ false
  pub hold : All (HoldsClause w) cs

-- the clause has the negations of two literals
abbrev pub AreDenials : List Lit → Lit → Lit → Type 0
AreDenials c a b = (c ≡ along true a ∷ along true b ∷ []) ⊎ (c ≡ along true b ∷ along true a ∷ [])

-- a clause of one literal says that it is true
pub record SaysTrue (c : List Lit) (a b : Lit) : Type 0 where
  pub here : c ≡ a ∷ []
  pub truth : b ≡ record { 0 = 1 }

-- two clauses say that one literal has the value of the other's negation
pub record SaysOpposite (c d : List Lit) (a b : Lit) : Type 0 where
  pub other : Lit
  pub here : c ≡ a ∷ other ∷ []
  pub there : AreDenials d a other
  pub value_is : b ≡ along true other

-- clauses say that two literals have the same value
abbrev pub Says : List Lit → List Lit → Lit → Lit → Type 0
Says c d a b = SaysTrue c a b ⊎ SaysOpposite c d a b

-- the latch of a line has the value of what it is said to be equal to
abbrev pub IsLineIn : Valuation → Line → Type 0
IsLineIn w l = IfSome l.same (λ b. value_of w l.latch ≡ value_of w b)

-- the same at each time of each run that keeps the constraints
abbrev pub AreEqual : Parts → Lit → Lit → Type 0
AreEqual m a b = (r : List Valuation) → IsRun m r → KeepsConstraints m r → All (λ w. value_of w a ≡ value_of w b) r

abbrev pub IsLine : Parts → Line → Type 0
IsLine m l = IfSome l.same (AreEqual m l.latch)
