-- What the clauses say of a valuation.
use Rattle.std.specs.Prelude.{◌≡◌, ℕ, Bool, true, false, List, [], ◌∷◌, ◌++◌, All, Any, ℤ, ◌↔◌}
use Rattle.graph.specs.declared.circuit.Lit.{Lit}
use Rattle.graph.specs.declared.parts.Parts.{Parts}
use Rattle.graph.specs.Circuits.{Valuation, place, value_of, IsValuation, Agrees, IsInitial}
use Rattle.lrat.specs.Literals.{IsSatisfied}
use Rattle.cnf.specs.Clauses.{next_of, frame_clauses, init_clauses, step_clauses, bad_clauses}

-- one place more, which is true
abbrev pub extension_of : Valuation → ℕ → Bool
extension_of w v = place (w ++ true ∷ []) v

-- each clause has a literal that is true
abbrev pub AreSatisfied : (ℕ → Bool) → List (List ℤ) → Type 0
AreSatisfied v cs = All (IsSatisfied v) cs

-- one of the clause's literals is true
abbrev pub HoldsClause : Valuation → List Lit → Type 0
HoldsClause w c = Any (λ a. value_of w a ≡ true) c

-- all of the clause's literals are false
abbrev pub Denies : Valuation → List Lit → Type 0
Denies w c = All (λ a. value_of w a ≡ false) c

-- all of the clause's literals are false in the next state
abbrev pub DeniesNext : Parts → Valuation → List Lit → Type 0
DeniesNext m w c = All (λ a. value_of w (next_of m.latches a) ≡ false) c

abbrev pub KeepsNow : Parts → Valuation → Type 0
KeepsNow m w = All (λ a. value_of w a ≡ true) m.constraints

-- what the step and bad cases ask of the time before
pub record IsKept (m : Parts) (inv : List (List Lit)) (w : Valuation) : Type 0 where
  pub agrees : Agrees m w
  pub keeps : KeepsNow m w
  pub holds : All (HoldsClause w) inv

-- a valuation agrees exactly where its extension satisfies the frame
abbrev pub FrameLaw : Parts → Type 0
FrameLaw m = (w : Valuation) → IsValuation m w → Agrees m w ↔ AreSatisfied (extension_of w) (frame_clauses m)

-- the initial case is satisfied exactly where the valuation is initial and denies the clause
abbrev pub InitLaw : Parts → List Lit → Type 0
InitLaw m c = (w : Valuation) → IsValuation m w → (IsInitial m w × Denies w c) ↔ AreSatisfied (extension_of w) (init_clauses m c)

-- a step case is satisfied exactly where the valuation keeps all and denies the clause at the next state
abbrev pub StepLaw : Parts → List (List Lit) → List Lit → Type 0
StepLaw m inv c = (w : Valuation) → IsValuation m w → (IsKept m inv w × DeniesNext m w c) ↔ AreSatisfied (extension_of w) (step_clauses m inv c)

-- a bad case is satisfied exactly where the valuation keeps all and sets the bad literal
abbrev pub BadLaw : Parts → List (List Lit) → Lit → Type 0
BadLaw m inv a = (w : Valuation) → IsValuation m w → (IsKept m inv w × (value_of w a ≡ true)) ↔ AreSatisfied (extension_of w) (bad_clauses m inv a)
