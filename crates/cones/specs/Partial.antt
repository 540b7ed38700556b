-- Clauses of a cone alone, and what satisfies them.
use Rattle.std.specs.Prelude.{◌≡◌, ℕ, ◌<◌, Bool, true, false, Option, List, [], ◌∷◌, ◌++◌, flat_map, map, length, All, Contains, ℤ}
use Rattle.graph.specs.declared.circuit.Lit.{Lit}
use Rattle.graph.specs.declared.circuit.Gate.{Gate}
use Rattle.graph.specs.declared.parts.Parts.{Parts}
use Rattle.graph.specs.Circuits.{Valuation, variable, place, value_of, state_of, inputs_of, Agrees}
use Rattle.lrat.specs.Literals.{is_true}
use Rattle.cnf.specs.Clauses.{literal, truth_clause, gate_clauses, frame_at}
use Rattle.cnf.specs.Meaning.{AreSatisfied, KeepsNow}
use Rattle.cones.specs.Marks.{IsMarked, IsKnown, IsCone, AgreesOn}
use Rattle.cones.specs.declared.reach.Reach.TheVariants.{Cone, Justification}
use Rattle.cones.specs.Reach.{IsGateTable, gates_in, IsDomain, IsExtended}

-- the clauses have the truth and the clauses of C's gates
pub record HasGates (m : Parts) (C : ℕ → Type 0) (cs : List (List ℤ)) : Type 0 where
  pub truth : Contains cs (truth_clause m.max_var 0)
  pub gates : All (λ g. C (variable g.lhs) → All (Contains cs) (gate_clauses m.max_var 0 g)) m.gates

-- the constraints are of C, and the clauses have each as a unit
abbrev pub HasConstraints : Parts → (ℕ → Type 0) → List (List ℤ) → Type 0
HasConstraints m C cs = All (λ a. C (variable a) × Contains cs (literal m.max_var 0 a ∷ [])) m.constraints

-- the values of the latches, and of the inputs, in their order
abbrev pub state_by : Parts → (ℕ → Bool) → List Bool
state_by m v = map (λ l. v (variable l.lit)) m.latches

abbrev pub inputs_by : Parts → (ℕ → Bool) → List Bool
inputs_by m v = map (λ a. v (variable a)) m.inputs

-- the assignment has the valuation's values at the inputs and latches of C
pub record IsAlike (m : Parts) (C : ℕ → Type 0) (v : ℕ → Bool) (w : Valuation) : Type 0 where
  pub inputs : All (λ a. C (variable a) → v (variable a) ≡ place w (variable a)) m.inputs
  pub latches : All (λ l. C (variable l.lit) → v (variable l.lit) ≡ place w (variable l.lit)) m.latches

-- the assignment gives C's literals their values in the valuation
abbrev pub IsTrueTo : Parts → (ℕ → Type 0) → (ℕ → Bool) → Valuation → Type 0
IsTrueTo m C v w = (a : Lit) → IsKnown m (variable a) → C (variable a) → is_true v (literal m.max_var 0 a) ≡ value_of w a

-- what satisfies the clauses of a cone's gates has, at the cone, the values of each valuation that agrees and is the same
-- at the cone's inputs and latches
abbrev pub PartialLaw : Parts → Type 0
PartialLaw m = (t : List Bool) (v : ℕ → Bool) (cs : List (List ℤ)) (w : Valuation) → IsCone m (IsMarked t) → HasGates m (IsMarked t) cs → AreSatisfied v cs →
    Agrees m w → IsAlike m (IsMarked t) v w → IsTrueTo m (IsMarked t) v w

-- a valuation that agrees and keeps the constraints, with the state and the inputs of the assignment and its values at C
pub record IsCompleted (m : Parts) (C : ℕ → Type 0) (v : ℕ → Bool) (w : Valuation) : Type 0 where
  pub agrees : Agrees m w
  pub keeps : KeepsNow m w
  pub state : state_of m w ≡ state_by m v
  pub inputs : inputs_of m w ≡ inputs_by m v
  pub cone : IsTrueTo m C v w

-- what satisfies the clauses of a cone that has the constraints is completed by a valuation
abbrev pub CompletionLaw : Parts → Type 0
CompletionLaw m = (t : List Bool) (v : ℕ → Bool) (cs : List (List ℤ)) → IsCone m (IsMarked t) → HasGates m (IsMarked t) cs → HasConstraints m (IsMarked t) cs → AreSatisfied v cs →
    (w : Valuation) × IsCompleted m (IsMarked t) v w

-- what satisfies clauses satisfies each part of them: so what refutes a part refutes the whole
abbrev pub PartLaw : Type 0
PartLaw = (cs ds : List (List ℤ)) → All (Contains ds) cs → (v : ℕ → Bool) → AreSatisfied v ds → AreSatisfied v cs

-- where marks are extended, the clauses that are wanted beyond those before are those of the listed gates
abbrev pub GrowthLaw : Parts → Type 0
GrowthLaw m = (table : List (Option Gate)) (t u w : List Bool) (wanted : List Lit) (list : List ℕ) (cs : List (List ℤ)) → IsGateTable m table → HasGates m (IsMarked t) cs →
    IsExtended m Cone w wanted t u list → HasGates m (IsMarked u) (cs ++ flat_map (gate_clauses m.max_var 0) (gates_in table list))

-- all clauses of a table's gates are the circuit's
abbrev pub ListedLaw : Parts → Type 0
ListedLaw m = (table : List (Option Gate)) (list : List ℕ) → IsGateTable m table →
    All (Contains (frame_at m 0)) (flat_map (gate_clauses m.max_var 0) (gates_in table list))

-- a model of a cone's clauses serves to say what gives its gates their values: no evaluation is wanted
abbrev pub ModelLaw : Parts → Type 0
ModelLaw m = (t b : List Bool) (cs : List (List ℤ)) → IsCone m (IsMarked t) → HasGates m (IsMarked t) cs → AreSatisfied (place b) cs → place b 0 ≡ false → m.max_var < length b →
    IsDomain m Justification b t × AgreesOn m (IsMarked t) b

-- what satisfies a cone's clauses and makes literals of the cone true is, in its state and with its inputs, a time of the
-- circuit that keeps the constraints and makes the literals true
abbrev pub AnswerLaw : Parts → Type 0
AnswerLaw m = (t : List Bool) (v : ℕ → Bool) (cs : List (List ℤ)) (lits : List Lit) → IsCone m (IsMarked t) → HasGates m (IsMarked t) cs → HasConstraints m (IsMarked t) cs →
    AreSatisfied v cs → All (λ a. IsKnown m (variable a) × IsMarked t (variable a)) lits → All (λ a. is_true v (literal m.max_var 0 a) ≡ true) lits →
    (w : Valuation) × IsCompleted m (IsMarked t) v w × All (λ a. value_of w a ≡ true) lits
