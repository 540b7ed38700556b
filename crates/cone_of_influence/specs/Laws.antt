-- What a reduced circuit says of the circuit.
use Rattle.std.specs.Prelude.{◌≡◌, ℕ, Bool, List, map}
use Rattle.graph.specs.declared.circuit.Lit.{Lit}
use Rattle.graph.specs.declared.circuit.Property.TheVariants.{Bad}
use Rattle.graph.specs.declared.parts.Parts.{Parts}
use Rattle.graph.specs.Circuits.{Valuation, place, value_of, IsRun, KeepsConstraints}
use Rattle.stimulus.specs.declared.value.Stimulus.TheVariants.{Violated}
use Rattle.stimulus.specs.Shown.{ShowsBad}
use Rattle.cnf.specs.Formulas.{bad_literal}
use Rattle.engine.specs.Bounds.{IsClear}
use Rattle.cnf.specs.Invariants.{IsInvariant}
use Rattle.cone_of_influence.specs.declared.tables.Tables.{Tables}
use Rattle.cone_of_influence.specs.Numbers.{renamed}
use Rattle.cone_of_influence.specs.Reduced.{filled}

-- the values of the variables that are kept
abbrev pub restricted : List ℕ → Valuation → Valuation
restricted kept w = map (place w) kept

-- a run of the reduced circuit that keeps its constraints, in which the bad literal has the values of the circuit's in this run
pub record IsRestricted (m s : Parts) (r restricted_run : List Valuation) : Type 0 where
  pub runs : IsRun s restricted_run
  pub keeps : KeepsConstraints s restricted_run
  pub bad : map (λ w. value_of w (bad_literal s 0)) restricted_run ≡ map (λ w. value_of w (bad_literal m 0)) r

-- each run of the circuit that keeps the constraints is one of the reduced circuit at the variables that are kept
abbrev pub RunsLaw : Parts → Parts → Tables → Type 0
RunsLaw m s t = (r : List Valuation) → IsRun m r → KeepsConstraints m r → IsRestricted m s r (map (restricted t.kept) r)

-- a run of the reduced circuit that shows its bad literal shows that of the circuit, once it is filled
abbrev pub ViolationLaw : Parts → Parts → Tables → Type 0
ViolationLaw m s t = (initial : List Bool) (inputs : List (List Bool)) →
    ShowsBad s (Violated (Bad 0) initial inputs) → ShowsBad m (Violated (Bad 0) (filled t.latches initial) (map (filled t.inputs) inputs))

-- where no run of at most this number of steps sets the bad literal of the reduced circuit, none sets that of the circuit
abbrev pub ClearLaw : Parts → Parts → Type 0
ClearLaw m s = (steps : ℕ) → IsClear s (Bad 0) steps → IsClear m (Bad 0) steps

-- an invariant of the reduced circuit is one of the circuit, over the variables that are kept
abbrev pub InvariantLaw : Parts → Parts → Tables → Type 0
InvariantLaw m s t = (inv : List (List Lit)) → IsInvariant s inv → IsInvariant m (map (map (renamed t.kept)) inv)

-- all of them
pub record AreLaws (m s : Parts) (t : Tables) : Type 0 where
  pub runs : RunsLaw m s t
  pub violation : ViolationLaw m s t
  pub clear : ClearLaw m s
  pub invariants : InvariantLaw m s t
