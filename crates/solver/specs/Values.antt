-- What is true under values in a list, each at its variable's index.
use Rattle.std.specs.Prelude.{ℤ, Bool, List}
use Rattle.lrat.specs.Literals.{is_true}
use Rattle.solver.specs.Answers.{AreTrue, values}
use Rattle.solver.specs.Parts.{IsAnd}
use Rattle.solver.specs.declared.part.AndGate.{AndGate}

-- whether the literal is true under the values
abbrev pub true_by : List Bool → ℤ → Bool
true_by b l = is_true (values b) l

-- each of the literals is true under the values
abbrev pub AreTrueBy : List Bool → List ℤ → Type 0
AreTrueBy b ls = AreTrue (values b) ls

-- the gate's literal is true under the values exactly where both right sides are
abbrev pub IsAndBy : List Bool → AndGate → Type 0
IsAndBy b g = IsAnd (values b) g
