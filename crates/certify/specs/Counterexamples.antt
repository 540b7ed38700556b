-- What satisfies a case of clauses that are to be an inductive invariant.
use Rattle.std.specs.Prelude.{◌<◌, Bool, List, [], length}
use Rattle.graph.specs.declared.circuit.Lit.{Lit}
use Rattle.graph.specs.declared.parts.Parts.{Parts}
use Rattle.lrat.specs.declared.formula.Formula.{Formula}
use Rattle.cnf.specs.Formulas.{clause_at, init_formula, step_formula, bad_formula}
use Rattle.solver.specs.Answers.{IsModel}
use Rattle.certify.specs.declared.counterexample.Case.{Case}
use Rattle.certify.specs.declared.counterexample.Case.TheVariants.{Initial, Step, Bad}
use Rattle.certify.specs.declared.counterexample.Counterexample.{Counterexample}

-- the formula of a case, for a literal that no run is to set
abbrev pub formula_of : Parts → List (List Lit) → Lit → Case → Formula
formula_of m inv a (Initial k) = init_formula m (clause_at inv k)
formula_of m inv a (Step k) = step_formula m inv (clause_at inv k)
formula_of m inv a Bad = bad_formula m inv a

-- the case is of one of the clauses, or the bad one
abbrev pub IsCase : List (List Lit) → Case → Type 0
IsCase inv (Initial k) = k < length inv
IsCase inv (Step k) = k < length inv
IsCase inv Bad = Unit {0}

-- the values satisfy the formula
abbrev pub Satisfies : List Bool → Formula → Type 0
Satisfies b f = IsModel f.vars f.clauses [] b

-- values that satisfy a case of the clauses
pub record IsCounterexample (m : Parts) (inv : List (List Lit)) (a : Lit) (c : Counterexample) : Type 0 where
  pub case : IsCase inv c.case
  pub satisfied : Satisfies c.values.items (formula_of m inv a c.case)
