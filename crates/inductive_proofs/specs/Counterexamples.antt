-- What satisfies a case of clauses that are to be inductive.
use Rattle.std.specs.Prelude.{◌+◌, ◌*◌, ◌<◌, Bool, List, [], length}
use Rattle.graph.specs.declared.circuit.Lit.{Lit}
use Rattle.graph.specs.declared.parts.Parts.{Parts}
use Rattle.lrat.specs.declared.formula.Formula.{Formula}
use Rattle.cnf.specs.Formulas.{bad_formula, clause_at}
use Rattle.solver.specs.Answers.{IsModel}
use Rattle.extension.specs.Inductive.{begin_case, pair_case}
use Rattle.inductive_proofs.specs.declared.counterexample.Case.{Case}
use Rattle.inductive_proofs.specs.declared.counterexample.Case.TheVariants.{First, Step, Last}
use Rattle.inductive_proofs.specs.declared.counterexample.Counterexample.{Counterexample}

-- the formula of a case, for a literal that is to be excluded
abbrev pub formula_of : Parts → List (List Lit) → Lit → Case → Formula
formula_of m inv a (First k) = record { vars = m.max_var + 1; clauses = begin_case m (clause_at inv k) }
formula_of m inv a (Step k) = record { vars = 2 * (m.max_var + 1); clauses = pair_case m inv (clause_at inv k) }
formula_of m inv a Last = bad_formula m inv a

-- the case is of one of the clauses, or the last one
abbrev pub IsCase : List (List Lit) → Case → Type 0
IsCase inv (First k) = k < length inv
IsCase inv (Step k) = k < length inv
IsCase inv Last = Unit {0}

-- the values satisfy the formula
abbrev pub Satisfies : List Bool → Formula → Type 0
Satisfies b f = IsModel f.vars f.clauses [] b

-- values that satisfy a case of the clauses
pub record IsCounterexample (m : Parts) (inv : List (List Lit)) (a : Lit) (c : Counterexample) : Type 0 where
  pub case : IsCase inv c.case
  pub satisfied : Satisfies c.values.items (formula_of m inv a c.case)
