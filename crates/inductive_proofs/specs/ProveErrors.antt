-- Why no further case is proved.
use Rattle.std.specs.Prelude.{◌≡◌, ℕ, ◌<◌, List, length, map}
use Rattle.base.specs.Budget.{Steps}
use Rattle.base.specs.Witness.{witness}
use Rattle.graph.specs.declared.circuit.Lit.{Lit}
use Rattle.graph.specs.declared.parts.Parts.{Parts}
use Rattle.lrat.specs.declared.formula.Formula.{Formula}
use Rattle.cnf.specs.Clauses.{denial}
use Rattle.cnf.specs.Formulas.{clause_at}
use Rattle.cnf.specs.declared.time_frame.TimeFrame.{TimeFrame}
use Rattle.cdcl_log.specs.Logged.{with_units}
use Rattle.solver.specs.Full.{full}
use Rattle.solver.specs.declared.sat_error.SatError.{SatError}
use Rattle.solver.specs.declared.sat_error.SatError.TheVariants as solver
use Rattle.inductive_proofs.specs.Counterexamples.{IsCounterexample, Satisfies}
use Rattle.inductive_proofs.specs.declared.counterexample.Case.{Case}
use Rattle.inductive_proofs.specs.declared.counterexample.Case.TheVariants as case
use Rattle.inductive_proofs.specs.declared.counterexample.Counterexample.{Counterexample}
use Rattle.inductive_proofs.specs.declared.prove_error.ProveError.{ProveError}
use Rattle.inductive_proofs.specs.declared.prove_error.ProveError.TheVariants.{NotInvariant, Spent, IdsTaken, OutOfMemory}
use Rattle.inductive_proofs.specs.declared.showing.Kind.{Kind}
use Rattle.inductive_proofs.specs.declared.showing.Kind.TheVariants.{First, Step}

-- what a refusal of a solver is here
abbrev pub of_solver : SatError → ProveError
of_solver (solver.Limit used_up) = IdsTaken full
of_solver (solver.OutOfMemory refused) = OutOfMemory witness

-- the case of a clause
abbrev pub case_of : Kind → ℕ → Case
case_of First k = case.First k
case_of Step k = case.Step k

-- what stopped a case: values that satisfy its formula, or a budget that is exhausted; used-up ids and memory can stop anything
abbrev pub IsProveErrorOf : Formula → Case → Steps → ProveError → Type 0
IsProveErrorOf f case after (NotInvariant c) = (c.case ≡ case) × Satisfies c.values.items f
IsProveErrorOf f case after Spent = after.left ≡ 0
IsProveErrorOf f case after (IdsTaken used_up) = Unit {0}
IsProveErrorOf f case after (OutOfMemory refused) = Unit {0}

-- the values satisfy the formula, and deny one of the clauses at the time: that of the case
pub record IsFoundAt (f : Formula) (kind : Kind) (time : TimeFrame) (cs : List (List Lit)) (c : Counterexample) : Type 0 where
  pub clause : ℕ
  pub stands : clause < length cs
  pub case : c.case ≡ case_of kind clause
  pub satisfied : Satisfies c.values.items (with_units f (map (denial time.max_var time.offset) (clause_at cs clause)))

-- what stopped one of the cases of clauses at a time
abbrev pub IsProveErrorAt : Formula → Kind → TimeFrame → List (List Lit) → Steps → ProveError → Type 0
IsProveErrorAt f kind time cs after (NotInvariant c) = IsFoundAt f kind time cs c
IsProveErrorAt f kind time cs after Spent = after.left ≡ 0
IsProveErrorAt f kind time cs after (IdsTaken used_up) = Unit {0}
IsProveErrorAt f kind time cs after (OutOfMemory refused) = Unit {0}

-- what stopped one of the cases
abbrev pub IsProveError : Parts → List (List Lit) → Lit → Steps → ProveError → Type 0
IsProveError m inv a after (NotInvariant c) = IsCounterexample m inv a c
IsProveError m inv a after Spent = after.left ≡ 0
IsProveError m inv a after (IdsTaken used_up) = Unit {0}
IsProveError m inv a after (OutOfMemory refused) = Unit {0}
