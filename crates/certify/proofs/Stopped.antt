-- What it says that no further case is proved.
use Rattle.std.proofs.Common.{◌≡◌, List, [], sym, subst}
use Rattle.base.specs.Budget.{Steps}
use Rattle.graph.specs.declared.circuit.Lit.{Lit}
use Rattle.graph.specs.declared.parts.Parts.{Parts}
use Rattle.lrat.specs.declared.formula.Formula.{Formula}
use Rattle.cnf.specs.Invariants.{AreContradictory, IsInductive}
use Rattle.solver.specs.declared.sat_error.SatError.{SatError}
use Rattle.solver.specs.declared.sat_error.SatError.TheVariants as solver
use Rattle.solver.specs.Answers.{values}
use Rattle.certify.specs.declared.counterexample.Case.{Case}
use Rattle.certify.specs.declared.counterexample.Case.TheVariants.{Initial, Step, Bad}
use Rattle.certify.specs.declared.counterexample.Counterexample.{Counterexample}
use Rattle.certify.specs.declared.prove_error.ProveError.{ProveError}
use Rattle.certify.specs.declared.prove_error.ProveError.TheVariants.{NotInvariant, Spent, IdsTaken, OutOfMemory}
use Rattle.certify.specs.Counterexamples.{formula_of, IsCase, IsCounterexample, Satisfies}
use Rattle.certify.specs.ProveErrors.{of_solver, IsProveError, IsProveErrorOf}

-- a refusal can stop anything
pub solver_halt : (f : Formula) (case : Case) (after : Steps) (e : SatError) → IsProveErrorOf f case after (of_solver e)
solver_halt f case after (solver.Limit used_up) = tt
solver_halt f case after (solver.OutOfMemory refused) = tt

-- what stopped a case stopped one of the cases
pub halt_of : (m : Parts) (inv : List (List Lit)) (a : Lit) (case : Case) (f : Formula) (after : Steps) (h : ProveError) → IsCase inv case → f ≡ formula_of m inv a case →
    IsProveErrorOf f case after h → IsProveError m inv a after h
halt_of m inv a case f after (NotInvariant c) is_case is stopped = record {
  case = subst (IsCase inv) (sym stopped.0) is_case;
  satisfied = subst (λ x. Satisfies c.values.items (formula_of m inv a x)) (sym stopped.0) (subst (Satisfies c.values.items) is stopped.1);
}
halt_of m inv a case f after Spent is_case is none = none
halt_of m inv a case f after (IdsTaken used_up) is_case is any = tt
halt_of m inv a case f after (OutOfMemory refused) is_case is any = tt

-- nothing satisfies a case of an inductive invariant
unsatisfied : (m : Parts) (inv : List (List Lit)) (a : Lit) (case : Case) → IsInductive m inv a → IsCase inv case → AreContradictory (formula_of m inv a case).clauses
unsatisfied m inv a (Initial k) inductive is_case = inductive.begins k [] is_case
unsatisfied m inv a (Step k) inductive is_case = inductive.goes_on k [] is_case
unsatisfied m inv a Bad inductive is_case = inductive.excludes

pub not_inductive : (m : Parts) (inv : List (List Lit)) (a : Lit) (c : Counterexample) → IsCounterexample m inv a c → IsInductive m inv a → ⊥
not_inductive m inv a c found inductive = unsatisfied m inv a c.case inductive found.case (values c.values.items) found.satisfied.satisfied
