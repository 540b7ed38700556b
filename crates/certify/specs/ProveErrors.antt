-- Why no further case is proved.
use Rattle.std.specs.Prelude.{◌≡◌, List}
use Rattle.base.specs.Budget.{Steps}
use Rattle.base.specs.Witness.{witness}
use Rattle.graph.specs.declared.circuit.Lit.{Lit}
use Rattle.graph.specs.declared.parts.Parts.{Parts}
use Rattle.lrat.specs.declared.formula.Formula.{Formula}
use Rattle.solver.specs.Full.{full}
use Rattle.solver.specs.declared.sat_error.SatError.{SatError}
use Rattle.solver.specs.declared.sat_error.SatError.TheVariants as solver
use Rattle.certify.specs.declared.prove_error.ProveError.{ProveError}
use Rattle.certify.specs.declared.prove_error.ProveError.TheVariants.{NotInvariant, Spent, IdsTaken, OutOfMemory}
use Rattle.certify.specs.Counterexamples.{IsCounterexample, Satisfies}
use Rattle.certify.specs.declared.counterexample.Case.{Case}

-- what a refusal of a solver is here
abbrev pub of_solver : SatError → ProveError
of_solver (solver.Limit used_up) = IdsTaken full
of_solver (solver.OutOfMemory refused) = OutOfMemory witness

-- what stopped a case: values that satisfy its formula, or a budget that is exhausted; used-up ids and memory can stop anything, and have their witnesses
abbrev pub IsProveErrorOf : Formula → Case → Steps → ProveError → Type 0
IsProveErrorOf f case after (NotInvariant c) = (c.case ≡ case) × Satisfies c.values.items f
IsProveErrorOf f case after Spent = after.left ≡ 0
IsProveErrorOf f case after (IdsTaken used_up) = Unit {0}
IsProveErrorOf f case after (OutOfMemory refused) = Unit {0}

-- what stopped one of the cases
abbrev pub IsProveError : Parts → List (List Lit) → Lit → Steps → ProveError → Type 0
IsProveError m inv a after (NotInvariant c) = IsCounterexample m inv a c
IsProveError m inv a after Spent = after.left ≡ 0
IsProveError m inv a after (IdsTaken used_up) = Unit {0}
IsProveError m inv a after (OutOfMemory refused) = Unit {0}
