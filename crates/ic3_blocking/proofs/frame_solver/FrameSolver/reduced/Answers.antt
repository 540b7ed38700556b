use Rattle.std.proofs.Common.{List, get_or, All, Contains, sym, subst}
use Rattle.graph.specs.declared.circuit.Lit.{Lit}
use Rattle.cnf.specs.Formulas.{IsOverLatches}
use Rattle.cnf.specs.Invariants.{IsInductive, IsInvariant}
use Rattle.ic3_blocking.proofs.Reduced.{bad_used, clauses_over, subset_is}
use Rattle.ic3_blocking.proofs.frame_solver.FrameSolver.reduced.Goals as goal

pub safe_subset-requires-clause-over : goal.safe_subset-requires-clause-over
safe_subset-requires-clause-over g c =
    let m = c.args.circuit.now in
    subst (All (IsOverLatches m)) (sym c.as_slice.ensures) (clauses_over m c.args.clauses c.requires.invariant)

pub safe_subset-requires-clause-bad : goal.safe_subset-requires-clause-bad
safe_subset-requires-clause-bad g c = bad_used c.args.circuit.now c.bad.result.now c.requires.for_bad c.bad.ensures

pub returns-in-Some-clause-invariant : goal.returns-in-Some-clause-invariant
returns-in-Some-clause-invariant g c =
    let m = c.args.circuit.now in
    let inv : List (List Lit) = c.as_slice.result.now in
    let needed : List (List Lit) = c.in-Some.needed in
    let bad : Lit = get_or c.bad.result.now 0 (record { 0 = 0 }) in
    let among : All (Contains inv) needed = rw c.in-Some.is at c.in_ok-subset.ensures.among in
    let inductive : IsInductive m inv bad → IsInductive m needed bad = rw c.in-Some.is at c.in_ok-subset.ensures.inductive in
    subset_is m inv needed c.bad.result.now c.bad.ensures (subst (IsInvariant m) (sym c.as_slice.ensures) c.requires.invariant) among inductive
