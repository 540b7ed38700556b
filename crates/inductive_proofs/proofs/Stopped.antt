-- What it says that no further case is proved.
use Rattle.std.proofs.Common.{◌≡◌, ◌+◌, List, map, sym, subst}
use Rattle.base.specs.Budget.{Steps}
use Rattle.graph.specs.declared.circuit.Lit.{Lit}
use Rattle.graph.specs.declared.parts.Parts.{Parts}
use Rattle.lrat.specs.declared.formula.Formula.{Formula}
use Rattle.cnf.specs.Clauses.{denial}
use Rattle.cnf.specs.Formulas.{clause_at}
use Rattle.cnf.specs.declared.time_frame.TimeFrame.{TimeFrame}
use Rattle.cdcl_log.specs.Logged.{with_units}
use Rattle.extension.specs.Accepted.{begin_formula, pair_formula}
use Rattle.inductive_proofs.specs.Counterexamples.{formula_of, IsCase, Satisfies}
use Rattle.inductive_proofs.specs.ProveErrors.{IsProveError, IsProveErrorAt}
use Rattle.inductive_proofs.specs.declared.prove_error.ProveError.{ProveError}
use Rattle.inductive_proofs.specs.declared.prove_error.ProveError.TheVariants.{NotInvariant, Spent, IdsTaken, OutOfMemory}
use Rattle.inductive_proofs.specs.declared.showing.Kind.TheVariants.{First, Step}

-- what stopped one of the clauses at a first time
pub first_halt : (m : Parts) (inv : List (List Lit)) (a : Lit) (f : Formula) (time : TimeFrame) (after : Steps) (h : ProveError) → f ≡ begin_formula m → time.max_var ≡ m.max_var → time.offset ≡ 0 →
    IsProveErrorAt f First time inv after h → IsProveError m inv a after h
first_halt m inv a f time after (NotInvariant c) is n o found = record {
  case = subst (IsCase inv) (sym found.case) found.stands;
  satisfied =
      subst (λ x. Satisfies c.values.items (formula_of m inv a x)) (sym found.case)
      (subst (λ q. Satisfies c.values.items (with_units (begin_formula m) (map (denial m.max_var q) (clause_at inv found.clause)))) o
      (subst (λ p. Satisfies c.values.items (with_units (begin_formula m) (map (denial p time.offset) (clause_at inv found.clause)))) n
      (subst (λ (g : Formula). Satisfies c.values.items (with_units g (map (denial time.max_var time.offset) (clause_at inv found.clause)))) is found.satisfied)));
}
first_halt m inv a f time after Spent is n o none = none
first_halt m inv a f time after (IdsTaken used_up) is n o any = tt
first_halt m inv a f time after (OutOfMemory refused) is n o any = tt

-- or at a time behind one at which they hold
pub step_halt : (m : Parts) (inv : List (List Lit)) (a : Lit) (f : Formula) (time : TimeFrame) (after : Steps) (h : ProveError) → f ≡ pair_formula m inv → time.max_var ≡ m.max_var → time.offset ≡ m.max_var + 1 →
    IsProveErrorAt f Step time inv after h → IsProveError m inv a after h
step_halt m inv a f time after (NotInvariant c) is n o found = record {
  case = subst (IsCase inv) (sym found.case) found.stands;
  satisfied =
      subst (λ x. Satisfies c.values.items (formula_of m inv a x)) (sym found.case)
      (subst (λ q. Satisfies c.values.items (with_units (pair_formula m inv) (map (denial m.max_var q) (clause_at inv found.clause)))) o
      (subst (λ p. Satisfies c.values.items (with_units (pair_formula m inv) (map (denial p time.offset) (clause_at inv found.clause)))) n
      (subst (λ (g : Formula). Satisfies c.values.items (with_units g (map (denial time.max_var time.offset) (clause_at inv found.clause)))) is found.satisfied)));
}
step_halt m inv a f time after Spent is n o none = none
step_halt m inv a f time after (IdsTaken used_up) is n o any = tt
step_halt m inv a f time after (OutOfMemory refused) is n o any = tt
