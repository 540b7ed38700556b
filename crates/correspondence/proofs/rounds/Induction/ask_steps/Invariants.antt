use Rattle.std.proofs.Common.{◌≡◌, ◌<◌, ℕ, [], true}
use Rattle.std.specs.Prelude.{slice_index_or}
use Rattle.base.specs.Budget.{Spends}
use Rattle.cnf.specs.Clauses.{step_clauses}
use Rattle.cnf.specs.Invariants.{AreContradictory}
use Rattle.correspondence.proofs.rounds.Induction.ask_steps.Given as goal

abbrev pub invariant-asking : goal.invariant-asking
invariant-asking g l = record {
  spends : Spends l.initial.budget l.budget;
  vars : g.S.Sat.vars l.solver ≡ g.S.Sat.vars l.initial.solver;
  clauses : g.S.Sat.clauses l.solver ≡ g.S.Sat.clauses l.initial.solver;
  hold : l.all_hold ≡ true → (k : ℕ) → k < l.place → AreContradictory (step_clauses l.circuit l.equalities.clauses (slice_index_or l.equalities.clauses k []));
}
