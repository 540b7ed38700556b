use Rattle.std.proofs.Common.{◌≡◌}
use Rattle.base.specs.Budget.{Spends}
use Rattle.signal_rounds.proofs.search.Search.ask_used.Given as goal

abbrev pub invariant-asking : goal.invariant-asking
invariant-asking g l = record {
  spends : Spends l.initial.budget l.budget;
  vars : g.S.Sat.vars l.solver ≡ g.S.Sat.vars l.initial.solver;
  parts : l.parts ≡ l.initial.parts;
}

abbrev pub decreases-asking : goal.decreases-asking
decreases-asking g l = l.budget.left
