use Rattle.std.proofs.Common.{◌≡◌, ◌+◌}
use Rattle.base.specs.Budget.{Spends}
use Rattle.latch_guesses.proofs.rounds.Guesses.ask_pairs.Given as goal

abbrev pub invariant-asking : goal.invariant-asking
invariant-asking g l = record {
  vars : g.S.Sat.vars l.solver ≡ l.loaded.model.max_var + 1;
  spends : Spends l.initial.budget l.budget;
}
