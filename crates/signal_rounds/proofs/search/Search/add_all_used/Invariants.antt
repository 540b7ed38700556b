use Rattle.std.proofs.Common.{◌≡◌}
use Rattle.signal_rounds.proofs.search.Search.add_all_used.Given as goal

abbrev pub invariant-adding : goal.invariant-adding
invariant-adding g l = record {
  vars : g.S.Sat.vars l.solver ≡ g.S.Sat.vars l.initial.solver;
  parts : l.parts ≡ l.initial.parts;
}
