use Rattle.std.proofs.Common.{◌^◌, ◌≤◌, length}
use Rattle.base.specs.Budget.{Spends}
use Rattle.rounds.specs.Counted.{AreHeld}
use Rattle.rounds.proofs.Tried.{IsAskedFor}
use Rattle.rounds.proofs.counting.decide_rounds.Given as goal

abbrev pub invariant-counting : goal.invariant-counting
invariant-counting g l =
    record {
      spends : Spends l.initial.budget l.budget;
      held : AreHeld l.circuit l.position l.held;
      asked : IsAskedFor l.rounds;
      few : l.rounds ≤ 2 ^ length l.circuit.latches;
      behind : l.held ≤ l.rounds;
      stays : g.E.Engine.honest l.initial.engine → g.E.Engine.honest l.engine;
    }

abbrev pub decreases-counting : goal.decreases-counting
decreases-counting g l = l.budget.left
