use Rattle.std.proofs.Common.{IsSome}
use Rattle.base.specs.Budget.{Spends}
use Rattle.signal_rounds.proofs.search.Search.go_on.Given as goal

abbrev pub invariant-going : goal.invariant-going
invariant-going l = record {
  spends : Spends l.initial.budget l.budget;
  stepped : IsSome l.self.runs.wide.now;
}
