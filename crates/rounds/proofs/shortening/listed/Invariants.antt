use Rattle.std.proofs.Common.{◌≡◌, take}
use Rattle.rounds.proofs.shortening.listed.Given as goal

abbrev pub invariant-loop-clause : goal.invariant-loop-clause
invariant-loop-clause l = l.listed ≡ take l.clause-index l.clauses
