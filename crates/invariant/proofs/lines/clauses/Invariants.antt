use Rattle.std.proofs.Common.{length}
use Rattle.invariant.proofs.LineLoop.{HasRead}
use Rattle.invariant.proofs.lines.clauses.Given as goal

abbrev pub invariant-reading : goal.invariant-reading
invariant-reading l = HasRead l.text l.rest l.clauses

abbrev pub decreases-reading : goal.decreases-reading
decreases-reading l = length l.rest
