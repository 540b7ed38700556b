use Rattle.std.proofs.Common.{length}
use Rattle.lrat.proofs.ProofLaws.{HasRead}
use Rattle.lrat.proofs.text.lines.Given as goal

abbrev pub invariant-reading : goal.invariant-reading
invariant-reading l = HasRead l.text l.rest l.proof

abbrev pub decreases-reading : goal.decreases-reading
decreases-reading l = length l.rest
