use Rattle.std.proofs.Common.{◌≡◌, false, drop}
use Rattle.invariant.specs.Plas.{behind_comments}
use Rattle.invariant.proofs.pla.behind_comments.Given as goal

abbrev pub invariant-loop-i : goal.invariant-loop-i
invariant-loop-i l = behind_comments l.inside (drop l.i l.text) ≡ behind_comments false l.text
