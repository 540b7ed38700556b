use Rattle.std.proofs.Common.{◌≡◌, ◌≤◌, length}
use Rattle.aag.specs.Writing.{trimmed}
use Rattle.aag.proofs.writing.trimmed.Given as goal

abbrev pub invariant-loop-kept : goal.invariant-loop-kept
invariant-loop-kept l = record {
  same : trimmed l.kept ≡ trimmed l.initial.kept;
  few : length l.kept ≤ 4;
}

abbrev pub decreases-loop-kept : goal.decreases-loop-kept
decreases-loop-kept l = length l.kept
