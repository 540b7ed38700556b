use Rattle.std.proofs.Common.{◌≡◌, drop}
use Rattle.invariant.specs.PlaReading.{behind_lines}
use Rattle.invariant.proofs.pla.behind_lines.Given as goal

abbrev pub invariant-loop-i : goal.invariant-loop-i
invariant-loop-i l = behind_lines (drop l.i l.text) ≡ behind_lines l.text
