use Rattle.std.proofs.Common.{◌≡◌, drop}
use Rattle.scan.proofs.Loops.{with_front}
use Rattle.invariant.specs.PlaReading.{row_at}
use Rattle.invariant.proofs.rows.row.Given as goal

abbrev pub invariant-loop-latch : goal.invariant-loop-latch
invariant-loop-latch l = with_front l.literals.items (row_at (drop l.latch-index l.columns) l.rest) ≡ row_at l.columns l.text
