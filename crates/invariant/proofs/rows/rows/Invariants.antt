use Rattle.std.proofs.Common.{◌≡◌, ◌-◌}
use Rattle.scan.proofs.Loops.{with_front}
use Rattle.scan.specs.Lists.{many_at}
use Rattle.invariant.specs.PlaReading.{row_at}
use Rattle.invariant.proofs.rows.rows.Given as goal

abbrev pub invariant-loop : goal.invariant-loop
invariant-loop l = with_front l.clauses (many_at (row_at l.columns) (l.count - l.counter) l.rest) ≡ many_at (row_at l.columns) l.count l.text
