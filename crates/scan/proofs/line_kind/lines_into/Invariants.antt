use Rattle.std.proofs.Common.{◌≡◌, ◌-◌}
use Rattle.scan.specs.Lists.{many_at}
use Rattle.scan.proofs.Loops.{with_front}
use Rattle.scan.proofs.line_kind.lines_into.Given as goal

abbrev pub invariant-loop : goal.invariant-loop
invariant-loop g l = with_front l.items.items (many_at (g.L.LineKind.at l.context) (l.count - l.counter) l.rest) ≡ many_at (g.L.LineKind.at l.context) l.count l.text
