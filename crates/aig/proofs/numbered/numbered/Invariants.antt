use Rattle.std.proofs.Common.{◌≡◌, ◌+◌, ◌-◌}
use Rattle.scan.proofs.Loops.{with_front}
use Rattle.aig.specs.Lines.{numbered_at}
use Rattle.aig.proofs.numbered.numbered.Given as goal

abbrev pub invariant-loop-i : goal.invariant-loop-i
invariant-loop-i g l =
    with_front l.items.items (numbered_at (g.D.DefinitionKind.at l.max_var) (l.first + l.i) (l.count - l.i) l.rest)
    ≡ numbered_at (g.D.DefinitionKind.at l.max_var) l.first l.count l.text
