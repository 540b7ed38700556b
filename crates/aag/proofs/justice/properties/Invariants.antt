use Rattle.std.proofs.Common.{◌≡◌, drop}
use Rattle.aag.specs.Justice.{properties_at}
use Rattle.scan.proofs.Loops.{with_front}
use Rattle.aag.proofs.justice.properties.Given as goal

abbrev pub invariant-loop-size : goal.invariant-loop-size
invariant-loop-size g l = with_front l.properties.items (properties_at l.line.max_var (drop l.size-index l.sizes) l.rest) ≡ properties_at l.line.max_var l.sizes l.text
