use Rattle.std.proofs.Common.{◌≡◌, ◌-◌}
use Rattle.aag.specs.Lines.{greatest}
use Rattle.aag.specs.Justice.{sizes_at}
use Rattle.scan.proofs.Loops.{with_front}
use Rattle.aag.proofs.justice.sizes.Given as goal

abbrev pub invariant-loop : goal.invariant-loop
invariant-loop g l = with_front l.sizes.items (sizes_at l.room (l.count - l.counter) l.rest) ≡ sizes_at greatest l.count l.text
