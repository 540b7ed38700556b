use Rattle.std.proofs.Common.{◌≡◌, map, take}
use Rattle.unrolling.specs.Unrollings.{literal_at}
use Rattle.unrolling.proofs.unrolling.first_state.Given as goal

abbrev pub invariant-loop-position : goal.invariant-loop-position
invariant-loop-position l = l.state.items ≡ map (literal_at l.fn.initial) (take l.position-index l.position-items)
