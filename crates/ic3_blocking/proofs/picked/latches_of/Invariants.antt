use Rattle.std.proofs.Common.{◌≡◌, map, take}
use Rattle.states.specs.declared.state_lit.StateLit.{StateLit}
use Rattle.ic3_blocking.proofs.picked.latches_of.Given as goal

abbrev pub invariant-listing : goal.invariant-listing
invariant-listing l = l.latches.items ≡ map (λ (a : StateLit). a.latch) (take l.lit-index l.part)
