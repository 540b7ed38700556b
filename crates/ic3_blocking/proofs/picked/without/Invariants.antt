use Rattle.std.proofs.Common.{◌≡◌, ◌==◌, not, filter, take}
use Rattle.states.specs.declared.state_lit.StateLit.{StateLit}
use Rattle.ic3_blocking.proofs.picked.without.Given as goal

abbrev pub invariant-choosing : goal.invariant-choosing
invariant-choosing l = l.kept ≡ filter (λ (a : StateLit). not (a.latch == l.latch)) (take l.lit-index l.clause)
