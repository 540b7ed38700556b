use Rattle.std.proofs.Common.{◌≡◌, filter, take}
use Rattle.states.specs.declared.state_lit.StateLit.{StateLit}
use Rattle.states.proofs.Valued.{is_among}
use Rattle.ic3_blocking.proofs.picked.among.Given as goal

abbrev pub invariant-choosing : goal.invariant-choosing
invariant-choosing l = l.kept ≡ filter (λ (a : StateLit). is_among l.latches a.latch) (take l.lit-index l.clause)
