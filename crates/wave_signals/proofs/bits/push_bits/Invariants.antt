use Rattle.wave_signals.proofs.BitLaws.{BitsSoFar}
use Rattle.wave_signals.proofs.bits.push_bits.Given as goal

abbrev pub invariant-loop-k : goal.invariant-loop-k
invariant-loop-k l = BitsSoFar l.symbols l.kind l.lits l.k l.initial.bits.items l.bits.items
