use Rattle.std.proofs.Common.{length}
use Rattle.wave_signals.proofs.NameLaws.{NamesSoFar}
use Rattle.wave_signals.proofs.bits.names_of.Given as goal

abbrev pub invariant-loop-symbol : goal.invariant-loop-symbol
invariant-loop-symbol l = NamesSoFar l.symbols l.symbol-index l.kind (length l.lits) l.names.items
