use Rattle.std.proofs.Common.{◌-◌, length}
use Rattle.wave_signals.proofs.SignalLaws.{Grouped}
use Rattle.wave_signals.proofs.signals.signals_of.Given as goal

abbrev pub invariant-grouping : goal.invariant-grouping
invariant-grouping l = Grouped l.bits l.signals.items l.first

abbrev pub decreases-grouping : goal.decreases-grouping
decreases-grouping l = length l.bits - l.first
