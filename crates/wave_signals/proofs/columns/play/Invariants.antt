use Rattle.wave_signals.specs.Columns.{HasValues}
use Rattle.wave_signals.proofs.columns.play.Given as goal

abbrev pub invariant-loop-line : goal.invariant-loop-line
invariant-loop-line l = HasValues l.initial.replay.circuit l.initial.replay.state l.lines l.bits l.line-index l.replay l.values.items
