use Rattle.std.proofs.Common.{◌≡◌, length, map}
use Rattle.graph.specs.Circuits.{Valuation, variable}
use Rattle.wave_signals.specs.OpenValues.{AreGiven, Stand}
use Rattle.wave_signals.proofs.OpenFillLaws.{OpenWritten}
use Rattle.wave_signals.proofs.open_values.fill.Given as goal

abbrev pub invariant-loop-i : goal.invariant-loop-i
invariant-loop-i l = record {
  places : length l.out ≡ length l.initial.out;
  written : OpenWritten (map variable l.lits) l.given l.initial.out l.out l.i;
  stand : (w : Valuation) → Stand l.initial.out w → AreGiven l.lits l.given w → Stand l.out w;
}
