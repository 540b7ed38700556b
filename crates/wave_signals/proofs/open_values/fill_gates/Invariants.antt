use Rattle.std.proofs.Common.{◌≡◌, ◌⊎◌, ℕ, All, Contains, length, map}
use Rattle.graph.specs.Circuits.{Fires, Valuation}
use Rattle.wave_signals.specs.OpenValues.{Stand, open_place}
use Rattle.graph.proofs.Gates.{left}
use Rattle.wave_signals.proofs.OpenOrderLaws.{OpenEvaluated}
use Rattle.wave_signals.proofs.open_values.fill_gates.Given as goal

abbrev pub invariant-loop-place : goal.invariant-loop-place
invariant-loop-place l = record {
  places : length l.out ≡ length l.initial.out;
  evaluated : OpenEvaluated l.gates l.order l.out l.place-index;
  kept : (v : ℕ) → Contains (map left l.gates) v ⊎ (open_place l.out v ≡ open_place l.initial.out v);
  stand : (w : Valuation) → Stand l.initial.out w → All (Fires w) l.gates → Stand l.out w;
}
