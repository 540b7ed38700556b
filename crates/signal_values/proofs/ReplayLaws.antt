-- The values of a replay.
use Rattle.std.proofs.Common.{◌≡◌, ◌≢◌, ◌*◌, ℕ, Bool, List, [], length, map, Option, refl, sym, ap, ◌∙◌, arith}
use Rattle.graph.specs.declared.parts.Parts.{Parts}
use Rattle.simulate.specs.Replays.{Replayed}
use Rattle.stimulus.proofs.PlayLaws.{one_replay}
use Rattle.stimulus.proofs.PlaySteps.{played_long}
use Rattle.wave_signals.specs.declared.bits.Bit.{Bit}
use Rattle.wave_signals.specs.Columns.{HasValues, known_at, rows_of}
use Rattle.wave_signals.proofs.ColumnLaws.{rows_known, values_long}
use Rattle.signal_values.specs.SignalValues.{AreOfReplay}

-- all lines were stepped: the values are those of their one replay
pub of_replay : (m : Parts) (initial : List Bool) (inputs : List (List Bool)) (bits : List Bit) (now : Replayed) (values : List (Option Bool)) → inputs ≢ [] → HasValues m initial inputs bits (length inputs) now values →
    AreOfReplay m initial inputs bits values
of_replay m initial inputs bits now values some h =
    let one = one_replay m initial inputs now h.valuations some h.played in
    let long : length h.valuations ≡ length inputs = played_long m initial inputs (length inputs) now h.valuations (omega arith) h.played in
    record {
      replay = h.valuations;
      replays = one.replays;
      only = one.only;
      rows_are = λ x x_is. ap (λ (n : ℕ). rows_of (length bits) n values) (sym long) ∙ ap (λ (vs : List (Option Bool)). rows_of (length bits) (length h.valuations) vs) h.are ∙ rows_known bits h.valuations
          ∙ ap (map (known_at bits)) (sym (one.only x x_is));
      long = ap (λ (vs : List (Option Bool)). length vs) h.are ∙ values_long bits h.valuations ∙ ap (λ (n : ℕ). n * length bits) long;
    }
