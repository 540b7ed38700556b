use Rattle.std.proofs.Common.{◌≡◌, ℕ, ◌<◌, None, length, drop, get_or}
use Rattle.invariant.specs.Plas.{symbol_name}
use Rattle.invariant.specs.PlaReading.{name_by}
use Rattle.invariant.proofs.columns.places.Given as goal

abbrev pub invariant-loop-i : goal.invariant-loop-i
invariant-loop-i l =
    (length l.places.items ≡ length l.latches)
    × ((k : ℕ) → k < length l.latches → symbol_name (name_by l.symbols (get_or l.places.items k None)) (drop l.i l.symbols) k ≡ symbol_name None l.symbols k)
