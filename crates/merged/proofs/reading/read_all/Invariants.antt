use Rattle.std.proofs.Common.{◌≡◌, map, take}
use Rattle.merged.specs.Reading.{read_as as word}
use Rattle.merged.proofs.reading.read_all.Given as goal

abbrev pub invariant-loop-lit : goal.invariant-loop-lit
invariant-loop-lit l = l.all ≡ map (word l.table) (take l.lit-index l.lits)
