use Rattle.std.proofs.Common.{◌≡◌, map, take}
use Rattle.witness_pairs.specs.Renamed.{renamed}
use Rattle.witness_additions.proofs.wanted.literals_of.Given as goal

abbrev pub invariant-loop-lit : goal.invariant-loop-lit
invariant-loop-lit l = l.found.items ≡ map (renamed l.names) (take l.lit-index l.lits)
