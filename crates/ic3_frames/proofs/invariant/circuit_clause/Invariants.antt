use Rattle.std.proofs.Common.{◌≡◌, map, take}
use Rattle.ic3_frames.specs.Clauses.{circuit_lit as circuit_lit_of}
use Rattle.ic3_frames.proofs.invariant.circuit_clause.Given as goal

abbrev pub invariant-translating : goal.invariant-translating
invariant-translating l = l.lits ≡ map (circuit_lit_of l.latches) (take l.lit-index l.clause)
