-- The first state of a replay.
use Rattle.std.proofs.Common.{◌≡◌, ◌<◌, Bool, List, [], ◌∷◌, length, arith}
use Rattle.graph.specs.declared.parts.Parts.{Parts}
use Rattle.graph.specs.Circuits.{state_of, at}
use Rattle.stimulus.specs.Shown.{Begins}

pub begins_at : (m : Parts) (initial : List Bool) (r : List (List Bool)) → Begins m initial r → state_of m (at r 0) ≡ initial
begins_at m initial [] h = absurd h
begins_at m initial (w ∷ r) h = h

pub begins_from : (m : Parts) (initial : List Bool) (r : List (List Bool)) → 0 < length r → state_of m (at r 0) ≡ initial → Begins m initial r
begins_from m initial [] some h = absurd (omega arith)
begins_from m initial (w ∷ r) some h = h
