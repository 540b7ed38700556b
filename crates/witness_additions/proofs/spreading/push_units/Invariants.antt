use Rattle.std.proofs.Common.{◌≡◌, [], ◌∷◌, ◌++◌, map, take}
use Rattle.witness_additions.proofs.spreading.push_units.Given as goal

abbrev pub invariant-loop-lit : goal.invariant-loop-lit
invariant-loop-lit l = l.clauses ≡ l.initial.clauses ++ map (λ a. a ∷ []) (take l.lit-index l.lits)
