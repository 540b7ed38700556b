use Rattle.std.proofs.Common.{◌≡◌, ◌++◌, map, drop}
use Rattle.graph.specs.declared.symbol.SymbolKind.TheVariants.{Latch}
use Rattle.witness_circuits.specs.Names.{shared_from}
use Rattle.witness_circuits.proofs.symbols.add_latches.Given as goal

abbrev pub invariant-loop-i : goal.invariant-loop-i
invariant-loop-i l = l.symbols.items ++ shared_from Latch (map (λ x. x.lit) (drop l.i l.latches)) l.i ≡ l.initial.symbols.items ++ shared_from Latch (map (λ x. x.lit) l.latches) 0
