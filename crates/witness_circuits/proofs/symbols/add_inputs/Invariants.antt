use Rattle.std.proofs.Common.{◌≡◌, ◌++◌, drop}
use Rattle.graph.specs.declared.symbol.SymbolKind.TheVariants.{Input}
use Rattle.witness_circuits.specs.Names.{shared_from}
use Rattle.witness_circuits.proofs.symbols.add_inputs.Given as goal

abbrev pub invariant-loop-i : goal.invariant-loop-i
invariant-loop-i l = l.symbols.items ++ shared_from Input (drop l.i l.inputs) l.i ≡ l.initial.symbols.items ++ shared_from Input l.inputs 0
