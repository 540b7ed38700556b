use Rattle.aag.proofs.SymbolSteps.{SoFar}
use Rattle.aag.proofs.symbol.symbols.Given as goal

abbrev pub invariant-loop : goal.invariant-loop
invariant-loop g l = SoFar l.parts l.text l.symbols l.counter l.rest
