use Rattle.std.proofs.Common.{IfSome}
use Rattle.property_names.specs.Symbols.{IsCalled}
use Rattle.property_names.proofs.symbols.property_called.Given as goal

abbrev pub invariant-loop-symbol : goal.invariant-loop-symbol
invariant-loop-symbol l = IfSome l.found (IsCalled l.symbols l.name)
