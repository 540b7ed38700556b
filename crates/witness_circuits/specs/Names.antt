-- The names by which a witness circuit says which input or latch of the model each one is.
use Rattle.std.specs.Prelude.{ℕ, ◌+◌, List, [], ◌∷◌, ◌++◌, map, codes, decimal}
use Rattle.graph.specs.declared.circuit.Lit.{Lit}
use Rattle.graph.specs.declared.parts.Parts.{Parts}
use Rattle.graph.specs.declared.symbol.SymbolKind.{SymbolKind}
use Rattle.graph.specs.declared.symbol.SymbolKind.TheVariants.{Input, Latch}
use Rattle.graph.specs.declared.symbol.Symbol.{Symbol}

-- an equals sign, a space, and the model's literal
abbrev pub shared_name : Lit → List ℕ
shared_name a = codes "= " ++ decimal a.0

-- the literals of the model, from the position on
abbrev pub shared_from : SymbolKind → List Lit → ℕ → List Symbol
shared_from kind [] n = []
shared_from kind (a ∷ lits) n = record { kind = kind; position = n; name = shared_name a } ∷ shared_from kind lits (n + 1)

-- the model's inputs and latches, at their positions
abbrev pub shared_names : Parts → List Symbol
shared_names m = shared_from Input m.inputs 0 ++ shared_from Latch (map (λ l. l.lit) m.latches) 0
