-- Properties by their names in a circuit's symbol table (AIGER 1.9).
use Rattle.std.specs.Prelude.{◌≡◌, ℕ, List, Contains}
use Rattle.graph.specs.declared.circuit.Property.{Property}
use Rattle.graph.specs.declared.circuit.Property.TheVariants.{Bad, Justice, Output}
use Rattle.graph.specs.declared.symbol.SymbolKind.TheVariants as kind
use Rattle.graph.specs.declared.symbol.Symbol.{Symbol}
use Rattle.graph.specs.Circuits.{property_text}
use Rattle.property_names.specs.declared.symbols.Asked.{Asked}
use Rattle.property_names.specs.declared.symbols.Asked.TheVariants as asked

-- the symbol is of the property
abbrev pub IsOf : Symbol → Property → Type 0
IsOf s (Bad n) = (s.kind ≡ kind.Bad) × (s.position ≡ n)
IsOf s (Justice n) = (s.kind ≡ kind.Justice) × (s.position ≡ n)
IsOf s (Output n) = (s.kind ≡ kind.Output) × (s.position ≡ n)

-- one of the symbols gives the property this name
pub record IsCalled (symbols : List Symbol) (name : List ℕ) (p : Property) : Type 0 where
  pub symbol : Symbol
  pub among : Contains symbols symbol
  pub of : IsOf symbol p
  pub named : symbol.name ≡ name

-- what the word asks for: the property that it names, or one by the word itself
abbrev pub IsAskedBy : List ℕ → Asked → Type 0
IsAskedBy word (asked.Property p) = word ≡ property_text p
IsAskedBy word (asked.Symbol name) = name.now ≡ word

-- the property that is asked for, where one of these symbols gives it its name
abbrev pub IsAskedFor : List Symbol → Asked → Property → Type 0
IsAskedFor symbols (asked.Property p) q = q ≡ p
IsAskedFor symbols (asked.Symbol name) q = IsCalled symbols name.now q
