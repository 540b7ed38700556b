-- Names of a circuit's literals (AIGER 1.9, symbol table).
use Rattle.std.specs.Prelude.{◌≡◌, ◌≢◌, ℕ, ◌+◌, ◌<◌, List, [], ◌∷◌, length, take, slice_index, All, AllPairs}
use Rattle.graph.specs.declared.parts.Parts.{Parts}
use Rattle.graph.specs.declared.symbol.SymbolKind.{SymbolKind}
use Rattle.graph.specs.declared.symbol.SymbolKind.TheVariants.{Input, Latch, Output, Bad, Constraint, Justice, Fairness}
use Rattle.graph.specs.declared.symbol.Symbol.{Symbol}

-- the kinds in order
abbrev pub index_of : SymbolKind → ℕ
index_of Input = 0
index_of Latch = 1
index_of Output = 2
index_of Bad = 3
index_of Constraint = 4
index_of Justice = 5
index_of Fairness = 6

-- how many there are of each kind
abbrev pub symbol_counts : Parts → List ℕ
symbol_counts m =
    length m.inputs ∷ length m.latches ∷ length m.outputs ∷ length m.bad ∷ length m.constraints ∷ length m.justice
    ∷ length m.fairness ∷ []

-- one or more bytes, none of them a line end
pub record IsName (name : List ℕ) : Type 0 where
  pub some : 0 < length name
  pub no_end : All (λ byte. byte ≢ 10) name

-- the symbol names something that is there
pub record IsSymbol (counts : List ℕ) (s : Symbol) : Type 0 where
  pub inside : s.position < slice_index counts (index_of s.kind)
  pub named : IsName s.name

-- two symbols of one kind and position
abbrev pub AreSame : Symbol → Symbol → Type 0
AreSame s t = (index_of s.kind ≡ index_of t.kind) × (s.position ≡ t.position)

-- each names something that is there, and no two the same
pub record AreSymbols (counts : List ℕ) (symbols : List Symbol) : Type 0 where
  pub each : All (IsSymbol counts) symbols
  pub distinct : AllPairs (λ s t. AreSame s t → ⊥) symbols

-- it is there, and none of the symbols names it
pub record IsFree (counts : List ℕ) (symbols : List Symbol) (s : Symbol) : Type 0 where
  pub inside : s.position < slice_index counts (index_of s.kind)
  pub others : All (λ t. AreSame t s → ⊥) symbols

-- the symbols before the i-th are as they should be, and with it they are not
pub record IsFirstWrong (counts : List ℕ) (symbols : List Symbol) (i : ℕ) : Type 0 where
  pub inside : i < length symbols
  pub before : AreSymbols counts (take i symbols)
  pub wrong : AreSymbols counts (take (i + 1) symbols) → ⊥

-- symbols, and the counts of the parts that they are of
pub record Labels : Type 0 where
  pub counts : List ℕ
  pub symbols : List Symbol
