-- Which positions have a symbol, kind by kind.
use Rattle.std.specs.declared.vec.Vec.{Vec}
use Rattle.std.specs.declared.alloc.Global.{Global}
use Rattle.std.specs.Prelude.{◌≡◌, ℕ, ◌<◌, Bool, true, false, List, [], map, length, slice_index_or, slice_set, All, Any}
use Rattle.graph.specs.declared.symbol.Symbol.{Symbol}
use Rattle.graph.specs.Symbols.{index_of, AreSymbols, Labels}

-- the symbol is of this kind and position
abbrev pub IsAt : ℕ → ℕ → Symbol → Type 0
IsAt kind position s = (index_of s.kind ≡ kind) × (s.position ≡ position)

-- the marks, kind by kind
abbrev pub rows_of : List (Vec Bool Global) → List (List Bool)
rows_of taken = map (λ row. row.items) taken

-- what a mark says
abbrev pub Tells : List Symbol → ℕ → ℕ → Bool → Type 0
Tells symbols kind position true = Any (IsAt kind position) symbols
Tells symbols kind position false = All (λ s. IsAt kind position s → ⊥) symbols

-- whether a position of a kind is marked
abbrev pub mark_at : List (List Bool) → ℕ → ℕ → Bool
mark_at taken kind position = slice_index_or (slice_index_or taken kind []) position false

pub record AreTaken (taken : List (List Bool)) (symbols : List Symbol) : Type 0 where
  pub kinds : length taken ≡ 7
  pub symbols_of : AreSymbols (map length taken) symbols
  pub tells : (kind position : ℕ) → Tells symbols kind position (mark_at taken kind position)

-- there is such a position, and it is not marked
abbrev pub IsUnmarked : List (List Bool) → ℕ → ℕ → Type 0
IsUnmarked taken kind position = (position < length (slice_index_or taken kind [])) × (mark_at taken kind position ≡ false)

-- the marks with one more
abbrev pub marked_at : List (List Bool) → ℕ → ℕ → List (List Bool)
marked_at taken kind position = slice_set taken kind (slice_set (slice_index_or taken kind []) position true)

-- what the symbols and the rows of marks are seen as
abbrev pub labels_of : List (List Bool) → List Symbol → Labels
labels_of taken symbols = record { counts = map length taken; symbols = symbols }
