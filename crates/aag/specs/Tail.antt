-- Which texts spell symbols and a comment (AIGER 1.9).
use Rattle.std.specs.Prelude.{◌≡◌, ◌≢◌, ℕ, ◌⊎◌, false, List, [], ◌∷◌, ◌++◌, decimal, Option, Some, None}
use Rattle.std.specs.Char.{is_ascii_digit}
use Rattle.graph.specs.declared.symbol.Symbol.{Symbol}
use Rattle.graph.specs.declared.symbol.SymbolKind.{SymbolKind}
use Rattle.graph.specs.declared.symbol.SymbolKind.TheVariants.{Input, Latch, Output, Bad, Constraint, Justice, Fairness}

-- the letter of a kind: i, l, o, b, c, j or f
abbrev pub letter_of : SymbolKind → ℕ
letter_of Input = 105
letter_of Latch = 108
letter_of Output = 111
letter_of Bad = 98
letter_of Constraint = 99
letter_of Justice = 106
letter_of Fairness = 102

-- a symbol's line
abbrev pub symbol_line : Symbol → List ℕ
symbol_line s = letter_of s.kind ∷ decimal s.position ++ 32 ∷ s.name ++ 10 ∷ []

abbrev pub IsSymbolLine : List ℕ → Symbol → Type 0
IsSymbolLine text s = text ≡ symbol_line s

-- neither a digit nor a line end comes first
abbrev pub BeginsApart : List ℕ → Type 0
BeginsApart [] = Unit {0}
BeginsApart (c ∷ cs) = (is_ascii_digit c ≡ false) × (c ≢ 10)

-- nothing, or a c, a line end and the comment; the line end may be left out before a comment that begins apart
abbrev pub IsComment : List ℕ → Option (List ℕ) → Type 0
IsComment text None = text ≡ []
IsComment text (Some comment) = (text ≡ 99 ∷ 10 ∷ comment) ⊎ ((text ≡ 99 ∷ comment) × BeginsApart comment)
