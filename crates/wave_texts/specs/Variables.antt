-- Variables of a waveform: a signal's code, its name and its place in a vector, in its scopes.
use Rattle.std.specs.Prelude.{ℕ, ◌+◌, ◌-◌, List, [], ◌∷◌, ◌++◌, Option, Some, None, length, codes, decimal}
use Rattle.graph.specs.declared.symbol.SymbolKind.{SymbolKind}
use Rattle.wave_signals.specs.declared.bits.Bit.{Bit}
use Rattle.wave_signals.specs.Bits.{letter_of}
use Rattle.wave_signals.specs.Signals.{range_text}
use Rattle.wave_texts.specs.Scopes.{closed, last_of, moved, part_text, path_of}

-- the name of what has no symbol
abbrev pub plain_name : SymbolKind → ℕ → List ℕ
plain_name kind position = letter_of kind ++ decimal position

-- the code of a variable, by which the dump calls it: the plain name of its lowest bit
abbrev pub code_of : List Bit → List ℕ
code_of [] = []
code_of (b ∷ bits) = plain_name b.kind b.position

-- what a variable is called in its scope: its name behind the last dot, or where it has none the plain name
abbrev pub called_text : SymbolKind → ℕ → List ℕ → List ℕ
called_text kind position [] = plain_name kind position
called_text kind position (c ∷ name) = part_text (last_of (c ∷ name))

-- the greatest and the lowest index of n bits in their vector
abbrev pub indices_text : ℕ → Option ℕ → List ℕ
indices_text n None = []
indices_text n (Some low) = codes " " ++ range_text (low + n - 1) low

-- what declares a variable of n bits, of which this is the first
abbrev pub declared_text : Bit → ℕ → List ℕ
declared_text b n =
    (codes "$var wire " ++ decimal n) ++ ((codes " " ++ plain_name b.kind b.position) ++ ((codes " " ++ called_text b.kind b.position b.base.now) ++ (indices_text n b.index ++ codes " $end\n")))

-- what declares the variable of a signal of these bits
abbrev pub variable_text : List Bit → List ℕ
variable_text [] = []
variable_text (b ∷ bits) = declared_text b (length (b ∷ bits))

-- the path of a signal of these bits
abbrev pub scopes_of : List Bit → List ℕ
scopes_of [] = []
scopes_of (b ∷ bits) = path_of b.base.now

-- the variables of the signals, each in its scopes, behind the scopes of a path
abbrev pub variables_text : List ℕ → List (List Bit) → List ℕ
variables_text path [] = closed path
variables_text path (bits ∷ signals) = (moved path (scopes_of bits) ++ variable_text bits) ++ variables_text (scopes_of bits) signals
