-- What of a circuit can be shown, and how it is called.
use Rattle.std.specs.Prelude.{◌≡◌, ℕ, ◌<◌, ◌==◌, ◌||◌, not, Bool, false, List, [], ◌∷◌, ◌++◌, Option, Some, None, length, map, slice_index_or, codes, decimal, All, Any, filter}
use Rattle.graph.specs.declared.circuit.Lit.{Lit}
use Rattle.graph.specs.declared.symbol.Symbol.{Symbol}
use Rattle.graph.specs.declared.symbol.SymbolKind.{SymbolKind}
use Rattle.graph.specs.declared.symbol.SymbolKind.TheVariants.{Input, Latch, Output, Bad, Constraint, Justice, Fairness}
use Rattle.graph.specs.File.{File}
use Rattle.std.specs.List.Sorted.{IsPermutation}
use Rattle.wave_signals.specs.declared.bits.Bit.{Bit}

-- the letter of a kind
abbrev pub letter_of : SymbolKind → List ℕ
letter_of Input = codes "i"
letter_of Latch = codes "l"
letter_of Output = codes "o"
letter_of Bad = codes "b"
letter_of Constraint = codes "c"
letter_of Justice = codes "j"
letter_of Fairness = codes "f"

-- the name of what stands at a position of its kind, where its symbol's name is given, or none
abbrev pub name_text : SymbolKind → ℕ → List ℕ → List ℕ
name_text kind position [] = letter_of kind ++ decimal position
name_text kind position (byte ∷ name) = byte ∷ name

-- the name of a bit
abbrev pub bit_name : Bit → List ℕ
bit_name b = name_text b.kind b.position b.name.now

-- the name is the base alone, or the base with an index in brackets
abbrev pub IsSplit : List ℕ → List ℕ → Option ℕ → Type 0
IsSplit name base None = name ≡ base
IsSplit name base (Some index) = name ≡ base ++ codes "[" ++ decimal index ++ codes "]"

-- the symbol names what stands at this position of the kind
abbrev pub IsOf : SymbolKind → ℕ → Symbol → Type 0
IsOf kind position s = (s.kind ≡ kind) × (s.position ≡ position)

-- the symbol's name of what stands at this position of the kind, or none where no symbol names it
abbrev pub IsNameOf : List Symbol → SymbolKind → ℕ → List ℕ → Type 0
IsNameOf symbols kind position [] = All (λ s. IsOf kind position s → ⊥) symbols
IsNameOf symbols kind position (byte ∷ name) = Any (λ s. IsOf kind position s × (s.name ≡ byte ∷ name)) symbols

-- the bit is the literal at this position of the kind, with its symbol's name
pub record IsBit (symbols : List Symbol) (kind : SymbolKind) (position : ℕ) (lit : Lit) (b : Bit) : Type 0 where
  pub kind_is : b.kind ≡ kind
  pub position_is : b.position ≡ position
  pub lit_is : b.lit ≡ lit
  pub named : IsNameOf symbols kind position b.name.now
  pub split : IsSplit b.name.now b.base.now b.index

-- a bit for each literal of a kind, in their order
pub record AreBits (symbols : List Symbol) (kind : SymbolKind) (lits : List Lit) (bits : List Bit) : Type 0 where
  pub long : length bits ≡ length lits
  pub each : (k : ℕ) (a : Lit) (b : Bit) → k < length lits → IsBit symbols kind k (slice_index_or lits k a) (slice_index_or bits k b)

-- the bits of a file: inputs, latches, outputs, bad literals, constraints and fairness literals
pub record AreAllBits (f : File) (bits : List Bit) : Type 0 where
  pub inputs : List Bit
  pub latches : List Bit
  pub outputs : List Bit
  pub bad : List Bit
  pub constraints : List Bit
  pub fairness : List Bit
  pub are_inputs : AreBits f.symbols Input f.model.inputs inputs
  pub are_latches : AreBits f.symbols Latch (map (λ l. l.lit) f.model.latches) latches
  pub are_outputs : AreBits f.symbols Output f.model.outputs outputs
  pub are_bad : AreBits f.symbols Bad f.model.bad bad
  pub are_constraints : AreBits f.symbols Constraint f.model.constraints constraints
  pub are_fairness : AreBits f.symbols Fairness f.model.fairness fairness
  pub whole : bits ≡ inputs ++ latches ++ outputs ++ bad ++ constraints ++ fairness

-- the name begins with a dollar sign
abbrev pub is_hidden_name : List ℕ → Bool
is_hidden_name [] = false
is_hidden_name (byte ∷ name) = byte == 36

-- the bits that are shown: all, or those whose name does not begin with a dollar sign
abbrev pub shown_of : Bool → List Bit → List Bit
shown_of all bits = filter (λ b. all || not (is_hidden_name b.name.now)) bits

-- the bits of the file that are shown, in some order
pub record AreShown (f : File) (all : Bool) (bits : List Bit) : Type 0 where
  pub every : List Bit
  pub are_all : AreAllBits f every
  pub same : IsPermutation (shown_of all every) bits
