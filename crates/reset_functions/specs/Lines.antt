-- The lines of latches whose resets may be any literals.
use Rattle.std.specs.Prelude.{◌≡◌, ℕ, ◌+◌, Bool, true, false, List, [], ◌∷◌, ◌++◌, Option, Some, None, decimal, codes, nat_lt, ◌==◌, if◌then◌else◌, slice_index_or}
use Rattle.scan.specs.Reading.{◌>>=◌, Read}
use Rattle.scan.specs.Words.{any, field_at}
use Rattle.scan.specs.Lists.{many_at}
use Rattle.graph.specs.declared.circuit.Lit.{Lit}
use Rattle.aag.specs.declared.header.Header.{Header}
use Rattle.aag.specs.Lines.{lit, literal_at, most, next_at}
use Rattle.aag.specs.Sections.{header_at}
use Rattle.aag.specs.Spelling.{IsCircuitLiteral}
use Rattle.reset_functions.specs.declared.latch_lines.LineForm.{LineForm}
use Rattle.reset_functions.specs.declared.latch_lines.LatchText.{LatchText}

-- ---- how they are read

-- the text's second byte is `i`, as in `aig`
abbrev pub is_binary : List ℕ → Bool
is_binary text = slice_index_or text 1 0 == 105

-- a header that begins with this word, with variables for its inputs and latches
unfoldable pub header_in : List ℕ → List ℕ → Read Header
header_in word bytes = do
  h ← header_at word bytes
  if nat_lt h.0.max_var (h.0.inputs + h.0.latches) then None else Some h

-- the header, and in ASCII the lines of inputs
unfoldable pub front_at : Bool → List ℕ → Read Header
front_at true bytes = header_in (codes "aig ") bytes
front_at false bytes = do
  h ← header_in (codes "aag ") bytes
  inputs ← many_at (literal_at h.0.max_var any 10) h.0.inputs h.1
  Some (h.0, inputs.1)

-- a latch's literal and a space, or nothing in the binary layout
abbrev pub own_at : Bool → ℕ → List ℕ → Read (Option Lit)
own_at true max bytes = Some (None, bytes)
own_at false max bytes = field_at (most max) any 32 bytes >>= λ own. Some (Some (lit own.0), own.1)

-- a reset and the line end, or nothing where the line has ended
abbrev pub reset_at : ℕ → ℕ → List ℕ → Read (Option Lit)
reset_at max end bytes =
    if end == 10 then Some (None, bytes) else (field_at (most max) any 10 bytes >>= λ reset. Some (Some (lit reset.0), reset.1))

unfoldable pub line_at : LineForm → List ℕ → Read LatchText
line_at form bytes = do
  own ← own_at form.is_binary form.max_var bytes
  next ← next_at form.max_var own.1
  reset ← reset_at form.max_var next.0.1 next.1
  Some (record { own = own.0; next = next.0.0; reset = reset.0 }, reset.1)

-- ---- what they are

abbrev pub own_text : Option Lit → List ℕ
own_text None = []
own_text (Some a) = decimal a.0 ++ 32 ∷ []

abbrev pub reset_text : Option Lit → List ℕ
reset_text None = []
reset_text (Some a) = 32 ∷ decimal a.0

-- a latch's line with this reset
abbrev pub line_text : LatchText → Option Lit → List ℕ
line_text l reset = own_text l.own ++ decimal l.next.0 ++ reset_text reset ++ 10 ∷ []

-- the literal of a latch stands in its line, but not in the binary layout
abbrev pub HasOwn : Bool → ℕ → Option Lit → Type 0
HasOwn true max None = Unit {0}
HasOwn true max (Some a) = ⊥
HasOwn false max None = ⊥
HasOwn false max (Some a) = IsCircuitLiteral max a

-- a reset is any literal
abbrev pub HasReset : ℕ → Option Lit → Type 0
HasReset max None = Unit {0}
HasReset max (Some a) = IsCircuitLiteral max a

-- a text is a latch's line
pub record IsLine (form : LineForm) (text : List ℕ) (l : LatchText) : Type 0 where
  pub spells : text ≡ line_text l l.reset
  pub own : HasOwn form.is_binary form.max_var l.own
  pub next : IsCircuitLiteral form.max_var l.next
  pub reset : HasReset form.max_var l.reset
