-- A text in which latches have their own literals as resets, in place of functions.
use Rattle.std.specs.Prelude.{◌≡◌, ℕ, ◌+◌, ◌-◌, ◌*◌, ◌||◌, List, [], ◌∷◌, ◌++◌, length, take, Option, Some, None, nat_le, ◌==◌, if◌then◌else◌}
use Rattle.scan.specs.Reading.{◌>>=◌}
use Rattle.scan.specs.Lists.{Each, many_at}
use Rattle.graph.specs.declared.circuit.Lit.{Lit}
use Rattle.aag.specs.declared.header.Header.{Header}
use Rattle.aag.specs.Lines.{lit}
use Rattle.reset_functions.specs.declared.latch_lines.LatchText.{LatchText}
use Rattle.reset_functions.specs.Lines.{IsLine, front_at, is_binary, line_at, line_text}

-- the literal of a latch: the one that stands in its line, or else that of this variable
abbrev pub literal_of : Option Lit → ℕ → Lit
literal_of None v = lit (2 * v)
literal_of (Some a) v = a

-- a reset that is none of 0, 1 and the latch's own literal
abbrev pub function_of : Lit → Option Lit → Option Lit
function_of own None = None
function_of own (Some a) = if nat_le a.0 1 || (a.0 == own.0) then None else Some a

-- the reset, with the latch's own literal in place of a function
abbrev pub reset_for : Lit → Option Lit → Option Lit → Option Lit
reset_for own reset None = reset
reset_for own reset (Some a) = Some own

-- the function that a latch's line has, where the variable is this one in the binary layout
abbrev pub function_in : ℕ → LatchText → Option Lit
function_in v l = function_of (literal_of l.own v) l.reset

-- its line without it
abbrev pub plain_line : ℕ → LatchText → List ℕ
plain_line v l = line_text l (reset_for (literal_of l.own v) l.reset (function_in v l))

-- the lines of latches without functions, from this variable on
abbrev pub plain_lines : ℕ → List LatchText → List ℕ
plain_lines v [] = []
plain_lines v (l ∷ ls) = plain_line v l ++ plain_lines (v + 1) ls

-- for each latch line its function
abbrev pub functions_in : ℕ → List LatchText → List (Option Lit)
functions_in v [] = []
functions_in v (l ∷ ls) = function_in v l ∷ functions_in (v + 1) ls

-- the text without functions, and the functions; none where it is no circuit up to its last latch line
unfoldable pub plain_at : List ℕ → Option (List ℕ × List (Option Lit))
plain_at text = do
  front ← front_at (is_binary text) text
  lines ← many_at (line_at (record { is_binary = is_binary text; max_var = front.0.max_var })) front.0.latches front.1
  Some (take (length text - length front.1) text ++ plain_lines (front.0.inputs + 1) lines.0 ++ lines.1, functions_in (front.0.inputs + 1) lines.0)

-- the texts have a common front, a header and in ASCII the lines of inputs, and a common end; between them stands a line for
-- each latch that the header states, with its reset, and in the plain text with the latch's own literal in place of a function
pub record Replaces (text plain : List ℕ) (resets : List (Option Lit)) : Type 0 where
  pub header : Header
  pub front : List ℕ
  pub latches : List ℕ
  pub lines : List LatchText
  pub behind : List ℕ
  pub is_text : text ≡ front ++ latches ++ behind
  pub is_plain : plain ≡ front ++ plain_lines (header.inputs + 1) lines ++ behind
  pub is_front : front_at (is_binary text) text ≡ Some (header, latches ++ behind)
  pub count : length lines ≡ header.latches
  pub each_latch : Each (IsLine (record { is_binary = is_binary text; max_var = header.max_var })) latches lines
  pub are : resets ≡ functions_in (header.inputs + 1) lines
