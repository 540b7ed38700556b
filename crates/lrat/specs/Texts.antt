-- Texts of lines and of proofs (LRAT, 2017).
use Rattle.base.specs.Witness.{witness}
use Rattle.std.specs.Prelude.{◌≡◌, ℕ, ◌-◌, List, ◌++◌, Option, Result, MatchResult, codes, decimal, flat_map}
use Rattle.std.specs.Fmt.{signed_decimal}
use Rattle.std.specs.Io.KnownBytes.{Appends}
use Rattle.base.specs.Devices.{PutsBeginning}
use Rattle.scan.specs.Lists.{Each}
use Rattle.scan.specs.declared.fault.Fault.{Fault}
use Rattle.scan.specs.declared.fault.Fault.TheVariants.{Memory, Text}
use Rattle.lrat.specs.Limits.{IsLine}
use Rattle.lrat.specs.declared.line.Line.{Line}
use Rattle.lrat.specs.declared.line.Line.TheVariants.{Add, Delete}
use Rattle.lrat.specs.declared.lrat_error.LratError.{LratError}
use Rattle.lrat.specs.declared.lrat_error.LratError.TheVariants.{Number, Byte, Truncated, OutOfMemory}
use Rattle.lrat.specs.declared.text.LratFault.{LratFault}
use Rattle.lrat.specs.declared.text.LratFault.TheVariants.{Number as NoNumber, Byte as OtherByte, Truncated as EndsEarly}

-- numbers one after another, a space behind each
abbrev pub spaced : {A : Type 0} → (A → List ℕ) → List A → List ℕ
spaced text xs = flat_map (λ x. text x ++ codes " ") xs

-- the line `id literals 0 hints 0`, or the line `id d ids 0`
abbrev pub line_text : Line → List ℕ
line_text (Add id clause hints) = decimal id ++ codes " " ++ spaced signed_decimal clause ++ codes "0 " ++ spaced signed_decimal hints ++ codes "0\n"
line_text (Delete id ids) = decimal id ++ codes " d " ++ spaced decimal ids ++ codes "0\n"

-- lines one after another
abbrev pub proof_text : List Line → List ℕ
proof_text lines = flat_map line_text lines

-- the text is the line's, which is without zeros and in the limits
pub record SpellsLine (text : List ℕ) (line : Line) : Type 0 where
  pub spells : text ≡ line_text line
  pub within : IsLine line

-- the text is that of the lines, one after another
abbrev pub SpellsProof : List ℕ → List Line → Type 0
SpellsProof text lines = Each SpellsLine text lines

-- this value is read, unless memory runs out
abbrev pub IsRead : {V : Type 0} → Result V LratError → V → Type 0
IsRead result value = MatchResult result (λ v. v ≡ value) (λ e. e ≡ OutOfMemory witness)

-- the error for a fault in a text of this number of bytes
abbrev pub error_of : ℕ → Fault LratFault → LratError
error_of length (Memory refused) = (OutOfMemory witness)
error_of length (Text NoNumber left) = Number (length - left)
error_of length (Text OtherByte left) = Byte (length - left)
error_of length (Text EndsEarly left) = Truncated (length - left)

-- the text was put, or after a failure a beginning of it
abbrev pub Puts : {X E : Type 0} → Result X E → Option (List ℕ) → Option (List ℕ) → List ℕ → Type 0
Puts result before after text = MatchResult result (λ _. Appends before after text) (λ _. PutsBeginning before after text)
