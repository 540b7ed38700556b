-- The line that is put.
use Rattle.std.specs.Prelude.{◌≡◌, ℕ, Bool, true, false, List, ◌++◌, codes, decimal, Option, Result, Ok, Err}
use Rattle.std.specs.Io.KnownBytes.{Appends}
use Rattle.base.specs.Devices.{PutsBeginning}
use Rattle.graph.specs.declared.circuit.Property.{Property}
use Rattle.graph.specs.Circuits.{property_text}
use Rattle.checker.specs.declared.line.Question.{Question}
use Rattle.checker.specs.declared.line.Question.TheVariants.{Safe, Run}
use Rattle.checker.specs.declared.answer_error.AnswerError.{AnswerError}
use Rattle.checker.specs.declared.answer_error.AnswerError.TheVariants.{No, OutOfMemory, Device}

-- how a yes begins: the certificate is accepted, or the stimulus shows its violation
abbrev pub yes_word : Question → List ℕ
yes_word Safe = codes "yes safe "
yes_word Run = codes "yes run "

abbrev pub yes_line : Question → Property → List ℕ
yes_line question p = yes_word question ++ property_text p ++ codes "\n"

abbrev pub no_line : ℕ → List ℕ
no_line n = codes "no " ++ decimal n ++ codes "\n"

-- yes with the property, or no with the number, and the line for it was put
abbrev pub Tells : Question → Result Property AnswerError → Bool → Option (List ℕ) → Option (List ℕ) → Type 0
Tells question (Ok p) said before after = (said ≡ true) × Appends before after (yes_line question p)
Tells question (Err (No n)) said before after = (said ≡ false) × Appends before after (no_line n)
Tells question (Err (OutOfMemory refused)) said before after = ⊥
Tells question (Err Device) said before after = ⊥

-- a beginning of the line was put
abbrev pub BeginsToTell : Question → Result Property AnswerError → Option (List ℕ) → Option (List ℕ) → Type 0
BeginsToTell question (Ok p) before after = PutsBeginning before after (yes_line question p)
BeginsToTell question (Err (No n)) before after = PutsBeginning before after (no_line n)
BeginsToTell question (Err (OutOfMemory refused)) before after = ⊥
BeginsToTell question (Err Device) before after = ⊥
