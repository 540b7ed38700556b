-- What a reader over a source finds.
use Rattle.std.specs.Prelude.{◌≡◌, ℕ, List, ◌++◌, Some, None, Result, Ok, Err}
use Rattle.scan.specs.Reading.{◌>>=◌, Read}
use Rattle.scan.specs.Bytes.{byte_at}
use Rattle.graph.specs.declared.circuit.Lit.{Lit}
use Rattle.graph.specs.declared.circuit.Property.{Property as AProperty}
use Rattle.certificate.specs.declared.cert_error.CertError.TheVariants.{OutOfMemory}
use Rattle.certificate.specs.declared.certificate.Certificate.{Certificate}
use Rattle.certificate.specs.declared.head.Version.{Version}
use Rattle.certificate.specs.Reading.{lemmas_at, sections_at}
use Rattle.certificate.specs.declared.kinds.SectionKind.{SectionKind}
use Rattle.certificate.specs.declared.kinds.SectionKind.TheVariants.{Lemmas, Initial, Step, Bad}
use Rattle.certificate.specs.declared.reader_error.ReaderError.{ReaderError}
use Rattle.certificate.specs.declared.reader_error.ReaderError.TheVariants.{Refused, Device}

-- out of memory and a failing device aside, this holds of a refusal
abbrev pub ForText : ReaderError → Type 0 → Type 0
ForText (Refused (OutOfMemory refused)) P = Unit {0}
ForText (Refused other) P = P
ForText Device P = Unit {0}

-- what is read, with what was answered, is of P, and what follows it are the bytes that are held, and then the later ones of the
-- source; or nothing is read
abbrev pub FindsWith : {A X : Type 0} → (A → X → Type 0) → Read A → Result X ReaderError → List ℕ → List ℕ → Type 0
FindsWith P read (Ok x) held later = (a : _) × (read ≡ Some (a, held ++ later)) × P a x
FindsWith P read (Err e) held later = ForText e (read ≡ None)

-- what is read was answered, and what follows it are the bytes that are held, and then the later ones; or nothing is read
abbrev pub Finds : {A : Type 0} → Read A → Result A ReaderError → List ℕ → List ℕ → Type 0
Finds read (Ok x) held later = read ≡ Some (x, held ++ later)
Finds read (Err e) held later = ForText e (read ≡ None)

-- ---- what is read of lines

-- the letter of a section
abbrev pub letter_of : SectionKind → ℕ
letter_of Lemmas = 108
letter_of Initial = 105
letter_of Step = 115
letter_of Bad = 98

-- the line with which a section begins
unfoldable pub letter_at : SectionKind → List ℕ → Read (Unit {0})
letter_at kind bytes = byte_at (letter_of kind) bytes >>= λ behind. (byte_at 10 behind >>= λ rest. Some (tt, rest))

-- the lemmas and the sections behind the clauses, and the certificate that ends with them
unfoldable pub parts_at : Version → AProperty → ℕ → List (List Lit) → List ℕ → Read Certificate
parts_at version property count invariant bytes = do
  lemmas ← lemmas_at version bytes
  sections ← sections_at count lemmas.1
  Some (record { property = property; invariant = invariant; lemmas = lemmas.0; sections = sections.0 }, sections.1)

-- ---- lists that are read one value after the other

-- these values were read of a list that is read, and the others are read of the bytes that are held, and then the later ones
abbrev pub StillReads : {A : Type 0} → Read (List A) → List A → (List ℕ → Read (List A)) → List ℕ → List ℕ → Type 0
StillReads read front others held later = (others (held ++ later) >>= λ x. Some (front ++ x.0, x.1)) ≡ read
