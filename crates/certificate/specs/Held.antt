-- What a reader holds of a text.
use Rattle.std.specs.Prelude.{ℕ, List, [], ◌∷◌, Option, Some, None, Result, Ok, Err}
use Rattle.certificate.specs.declared.cert_error.CertError.{CertError}
use Rattle.certificate.specs.declared.reader_error.ReaderError.{ReaderError}
use Rattle.certificate.specs.declared.reader_error.ReaderError.TheVariants.{Refused, Device}

-- the bytes that were taken and not read, and why the text is refused, once it is
pub record Held : Type 0 where
  pub held : List ℕ
  pub refusal : Option CertError

-- after a refusal a byte is left with which no part of a certificate begins
abbrev pub held_of : List ℕ → Option CertError → Held
held_of taken None = record { held = taken; refusal = None }
held_of taken (Some refusal) = record { held = 0 ∷ []; refusal = Some refusal }

-- the refusal that is remembered of an answer: a source that failed is asked again
abbrev pub refusal_of : {A : Type 0} → Result A ReaderError → Option CertError
refusal_of (Ok x) = None
refusal_of (Err (Refused refusal)) = Some refusal
refusal_of (Err Device) = None
