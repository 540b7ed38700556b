-- What an answer about the text of a certificate says, where it was checked while it was read.
use Rattle.base.specs.Witness.{witness}
use Rattle.std.proofs.Common.{◌≡◌, ℕ, List, Some, None, inl, inr, refl, sym, subst}
use Rattle.certificate.specs.Numbers.{number_of as certificate_number}
use Rattle.graph.specs.declared.circuit.Property.{Property}
use Rattle.graph.specs.File.{File}
use Rattle.aiger.specs.Loading.{IsFileOf}
use Rattle.certificate.specs.declared.cert_error.CertError.{CertError}
use Rattle.certificate.specs.declared.cert_error.CertError.TheVariants as text
use Rattle.certificate.specs.declared.reader_error.ReaderError.{ReaderError}
use Rattle.certificate.specs.declared.reader_error.ReaderError.TheVariants.{Refused, Device}
use Rattle.certificate.specs.Streams.{ForText}
use Rattle.certificate3.specs.Formats.{Certified, SpellsCertified, earlier, third}
use Rattle.checker.specs.AnswerErrors.{IsAnswerError, error_of_reader}
use Rattle.checker.specs.AnyVersion.{IsFoundOf, named_property}
use Rattle.checker.specs.Verdicts.{Accepts, IsCertificateOf, IsNotAccepted, IsRefusal, SpellsNoCertificate}
use Rattle.checker.proofs.CertificateLaws.{accepts, one_certified}

-- the one certificate of the text
pub only_certificate : (ys : List ℕ) (c : Certified) → SpellsCertified ys c → IsCertificateOf ys c
only_certificate ys c spells = record { spells = spells; only = λ d other. one_certified ys d c other spells }

-- no certificate has the text
spells_none : (ys : List ℕ) (e : CertError) → (e ≡ text.OutOfMemory witness → ⊥) → ((c : Certified) → SpellsCertified ys c → ⊥) → SpellsNoCertificate ys (certificate_number e)
spells_none ys e other none = record { none = none; error = e; other = other; number = refl }

pub reader_stops : (xs ys : List ℕ) (f : File) (e : ReaderError) → IsFileOf xs f → ForText e ((c : Certified) → SpellsCertified ys c → ⊥) → IsAnswerError (IsRefusal xs ys) (error_of_reader e)
reader_stops xs ys f (Refused (text.OutOfMemory refused)) first none = tt
reader_stops xs ys f (Refused (text.Number place)) first none = inr (inl (f, first, spells_none ys (text.Number place) (λ m. absurd cc) none))
reader_stops xs ys f (Refused (text.Byte place)) first none = inr (inl (f, first, spells_none ys (text.Byte place) (λ m. absurd cc) none))
reader_stops xs ys f (Refused (text.Truncated place)) first none = inr (inl (f, first, spells_none ys (text.Truncated place) (λ m. absurd cc) none))
reader_stops xs ys f (Refused (text.Version place)) first none = inr (inl (f, first, spells_none ys (text.Version place) (λ m. absurd cc) none))
reader_stops xs ys f (Refused (text.PropertyLine place)) first none = inr (inl (f, first, spells_none ys (text.PropertyLine place) (λ m. absurd cc) none))
reader_stops xs ys f (Refused (text.Section place)) first none = inr (inl (f, first, spells_none ys (text.Section place) (λ m. absurd cc) none))
reader_stops xs ys f Device first none = tt

-- a certificate that was read and found
pub found_none : (xs ys : List ℕ) (f : File) (c : Certified) (p : Property) → IsFileOf xs f → SpellsCertified ys c → p ≡ named_property c → IsFoundOf f.model c None → Accepts xs ys p
found_none xs ys f c p first spells same accepted = subst (λ (q : Property). Accepts xs ys q) (sym same) (accepts xs ys f c first spells accepted)

not_accepted : (f : File) (c : Certified) (n : ℕ) → IsFoundOf f.model c (Some n) → IsNotAccepted f c n
not_accepted f (earlier c) n (e, ne, cause, is) = record { error = e; other = ne; cause = cause; number = is }
not_accepted f (third c) n (r, cause, is) = record { refusal = r; cause = cause; number = is }

pub found_some : (xs ys : List ℕ) (f : File) (c : Certified) (n : ℕ) → IsFileOf xs f → SpellsCertified ys c → IsFoundOf f.model c (Some n) → IsRefusal xs ys n
found_some xs ys f c n first spells found = inr (inr (f, c, first, only_certificate ys c spells, not_accepted f c n found))
