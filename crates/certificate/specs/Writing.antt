-- What is written, and which certificates are not.
use Rattle.std.specs.Prelude.{◌≡◌, ◌≢◌, ℕ, ◌+◌, ◌*◌, List, ◌++◌, length, flat_map, codes, decimal}
use Rattle.graph.specs.declared.circuit.Lit.{Lit}
use Rattle.graph.specs.declared.circuit.Property.{Property}
use Rattle.graph.specs.declared.circuit.Property.TheVariants.{Bad, Justice, Output}
use Rattle.graph.specs.Circuits.{property_text}
use Rattle.certificate.specs.declared.certificate.Certificate.{Certificate}
use Rattle.certificate.specs.declared.cert_write_error.CertWriteError.{CertWriteError}
use Rattle.certificate.specs.declared.cert_write_error.CertWriteError.TheVariants.{Sections, Number, Device}
use Rattle.certificate.specs.Texts.{IsCertificate, first_line, number_line, clause_line}

-- why no text spells a certificate: another number of sections, or else a count over its limit
abbrev pub SpelledByNone : Certificate → CertWriteError → Type 0
SpelledByNone c (Sections found) = (found ≡ length c.sections) × (length c.sections ≢ 2 * length c.invariant + 1)
SpelledByNone c Number = (length c.sections ≡ 2 * length c.invariant + 1) × (IsCertificate c → ⊥)
SpelledByNone c Device = ⊥

-- the letter of a property's kind
abbrev pub letter_of : Property → ℕ
letter_of (Bad n) = 98
letter_of (Justice n) = 106
letter_of (Output n) = 111

-- a space and a literal
abbrev pub literal_text : Lit → List ℕ
literal_text a = codes " " ++ decimal a.0

-- the lines before the sections
abbrev pub head_text : Certificate → List ℕ
head_text c = first_line c.lemmas ++ property_text c.property ++ codes "\n" ++ number_line (length c.invariant) ++ flat_map clause_line c.invariant
