-- Which text spells a certificate, version 1 or 2.
use Rattle.std.specs.Prelude.{◌≡◌, ◌≢◌, ℕ, ◌+◌, ◌*◌, ◌<◌, ◌≤◌, List, [], ◌∷◌, ◌++◌, All, length, flat_map, take, drop, codes, decimal, Option, Some, None, IfSome, Result, MatchResult}
use Rattle.base.specs.Devices.{PutsBeginning}
use Rattle.base.specs.Witness.{witness}
use Rattle.graph.specs.declared.circuit.Lit.{Lit}
use Rattle.graph.specs.Circuits.{position_of, property_text}
use Rattle.lrat.specs.declared.line.Line.{Line}
use Rattle.lrat.specs.Limits.{IsLine}
use Rattle.lrat.specs.Texts.{proof_text}
use Rattle.certificate.specs.declared.certificate.Certificate.{Certificate}
use Rattle.certificate.specs.declared.cert_error.CertError.{CertError}
use Rattle.certificate.specs.declared.cert_error.CertError.TheVariants.{OutOfMemory}
use Rattle.certificate.specs.declared.cert_write_error.CertWriteError.{CertWriteError}
use Rattle.certificate.specs.declared.cert_write_error.CertWriteError.TheVariants.{Sections, Number, Device}

-- a number on a line of its own
abbrev pub number_line : ℕ → List ℕ
number_line n = decimal n ++ codes "\n"

-- how many literals a clause has, and the literals, a space before each
abbrev pub clause_line : List Lit → List ℕ
clause_line c = decimal (length c) ++ flat_map (λ a. codes " " ++ decimal a.0) c ++ codes "\n"

-- a letter on a line of its own, the lines of a proof, and a line with a dot
abbrev pub section_text : ℕ → List Line → List ℕ
section_text letter proof = letter ∷ codes "\n" ++ proof_text proof ++ codes ".\n"

-- the first line, with the version: 2 where there is a section of lemmas
abbrev pub first_line : Option (List Line) → List ℕ
first_line None = codes "aigcert 1\n"
first_line (Some lemmas) = codes "aigcert 2\n"

-- the section of the lemmas, where there is one
abbrev pub lemma_text : Option (List Line) → List ℕ
lemma_text None = []
lemma_text (Some lemmas) = section_text 108 lemmas

-- for n clauses the sections of the n initial cases, those of the n step cases, and what is left, of the bad case
abbrev pub sections_text : ℕ → List (List Line) → List ℕ
sections_text n proofs =
    flat_map (section_text 105) (take n proofs)
    ++ flat_map (section_text 115) (take n (drop n proofs))
    ++ flat_map (section_text 98) (drop (n + n) proofs)

-- the version, the property, how many clauses there are, the clauses, the lemmas, and the sections
abbrev pub certificate_text : Certificate → List ℕ
certificate_text c =
    first_line c.lemmas ++ property_text c.property ++ codes "\n"
    ++ number_line (length c.invariant) ++ flat_map clause_line c.invariant
    ++ lemma_text c.lemmas ++ sections_text (length c.invariant) c.sections

-- two sections for each clause, and one more, the lemmas not counted; numbers and counts in their limits
pub record IsCertificate (c : Certificate) : Type 0 where
  pub sections : length c.sections ≡ 2 * length c.invariant + 1
  pub few : length c.invariant ≤ 4194303
  pub short : All (λ clause. length clause ≤ 4194303) c.invariant
  pub position : position_of c.property < 4294967296
  pub literals : All (All (λ a. a.0 < 4294967296)) c.invariant
  pub lemmas : IfSome c.lemmas (All IsLine)
  pub lines : All (All IsLine) c.sections

-- the text is the certificate's, which has one
pub record SpellsCertificate (text : List ℕ) (c : Certificate) : Type 0 where
  pub spells : text ≡ certificate_text c
  pub within : IsCertificate c

-- this certificate is read, unless memory runs out
abbrev pub IsRead : Result Certificate CertError → Certificate → Type 0
IsRead result c = MatchResult result (λ d. d ≡ c) (λ e. e ≡ OutOfMemory witness)

-- why a certificate is not written: another number of sections, or else a count over its limit; or the device failed after
-- a beginning
abbrev pub IsUnwritten : Certificate → Option (List ℕ) → Option (List ℕ) → CertWriteError → Type 0
IsUnwritten c before after (Sections found) = (found ≡ length c.sections) × (length c.sections ≢ 2 * length c.invariant + 1)
IsUnwritten c before after Number = (length c.sections ≡ 2 * length c.invariant + 1) × (IsCertificate c → ⊥)
IsUnwritten c before after Device = IsCertificate c × PutsBeginning before after (certificate_text c)
