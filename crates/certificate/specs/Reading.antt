-- How the texts of certificates are read, step by step.
use Rattle.std.specs.Prelude.{ℕ, Bool, true, false, List, [], ◌∷◌, ◌++◌, Option, Some, None, codes}
use Rattle.scan.specs.Reading.{◌>>=◌, Read}
use Rattle.scan.specs.Numbers.{number_at}
use Rattle.scan.specs.Bytes.{byte_at, tag_at, choice_at}
use Rattle.scan.specs.Words.{any, field_at}
use Rattle.scan.specs.Lists.{many_at, items_at}
use Rattle.graph.specs.declared.circuit.Lit.{Lit}
use Rattle.graph.specs.declared.circuit.Property.{Property}
use Rattle.graph.specs.declared.circuit.Property.TheVariants.{Bad, Justice, Output}
use Rattle.lrat.specs.declared.line.Line.{Line}
use Rattle.lrat.specs.Reading.{line_at}
use Rattle.certificate.specs.declared.certificate.Certificate.{Certificate}
use Rattle.certificate.specs.declared.head.Version.{Version}
use Rattle.certificate.specs.declared.head.Version.TheVariants.{One, Two}

-- the greatest count
abbrev pub greatest : ℕ
greatest = 4194303

-- the digit of the version
unfoldable pub version_at : List ℕ → Read Version
version_at bytes = choice_at 50 (λ after. Some (Two, after)) (λ text. byte_at 49 text >>= λ after. Some (One, after)) bytes

-- the first line
unfoldable pub first_line_at : List ℕ → Read Version
first_line_at bytes = do
  digit ← tag_at (codes "aigcert ") bytes
  version ← version_at digit
  rest ← byte_at 10 version.1
  Some (version.0, rest)

-- the position of a bad literal, of a justice property, and the letter and the position of an output
unfoldable pub bad_at : List ℕ → Read Property
bad_at bytes = do
  n ← field_at 4294967295 any 10 bytes
  Some (Bad n.0, n.1)

unfoldable pub justice_at : List ℕ → Read Property
justice_at bytes = do
  n ← field_at 4294967295 any 10 bytes
  Some (Justice n.0, n.1)

unfoldable pub output_at : List ℕ → Read Property
output_at bytes = do
  rest ← byte_at 111 bytes
  n ← field_at 4294967295 any 10 rest
  Some (Output n.0, n.1)

-- the property's line
unfoldable pub property_at : List ℕ → Read Property
property_at bytes = choice_at 98 bad_at (choice_at 106 justice_at output_at) bytes

-- a space and a literal
unfoldable pub spaced_at : List ℕ → Read Lit
spaced_at bytes = do
  rest ← byte_at 32 bytes
  n ← number_at 4294967295 rest
  Some (record { 0 = n.0 }, n.1)

-- as many literals, and the line end
unfoldable pub literals_at : ℕ → List ℕ → Read (List Lit)
literals_at count bytes = do
  literals ← many_at spaced_at count bytes
  rest ← byte_at 10 literals.1
  Some (literals.0, rest)

-- a clause's line
unfoldable pub clause_at : List ℕ → Read (List Lit)
clause_at bytes = do
  count ← number_at greatest bytes
  literals_at count.0 count.1

-- a line of a section, or the line with a dot that ends it
unfoldable pub item_at : List ℕ → Read (Option Line)
item_at bytes = choice_at 46 (λ after. byte_at 10 after >>= λ rest. Some (None, rest)) (λ text. line_at text >>= λ line. Some (Some line.0, line.1)) bytes

-- the line that a buffer holds, where one was read
abbrev pub line_where : Bool → Line → Option Line
line_where true line = Some line
line_where false line = None

-- a line with the letter, and the lines up to the dot
unfoldable pub section_at : ℕ → List ℕ → Read (List Line)
section_at letter bytes = do
  behind ← byte_at letter bytes
  lines ← byte_at 10 behind
  items_at item_at lines

-- the section of the lemmas, which version 1 does not have
unfoldable pub lemmas_at : Version → List ℕ → Read (Option (List Line))
lemmas_at One bytes = Some (None, bytes)
lemmas_at Two bytes = section_at 108 bytes >>= λ lemmas. Some (Some lemmas.0, lemmas.1)

-- the sections for this number of clauses
unfoldable pub sections_at : ℕ → List ℕ → Read (List (List Line))
sections_at clauses bytes = do
  initial ← many_at (section_at 105) clauses bytes
  steps ← many_at (section_at 115) clauses initial.1
  bad ← section_at 98 steps.1
  Some (initial.0 ++ steps.0 ++ bad.0 ∷ [], bad.1)

unfoldable pub certificate_at : List ℕ → Read Certificate
certificate_at bytes = do
  version ← first_line_at bytes
  property ← property_at version.1
  count ← field_at greatest any 10 property.1
  invariant ← many_at clause_at count.0 count.1
  lemmas ← lemmas_at version.0 invariant.1
  sections ← sections_at count.0 lemmas.1
  Some (record { property = property.0; invariant = invariant.0; lemmas = lemmas.0; sections = sections.0 }, sections.1)
