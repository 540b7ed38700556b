-- Which text spells the clauses of an invariant.
use Rattle.std.specs.Prelude.{◌≡◌, ◌⊎◌, ℕ, ◌<◌, List, [], ◌∷◌, ◌++◌, All, flat_map, codes, decimal, Result, MatchResult}
use Rattle.base.specs.Witness.{witness}
use Rattle.scan.specs.Lists.{Each}
use Rattle.graph.specs.declared.circuit.Lit.{Lit}
use Rattle.certificate.specs.declared.certificate.Certificate.{Certificate}
use Rattle.certificate.specs.Texts.{SpellsCertificate}
use Rattle.invariant.specs.declared.invariant_error.InvariantError.{InvariantError}
use Rattle.invariant.specs.declared.invariant_error.InvariantError.TheVariants.{OutOfMemory}

-- a space and a literal
abbrev pub literal_text : Lit → List ℕ
literal_text a = codes " " ++ decimal a.0

-- the literals of a clause, a space between two, and a line end
abbrev pub clause_line : List Lit → List ℕ
clause_line [] = codes "\n"
clause_line (a ∷ rest) = decimal a.0 ++ (flat_map literal_text rest ++ codes "\n")

-- literals below 2 ^ 32
abbrev pub AreSmall : List Lit → Type 0
AreSmall c = All (λ a. a.0 < 4294967296) c

-- the text is the line of a clause of such literals
pub record SpellsClause (text : List ℕ) (c : List Lit) : Type 0 where
  pub spells : text ≡ clause_line c
  pub small : AreSmall c

-- the text is the lines of the clauses, one after another
abbrev pub SpellsClauses : List ℕ → List (List Lit) → Type 0
SpellsClauses text cs = Each SpellsClause text cs

-- the text is a certificate, of these clauses
abbrev pub OfCertificate : List ℕ → List (List Lit) → Type 0
OfCertificate text cs = (c : Certificate) × SpellsCertificate text c × (c.invariant ≡ cs)

-- the text spells the clauses, a line for each or in a certificate
abbrev pub SpellsInvariant : List ℕ → List (List Lit) → Type 0
SpellsInvariant text cs = SpellsClauses text cs ⊎ OfCertificate text cs

-- these clauses are read, unless memory runs out
abbrev pub IsRead : Result (List (List Lit)) InvariantError → List (List Lit) → Type 0
IsRead result cs = MatchResult result (λ ds. ds ≡ cs) (λ e. e ≡ OutOfMemory witness)
