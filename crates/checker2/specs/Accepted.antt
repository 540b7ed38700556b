-- When a certificate, of version 1 or 2, is accepted for a circuit.
use Rattle.std.specs.Prelude.{◌≡◌, ◌≢◌, ℕ, ◌+◌, ◌*◌, ◌<◌, ◌≤◌, List, [], ◌∷◌, ◌++◌, map, length, slice_index_or, All, AllPairs, ℤ, Option, None, Some}
use Rattle.graph.specs.declared.circuit.Lit.{Lit}
use Rattle.graph.specs.declared.circuit.Property.{Property}
use Rattle.graph.specs.declared.circuit.Property.TheVariants.{Bad, Justice, Output}
use Rattle.graph.specs.declared.parts.Parts.{Parts}
use Rattle.graph.specs.Circuits.{HasProperty, variable, IsUpheld}
use Rattle.graph.specs.WellFormed.{IsWellFormed}
use Rattle.lrat.specs.declared.line.Line.{Line}
use Rattle.lrat.specs.Lemmas.{Extends, base_at}
use Rattle.lrat.specs.Limits.{IsLine}
use Rattle.lrat.specs.Proofs.{first_stage}
use Rattle.lrat.specs.Shared.{Base, base_of, IsAcceptedOver}
use Rattle.lrat.specs.Stages.{Stage}
use Rattle.cnf.specs.Clauses.{init_units, step_units, bad_units}
use Rattle.cnf.specs.Formulas.{IsOverLatches, start_formula, shared_formula}
use Rattle.live_safe.specs.Shadow.{closing_literal, shadow_of}
use Rattle.certificate.specs.declared.certificate.Certificate.{Certificate}

-- the clause is over the latches, and none of its literals is repeated or opposed
pub record IsGood (m : Parts) (c : List Lit) : Type 0 where
  pub over : IsOverLatches m c
  pub apart : AllPairs (λ u v. u ≢ v) (map variable c)

-- a case: the clauses that its section begins with, and its own units
pub record Case : Type 0 where
  pub base : Base
  pub units : List ℤ

-- the case of a clause at the initial states
abbrev pub init_case : Parts → List Lit → Case
init_case m c = record { base = base_of (start_formula m); units = init_units m c }

-- the case of a clause after a step, and the bad case, over what they all share
abbrev pub step_case : Parts → Base → List Lit → Case
step_case m b c = record { base = b; units = step_units m c }

abbrev pub bad_case : Parts → Base → Lit → Case
bad_case m b a = record { base = b; units = bad_units m a }

-- the cases of an invariant in the order of their sections: initial cases, step cases, and the bad case
abbrev pub cases : Parts → Base → List (List Lit) → Lit → List Case
cases m b inv a = map (init_case m) inv ++ map (step_case m b) inv ++ bad_case m b a ∷ []

-- what the step cases and the bad case share: the clauses of the circuit and the invariant, and in version 2 what the
-- lemmas, none of them the empty clause, leave of them and add
abbrev pub IsShared : Parts → List (List Lit) → Option (List Line) → Base → Type 0
IsShared m inv None b = b ≡ base_of (shared_formula m inv)
IsShared m inv (Some lemmas) b =
    (t : Stage) × All IsLine lemmas × Extends (m.max_var + 1) (first_stage (shared_formula m inv)) lemmas t × (b ≡ base_at (m.max_var + 1) t)

-- lines without zeros and in the limits, which refute the case
abbrev pub IsProofOf : Case → List Line → Type 0
IsProofOf c p = All IsLine p × IsAcceptedOver c.base c.units p

-- the first n proofs are of their cases, each of its own
abbrev pub RefuteBelow : List Case → List (List Line) → ℕ → Type 0
RefuteBelow cs ps n = (k : ℕ) → k < n → (c : Case) (p : List Line) → IsProofOf (slice_index_or cs k c) (slice_index_or ps k p)

-- the sections are proofs of the cases of the clauses, which are few and good, for a literal of the circuit
pub record IsAcceptedFor (m : Parts) (a : Lit) (c : Certificate) : Type 0 where
  pub few : length c.invariant ≤ 4194303
  pub count : length c.sections ≡ 2 * length c.invariant + 1
  pub clauses : All (IsGood m) c.invariant
  pub base : Base
  pub shared : IsShared m c.invariant c.lemmas base
  pub sections : RefuteBelow (cases m base c.invariant a) c.sections (length c.sections)

-- the circuit of which a certificate of the property speaks: the circuit itself, or for justice the shadow circuit, whose
-- one bad literal is set where there is a lasso
abbrev pub circuit_of : Parts → Property → Parts
circuit_of m (Bad n) = m
circuit_of m (Justice n) = shadow_of m n
circuit_of m (Output n) = m

-- its literal that no run is to set: the one that the property watches, or the shadow circuit's bad literal
abbrev pub bad_of : Parts → Property → Lit
bad_of m (Bad n) = slice_index_or m.bad n (record { 0 = 0 })
bad_of m (Justice n) = closing_literal m n
bad_of m (Output n) = slice_index_or m.outputs n (record { 0 = 0 })

-- the property exists, and its circuit has no variable over the limit
pub record IsShowable (m : Parts) (p : Property) : Type 0 where
  pub exists : HasProperty m p
  pub within : (circuit_of m p).max_var ≤ 4194303

-- the property exists, and the certificate is accepted for its circuit and literal
pub record IsAcceptedCertificate (m : Parts) (c : Certificate) : Type 0 where
  pub showable : IsShowable m c.property
  pub accepted : IsAcceptedFor (circuit_of m c.property) (bad_of m c.property) c

-- it is so where a certificate is accepted
abbrev pub AcceptedLaw : Type 0
AcceptedLaw = (m : Parts) (c : Certificate) → IsWellFormed m → IsAcceptedCertificate m c → IsUpheld m c.property
