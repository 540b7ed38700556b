-- What a verdict on a property says.
use Rattle.std.specs.Prelude.{◌≡◌, ℕ, ◌≤◌, Bool, List, length}
use Rattle.base.specs.Budget.{Steps}
use Rattle.graph.specs.declared.circuit.Property.{Property}
use Rattle.graph.specs.declared.circuit.Property.TheVariants.{Bad, Justice}
use Rattle.graph.specs.declared.parts.Parts.{Parts}
use Rattle.graph.specs.WellFormed.{IsAlone}
use Rattle.stimulus.specs.declared.value.Stimulus.{Stimulus}
use Rattle.stimulus.specs.declared.value.Stimulus.TheVariants as stimulus
use Rattle.stimulus.specs.Shown.{Shows, ShowsBad, ShowsLasso}
use Rattle.stimulus.specs.Texts.{property_of}
use Rattle.live_safe.specs.Shadow.{shadow_of}
use Rattle.checker2.specs.Accepted.{IsAcceptedCertificate, IsShowable}
use Rattle.graph.specs.Circuits.{IsUpheld}
use Rattle.engine.specs.Bounds.{IsClear}
use Rattle.engine.specs.declared.finding.Reason.{Reason}
use Rattle.engine.specs.declared.finding.Reason.TheVariants.{Budget, Depth, NoEvidence}
use Rattle.verdict.specs.declared.verdict.Verdict.{Verdict}
use Rattle.verdict.specs.declared.verdict.Verdict.TheVariants.{Safe, Unsafe, Unknown}

-- the certificate is accepted and the property upheld, or the replay of the stimulus shows the violation, and the evidence is
-- of this property
abbrev pub IsBacked : Parts → Property → Verdict → Type 0
IsBacked m p (Safe c) = IsAcceptedCertificate m c × (c.property ≡ p) × IsUpheld m p
IsBacked m p (Unsafe s) = Shows m s × (property_of s ≡ p)
IsBacked m p (Unknown reason) = Unit {0}

-- no stimulus of at most this number of input lines shows a lasso of the justice property
abbrev pub HasNoLasso : Parts → ℕ → ℕ → Type 0
HasNoLasso m n most = (initial : List Bool) (lines : List (List Bool)) → length lines ≤ most → ShowsLasso m (stimulus.Violated (Justice n) initial lines) → ⊥

-- so far nothing violates the property: no run of this number of steps, or no lasso of this number of lines
abbrev pub IsFreeOf : Parts → Property → ℕ → Type 0
IsFreeOf m (Justice n) steps = HasNoLasso m n steps
IsFreeOf m safety steps = IsClear m safety steps

-- why nothing is known of a property: the budget is exhausted, or nothing violates it so far; that there was no
-- evidence is no reason
abbrev pub IsWhy : Parts → Property → Steps → Reason → Type 0
IsWhy m p after Budget = after.left ≡ 0
IsWhy m p after (Depth steps) = IsFreeOf m p steps
IsWhy m p after NoEvidence = ⊥

-- where nothing is known, the reason stands
abbrev pub IsMeant : Parts → Property → Steps → Verdict → Type 0
IsMeant m p after (Unknown reason) = IsWhy m p after reason
IsMeant m p after (Safe c) = Unit {0}
IsMeant m p after (Unsafe s) = Unit {0}

-- the second circuit is the shadow circuit of the n-th justice property, within the limit
pub record IsShadow (m : Parts) (n : ℕ) (one : Parts) : Type 0 where
  pub showable : IsShowable m (Justice n)
  pub is : one ≡ shadow_of m n

-- the circuit with one bad literal that engines are asked about: the literal that the property watches, or the shadow
-- circuit's
abbrev pub IsAsked : Parts → Property → Parts → Type 0
IsAsked m (Justice n) one = IsShadow m n one
IsAsked m safety one = IsAlone m safety one

-- what a run of that circuit shows where it is one: the violation, or that of the shadow circuit
abbrev pub IsViolation : Parts → Property → List Bool → List (List Bool) → Type 0
IsViolation m (Justice n) initial inputs = ShowsBad (shadow_of m n) (stimulus.Violated (Bad 0) initial inputs)
IsViolation m safety initial inputs = Shows m (stimulus.Violated safety initial inputs)

-- a violation is answered
abbrev pub IsUnsafe : Verdict → Type 0
IsUnsafe v = (s : Stimulus) × (v ≡ Unsafe s)

-- the stimulus that tells a verdict
abbrev pub stimulus_of : Property → Verdict → Stimulus
stimulus_of p (Safe c) = stimulus.Holds p
stimulus_of p (Unsafe s) = s
stimulus_of p (Unknown reason) = stimulus.Unknown p

-- 0 where the property holds, 1 for a violation, 2 where nothing is known
abbrev pub status_of : Verdict → ℕ
status_of (Safe c) = 0
status_of (Unsafe s) = 1
status_of (Unknown reason) = 2
