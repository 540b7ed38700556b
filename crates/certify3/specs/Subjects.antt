-- The circuit that a certificate speaks of, with the certificate's latches and gates.
use Rattle.std.specs.Prelude.{◌≡◌, ◌⊎◌, List}
use Rattle.graph.specs.declared.circuit.Latch.{Latch}
use Rattle.graph.specs.declared.circuit.Gate.{Gate}
use Rattle.graph.specs.declared.parts.Parts.{Parts}
use Rattle.graph.specs.Circuits.{HasProperty, position_of}
use Rattle.cnf.specs.Formulas.{IsInRange}
use Rattle.extension.specs.Accepted.{IsShowable, bad_of, circuit_of}
use Rattle.extension.specs.Extended.{extended}
use Rattle.certificate3.specs.declared.claim.Claim.{Claim}
use Rattle.checker3.specs.Judged.{IsGrown, IsNoExtension, IsUnshowable}
use Rattle.certify3.specs.declared.certify_error.CertifyError.{CertifyError}
use Rattle.certify3.specs.declared.certify_error.CertifyError.TheVariants.{NoProperty, Refused, TooMany, Repeated, IdsTaken, OutOfMemory}
use Rattle.inductive_proofs.specs.declared.subject.Subject.{Subject}

-- the circuit with the latches and gates
abbrev pub IsGrownFor : Parts → List Latch → List Gate → Parts → Type 0
IsGrownFor m ls gs s = (s ≡ extended m ls gs) × IsGrown m ls gs

-- why there is none; memory is no fault of the latches and gates
abbrev pub IsNoGrowthFor : Parts → List Latch → List Gate → CertifyError → Type 0
IsNoGrowthFor m ls gs (NoProperty n) = ⊥
IsNoGrowthFor m ls gs (Refused r) = IsNoExtension m ls gs r
IsNoGrowthFor m ls gs TooMany = ⊥
IsNoGrowthFor m ls gs (Repeated k) = ⊥
IsNoGrowthFor m ls gs (IdsTaken used_up) = ⊥
IsNoGrowthFor m ls gs (OutOfMemory refused) = Unit {0}

-- the circuit that the claim speaks of, with the latches and gates, and the literal that is to be excluded
pub record IsSubject (m : Parts) (c : Claim) (ls : List Latch) (gs : List Gate) (s : Subject) : Type 0 where
  pub showable : IsShowable m c.property c.rounds
  pub circuit : s.circuit ≡ extended (circuit_of m c.property c.rounds) ls gs
  pub grown : IsGrown (circuit_of m c.property c.rounds) ls gs
  pub bad : s.bad ≡ bad_of m c.property c.rounds
  pub in_range : IsInRange s.circuit.max_var s.bad

-- why the claim cannot be shown, but for the size of what it speaks of
abbrev pub IsNoClaim : Parts → Claim → CertifyError → Type 0
IsNoClaim m c (NoProperty n) = (n ≡ position_of c.property) × (HasProperty m c.property → ⊥)
IsNoClaim m c (Refused r) = IsUnshowable m c.property c.rounds r
IsNoClaim m c TooMany = ⊥
IsNoClaim m c (Repeated k) = ⊥
IsNoClaim m c (IdsTaken used_up) = ⊥
IsNoClaim m c (OutOfMemory refused) = ⊥

-- why there is none: the claim cannot be shown, or the latches and gates are refused
abbrev pub HasNoSubject : Parts → Claim → List Latch → List Gate → CertifyError → Type 0
HasNoSubject m c ls gs (NoProperty n) = (n ≡ position_of c.property) × (HasProperty m c.property → ⊥)
HasNoSubject m c ls gs (Refused r) = IsUnshowable m c.property c.rounds r ⊎ (IsShowable m c.property c.rounds × IsNoExtension (circuit_of m c.property c.rounds) ls gs r)
HasNoSubject m c ls gs TooMany = ⊥
HasNoSubject m c ls gs (Repeated k) = ⊥
HasNoSubject m c ls gs (IdsTaken used_up) = ⊥
HasNoSubject m c ls gs (OutOfMemory refused) = Unit {0}
