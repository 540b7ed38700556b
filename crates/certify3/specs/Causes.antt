-- Why nothing came of clauses: the first cause.
use Rattle.std.specs.Prelude.{◌≡◌, ℕ, ◌<◌, ◌≤◌, ◌⊎◌, List, length, All}
use Rattle.base.specs.Budget.{Steps}
use Rattle.graph.specs.declared.circuit.Lit.{Lit}
use Rattle.graph.specs.declared.circuit.Latch.{Latch}
use Rattle.graph.specs.declared.circuit.Gate.{Gate}
use Rattle.graph.specs.declared.parts.Parts.{Parts}
use Rattle.graph.specs.Circuits.{HasProperty, position_of}
use Rattle.lrat.specs.Literals.{IsProper}
use Rattle.cnf.specs.Formulas.{clause_at}
use Rattle.extension.specs.Accepted.{IsShowable, circuit_of}
use Rattle.extension.specs.Extended.{extended}
use Rattle.extension.specs.Inductive.{IsOverAll, clause_from}
use Rattle.certificate3.specs.declared.claim.Claim.{Claim}
use Rattle.checker3.specs.Judged.{IsGrown, IsNoExtension, IsOutside, IsUnshowable}
use Rattle.checker3.specs.declared.check_error.CheckError.{CheckError}
use Rattle.checker3.specs.declared.check_error.CheckError.TheVariants.{NoProperty, TooManyRounds, Limit, NotExtension, Outside, Line}
use Rattle.certify3.specs.declared.certify_error.CertifyError.{CertifyError}
use Rattle.certify3.specs.declared.certify_error.CertifyError.TheVariants.{NoProperty as Absent, Refused, TooMany, Repeated, IdsTaken, OutOfMemory}

-- the refusal is of the clause at its place, the first with a literal outside of the circuit
abbrev pub IsOutsideAt : Parts → List (List Lit) → CheckError → Type 0
IsOutsideAt m inv NoProperty = ⊥
IsOutsideAt m inv TooManyRounds = ⊥
IsOutsideAt m inv Limit = ⊥
IsOutsideAt m inv NotExtension = ⊥
IsOutsideAt m inv (Outside k) = (length inv ≤ 4194303) × IsOutside m inv k
IsOutsideAt m inv (Line fault) = ⊥

-- the clause at k repeats or opposes a literal
pub record IsRepeated (m : Parts) (inv : List (List Lit)) (k : ℕ) : Type 0 where
  pub stands : k < length inv
  pub improper : (n : ℕ) → IsProper n (clause_from m 0 (clause_at inv k)) → ⊥

-- what is wrong with the clauses: too many, one outside of the circuit, or one that repeats or opposes a literal
abbrev pub IsFault : Parts → List (List Lit) → CertifyError → Type 0
IsFault m inv (Absent n) = ⊥
IsFault m inv (Refused r) = IsOutsideAt m inv r
IsFault m inv TooMany = 4194303 < length inv
IsFault m inv (Repeated k) = (length inv ≤ 4194303) × All (IsOverAll m) inv × IsRepeated m inv k
IsFault m inv (IdsTaken used_up) = ⊥
IsFault m inv (OutOfMemory refused) = Unit {0}

-- the first cause of each refusal: the claim, the latches and gates, the clauses, or of good clauses used-up ids of a solver
abbrev pub HasCause : Parts → Claim → List Latch → List Gate → List (List Lit) → CertifyError → Type 0
HasCause m c ls gs inv (Absent n) = (n ≡ position_of c.property) × (HasProperty m c.property → ⊥)
HasCause m c ls gs inv (Refused r) =
    IsUnshowable m c.property c.rounds r
    ⊎ (IsShowable m c.property c.rounds
    × (IsNoExtension (circuit_of m c.property c.rounds) ls gs r
    ⊎ (IsGrown (circuit_of m c.property c.rounds) ls gs × IsOutsideAt (extended (circuit_of m c.property c.rounds) ls gs) inv r)))
HasCause m c ls gs inv TooMany = IsShowable m c.property c.rounds × IsGrown (circuit_of m c.property c.rounds) ls gs × (4194303 < length inv)
HasCause m c ls gs inv (Repeated k) = IsShowable m c.property c.rounds × IsGrown (circuit_of m c.property c.rounds) ls gs
    × IsFault (extended (circuit_of m c.property c.rounds) ls gs) inv (Repeated k)
HasCause m c ls gs inv (IdsTaken used_up) = Unit {0}
HasCause m c ls gs inv (OutOfMemory refused) = Unit {0}

-- what can stop the proofs: used-up ids of a solver, or memory
abbrev pub IsLate : CertifyError → Type 0
IsLate (Absent n) = ⊥
IsLate (Refused r) = ⊥
IsLate TooMany = ⊥
IsLate (Repeated k) = ⊥
IsLate (IdsTaken used_up) = Unit {0}
IsLate (OutOfMemory refused) = Unit {0}

-- what is wrong with the claim, the latches and gates or the clauses is refused before anything is spent
abbrev pub IsUnspent : Steps → Steps → CertifyError → Type 0
IsUnspent before after (Absent n) = after ≡ before
IsUnspent before after (Refused r) = after ≡ before
IsUnspent before after TooMany = after ≡ before
IsUnspent before after (Repeated k) = after ≡ before
IsUnspent before after (IdsTaken used_up) = Unit {0}
IsUnspent before after (OutOfMemory refused) = Unit {0}
