-- Why nothing came of clauses: the first cause.
use Rattle.std.specs.Prelude.{◌≡◌, ℕ, ◌<◌, ◌≤◌, ◌⊎◌, List, length, All}
use Rattle.base.specs.Budget.{Steps}
use Rattle.graph.specs.declared.circuit.Lit.{Lit}
use Rattle.graph.specs.declared.circuit.Property.{Property}
use Rattle.graph.specs.declared.parts.Parts.{Parts}
use Rattle.graph.specs.Circuits.{position_of, HasProperty}
use Rattle.checker2.specs.Accepted.{IsGood, IsShowable, circuit_of}
use Rattle.checker2.specs.Causes.{IsFirstFault}
use Rattle.checker2.specs.declared.invariant.ClauseFault.{ClauseFault}
use Rattle.checker2.specs.declared.invariant.ClauseFault.TheVariants as fault
use Rattle.certify.specs.declared.certify_error.CertifyError.{CertifyError}
use Rattle.certify.specs.declared.certify_error.CertifyError.TheVariants.{NoProperty, Limit, IdsTaken, NotLatch, Repeated, OutOfMemory}

-- the clause at k is the first that is not good, among no more clauses than a certificate may have
pub record IsFaulty (m : Parts) (inv : List (List Lit)) (k : ℕ) (e : ClauseFault) : Type 0 where
  pub few : length inv ≤ 4194303
  pub first : IsFirstFault m inv k e

-- what is wrong with the clauses: too many, or the first that is not good; memory is no fault of theirs
abbrev pub IsFault : Parts → List (List Lit) → CertifyError → Type 0
IsFault m inv (NoProperty n) = ⊥
IsFault m inv Limit = 4194303 < length inv
IsFault m inv (IdsTaken used_up) = ⊥
IsFault m inv (NotLatch k) = IsFaulty m inv k fault.NotLatch
IsFault m inv (Repeated k) = IsFaulty m inv k fault.Repeated
IsFault m inv (OutOfMemory refused) = Unit {0}

-- why nothing came of the clauses for a circuit: what is wrong with them, or of good clauses used-up ids of a solver
abbrev pub HasCauseFor : Parts → List (List Lit) → CertifyError → Type 0
HasCauseFor m inv (NoProperty n) = ⊥
HasCauseFor m inv Limit = 4194303 < length inv
HasCauseFor m inv (IdsTaken used_up) = All (IsGood m) inv
HasCauseFor m inv (NotLatch k) = IsFaulty m inv k fault.NotLatch
HasCauseFor m inv (Repeated k) = IsFaulty m inv k fault.Repeated
HasCauseFor m inv (OutOfMemory refused) = Unit {0}

-- the first cause of each refusal: the property, the variables of its circuit, and then what there is for that
abbrev pub HasCause : Parts → Property → List (List Lit) → CertifyError → Type 0
HasCause m p inv (NoProperty n) = (n ≡ position_of p) × (HasProperty m p → ⊥)
HasCause m p inv Limit = (HasProperty m p × (4194303 < (circuit_of m p).max_var)) ⊎ (IsShowable m p × HasCauseFor (circuit_of m p) inv Limit)
HasCause m p inv (IdsTaken used_up) = IsShowable m p × All (IsGood (circuit_of m p)) inv
HasCause m p inv (NotLatch k) = IsShowable m p × IsFaulty (circuit_of m p) inv k fault.NotLatch
HasCause m p inv (Repeated k) = IsShowable m p × IsFaulty (circuit_of m p) inv k fault.Repeated
HasCause m p inv (OutOfMemory refused) = HasProperty m p

-- what is wrong with the property or the clauses is refused before anything is spent
abbrev pub IsUnspent : Steps → Steps → CertifyError → Type 0
IsUnspent before after (NoProperty n) = after ≡ before
IsUnspent before after Limit = after ≡ before
IsUnspent before after (IdsTaken used_up) = Unit {0}
IsUnspent before after (NotLatch k) = after ≡ before
IsUnspent before after (Repeated k) = after ≡ before
IsUnspent before after (OutOfMemory refused) = Unit {0}
