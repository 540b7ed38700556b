-- What it says that no further case is proved.
use Rattle.std.proofs.Common.{◌≡◌, List, [], Result, Ok, Err, IfOk, sym, subst}
use Rattle.base.specs.Budget.{Steps}
use Rattle.graph.specs.declared.circuit.Lit.{Lit}
use Rattle.graph.specs.declared.circuit.Latch.{Latch}
use Rattle.graph.specs.declared.circuit.Gate.{Gate}
use Rattle.graph.specs.declared.parts.Parts.{Parts}
use Rattle.cnf.specs.Invariants.{AreContradictory}
use Rattle.solver.specs.Answers.{values}
use Rattle.extension.specs.Accepted.{bad_of, circuit_of}
use Rattle.extension.specs.Extended.{extended}
use Rattle.extension.specs.Inductive.{IsInductiveOver}
use Rattle.certificate3.specs.declared.claim.Claim.{Claim}
use Rattle.inductive_proofs.specs.Counterexamples.{formula_of, IsCase, IsCounterexample}
use Rattle.inductive_proofs.specs.ProveErrors.{IsProveError}
use Rattle.certify3.specs.Outcomes.{IsCertified, of_prove_error}
use Rattle.certify3.specs.Subjects.{IsSubject}
use Rattle.inductive_proofs.specs.declared.subject.Subject.{Subject}
use Rattle.certify3.specs.declared.certified.Certified.{Certified}
use Rattle.certify3.specs.declared.certified.Certified.TheVariants as outcome
use Rattle.certify3.specs.declared.certify_error.CertifyError.{CertifyError}
use Rattle.inductive_proofs.specs.declared.counterexample.Case.{Case}
use Rattle.inductive_proofs.specs.declared.counterexample.Case.TheVariants as case
use Rattle.inductive_proofs.specs.declared.counterexample.Counterexample.{Counterexample}
use Rattle.inductive_proofs.specs.declared.prove_error.ProveError.{ProveError}
use Rattle.inductive_proofs.specs.declared.prove_error.ProveError.TheVariants.{NotInvariant, Spent, IdsTaken, OutOfMemory}

-- nothing satisfies a case of inductive clauses
unsatisfied : (m : Parts) (inv : List (List Lit)) (a : Lit) (x : Case) → IsInductiveOver m inv a → IsCase inv x → AreContradictory (formula_of m inv a x).clauses
unsatisfied m inv a (case.First k) inductive is_case = inductive.begins k [] is_case
unsatisfied m inv a (case.Step k) inductive is_case = inductive.goes_on k [] is_case
unsatisfied m inv a case.Last inductive is_case = inductive.excludes

pub not_inductive : (m : Parts) (inv : List (List Lit)) (a : Lit) (c : Counterexample) → IsCounterexample m inv a c → IsInductiveOver m inv a → ⊥
not_inductive m inv a c found inductive = unsatisfied m inv a c.case inductive found.case (values c.values.items) found.satisfied.satisfied

-- ---- what comes of it

halted_for : (m : Parts) (c : Claim) (ls : List Latch) (gs : List Gate) (inv : List (List Lit)) (after : Steps) (h : ProveError) → IsProveError (extended (circuit_of m c.property c.rounds) ls gs) inv (bad_of m c.property c.rounds) after h →
    IfOk (of_prove_error h) (IsCertified m c ls gs inv after)
halted_for m c ls gs inv after (NotInvariant x) halt = halt
halted_for m c ls gs inv after Spent halt = halt
halted_for m c ls gs inv after (IdsTaken used_up) halt = tt
halted_for m c ls gs inv after (OutOfMemory refused) halt = tt

pub halted_is : (m : Parts) (c : Claim) (ls : List Latch) (gs : List Gate) (inv : List (List Lit)) (after : Steps) (s : Subject) (h : ProveError) (r : Result Certified CertifyError) → IsSubject m c ls gs s → r ≡ of_prove_error h →
    IsProveError s.circuit inv s.bad after h → IfOk r (IsCertified m c ls gs inv after)
halted_is m c ls gs inv after s h r subject is halt =
    subst (λ (q : Result Certified CertifyError). IfOk q (IsCertified m c ls gs inv after)) (sym is)
    (halted_for m c ls gs inv after h
    (subst (λ (a : Lit). IsProveError (extended (circuit_of m c.property c.rounds) ls gs) inv a after h) subject.bad (subst (λ (t : Parts). IsProveError t inv s.bad after h) subject.circuit halt)))

honest_of : (m : Parts) (c : Claim) (ls : List Latch) (gs : List Gate) (inv : List (List Lit)) (after : Steps) (r : Certified) (x : Counterexample) → IsCertified m c ls gs inv after r → r ≡ outcome.NotInvariant x →
    IsInductiveOver (extended (circuit_of m c.property c.rounds) ls gs) inv (bad_of m c.property c.rounds) → ⊥
honest_of m c ls gs inv after r x is named inductive =
    not_inductive (extended (circuit_of m c.property c.rounds) ls gs) inv (bad_of m c.property c.rounds) x (subst (IsCertified m c ls gs inv after) named is) inductive

-- what is inductive is never called no invariant
pub honest : (m : Parts) (c : Claim) (ls : List Latch) (gs : List Gate) (inv : List (List Lit)) (after : Steps) (r : Result Certified CertifyError) → IfOk r (IsCertified m c ls gs inv after) →
    IfOk r (λ v. (x : Counterexample) → v ≡ outcome.NotInvariant x → IsInductiveOver (extended (circuit_of m c.property c.rounds) ls gs) inv (bad_of m c.property c.rounds) → ⊥)
honest m c ls gs inv after (Ok v) is = λ x. honest_of m c ls gs inv after v x is
honest m c ls gs inv after (Err e) is = tt
