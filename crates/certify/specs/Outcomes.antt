-- What came of clauses.
use Rattle.std.specs.Prelude.{◌≡◌, List, Some, Result, Ok, Err}
use Rattle.base.specs.Budget.{Steps}
use Rattle.graph.specs.declared.circuit.Lit.{Lit}
use Rattle.graph.specs.declared.circuit.Property.{Property}
use Rattle.graph.specs.declared.parts.Parts.{Parts}
use Rattle.checker2.specs.Accepted.{circuit_of, bad_of, IsAcceptedFor, IsAcceptedCertificate}
use Rattle.certify.specs.Counterexamples.{IsCounterexample}
use Rattle.certify.specs.declared.certified.Certified.{Certified}
use Rattle.certify.specs.declared.certified.Certified.TheVariants.{Certificate, NotInvariant, Spent}
use Rattle.certify.specs.declared.certify_error.CertifyError.{CertifyError}
use Rattle.certify.specs.declared.certify_error.CertifyError.TheVariants.{IdsTaken, OutOfMemory}
use Rattle.certify.specs.declared.prove_error.ProveError.{ProveError}
use Rattle.certify.specs.declared.prove_error.ProveError.TheVariants as error
use Rattle.certify.specs.declared.proving.Proofs.{Proofs}

-- for a literal of a circuit: accepted sections of these clauses, with the property; or values that satisfy a
-- case; or a budget that is exhausted
abbrev pub IsCertifiedFor : Parts → Lit → Property → List (List Lit) → Steps → Certified → Type 0
IsCertifiedFor m a p inv after (Certificate c) = (c.property ≡ p) × (c.invariant ≡ inv) × IsAcceptedFor m a c
IsCertifiedFor m a p inv after (NotInvariant c) = IsCounterexample m inv a c
IsCertifiedFor m a p inv after Spent = after.left ≡ 0

-- an accepted certificate of these clauses for this property, or values that satisfy a case of theirs, or a
-- budget that is exhausted
abbrev pub IsCertified : Parts → Property → List (List Lit) → Steps → Certified → Type 0
IsCertified m p inv after (Certificate c) = (c.property ≡ p) × (c.invariant ≡ inv) × IsAcceptedCertificate m c
IsCertified m p inv after (NotInvariant c) = IsCounterexample (circuit_of m p) inv (bad_of m p) c
IsCertified m p inv after Spent = after.left ≡ 0

-- what comes of the proofs of the clauses' cases, or of why one has none
abbrev pub of_proofs : Property → List (List Lit) → Result Proofs ProveError → Result Certified CertifyError
of_proofs p inv (Ok proofs) = Ok (Certificate (record { property = p; invariant = inv; lemmas = Some proofs.lemmas; sections = proofs.sections }))
of_proofs p inv (Err (error.NotInvariant c)) = Ok (NotInvariant c)
of_proofs p inv (Err error.Spent) = Ok Spent
of_proofs p inv (Err (error.IdsTaken used_up)) = Err (IdsTaken used_up)
of_proofs p inv (Err (error.OutOfMemory refused)) = Err (OutOfMemory refused)
