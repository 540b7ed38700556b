-- What comes of the proofs of all cases.
use Rattle.std.proofs.Common.{◌≡◌, ◌≤◌, List, length, All, Some, Result, Ok, Err, IfOk, IfErr, refl, sym, subst}
use Rattle.base.specs.Budget.{Steps}
use Rattle.graph.specs.declared.circuit.Lit.{Lit}
use Rattle.graph.specs.declared.circuit.Property.{Property}
use Rattle.graph.specs.declared.parts.Parts.{Parts}
use Rattle.lrat.specs.Shared.{Base}
use Rattle.checker2.specs.Accepted.{cases, IsGood, IsShared}
use Rattle.certify.specs.Causes.{HasCauseFor, IsUnspent}
use Rattle.certify.specs.ProveErrors.{IsProveError}
use Rattle.certify.specs.Outcomes.{IsCertifiedFor, of_proofs}
use Rattle.certify.specs.Sections.{AreProofs}
use Rattle.certify.specs.declared.certified.Certified.{Certified}
use Rattle.certify.specs.declared.certify_error.CertifyError.{CertifyError}
use Rattle.certify.specs.declared.prove_error.ProveError.{ProveError}
use Rattle.certify.specs.declared.prove_error.ProveError.TheVariants.{NotInvariant, Spent, IdsTaken, OutOfMemory}
use Rattle.certify.specs.declared.proving.Proofs.{Proofs}
use Rattle.certify.proofs.Pairs.{accepted}

-- the proofs are of all cases
abbrev pub AreOfCases : Parts → Lit → List (List Lit) → Proofs → Type 0
AreOfCases m a inv x = (b : Base) × IsShared m inv (Some x.lemmas) b × AreProofs (cases m b inv a) x.sections

certified_so : (m : Parts) (a : Lit) (p : Property) (inv copy : List (List Lit)) (after : Steps) (proved : Result Proofs ProveError) → copy ≡ inv → length inv ≤ 4194303 → All (IsGood m) inv →
    IfOk proved (AreOfCases m a inv) → IfErr proved (IsProveError m inv a after) → IfOk (of_proofs p copy proved) (IsCertifiedFor m a p inv after)
certified_so m a p inv copy after (Ok x) same few good proofs halted = (refl, same, accepted m _ a inv proofs.0 same few good proofs.1 proofs.2)
certified_so m a p inv copy after (Err (NotInvariant c)) same few good proofs halted = halted
certified_so m a p inv copy after (Err Spent) same few good proofs halted = halted
certified_so m a p inv copy after (Err (IdsTaken used_up)) same few good proofs halted = tt
certified_so m a p inv copy after (Err (OutOfMemory refused)) same few good proofs halted = tt

-- what comes of the proofs of all cases is a certificate that is accepted, and what comes of why one has none is so
pub made : (m : Parts) (a : Lit) (p : Property) (inv copy : List (List Lit)) (after : Steps) (proved : Result Proofs ProveError) (r : Result Certified CertifyError) → r ≡ of_proofs p copy proved →
    copy ≡ inv → length inv ≤ 4194303 → All (IsGood m) inv → IfOk proved (AreOfCases m a inv) → IfErr proved (IsProveError m inv a after) → IfOk r (IsCertifiedFor m a p inv after)
made m a p inv copy after proved r is same few good proofs halted =
    subst (λ (q : Result Certified CertifyError). IfOk q (IsCertifiedFor m a p inv after)) (sym is) (certified_so m a p inv copy after proved same few good proofs halted)

refused_so : (m : Parts) (p : Property) (inv copy : List (List Lit)) (proved : Result Proofs ProveError) → All (IsGood m) inv → IfErr (of_proofs p copy proved) (HasCauseFor m inv)
refused_so m p inv copy (Ok x) good = tt
refused_so m p inv copy (Err (NotInvariant c)) good = tt
refused_so m p inv copy (Err Spent) good = tt
refused_so m p inv copy (Err (IdsTaken used_up)) good = good
refused_so m p inv copy (Err (OutOfMemory refused)) good = tt

-- its refusals are of good clauses
pub made_refused : (m : Parts) (p : Property) (inv copy : List (List Lit)) (proved : Result Proofs ProveError) (r : Result Certified CertifyError) → r ≡ of_proofs p copy proved → All (IsGood m) inv →
    IfErr r (HasCauseFor m inv)
made_refused m p inv copy proved r is good =
    subst (λ (q : Result Certified CertifyError). IfErr q (HasCauseFor m inv)) (sym is) (refused_so m p inv copy proved good)

unspent_so : (p : Property) (copy : List (List Lit)) (before after : Steps) (proved : Result Proofs ProveError) → IfErr (of_proofs p copy proved) (IsUnspent before after)
unspent_so p copy before after (Ok x) = tt
unspent_so p copy before after (Err (NotInvariant c)) = tt
unspent_so p copy before after (Err Spent) = tt
unspent_so p copy before after (Err (IdsTaken used_up)) = tt
unspent_so p copy before after (Err (OutOfMemory refused)) = tt

-- and none that comes before anything is spent
pub made_unspent : (p : Property) (copy : List (List Lit)) (before after : Steps) (proved : Result Proofs ProveError) (r : Result Certified CertifyError) → r ≡ of_proofs p copy proved →
    IfErr r (IsUnspent before after)
made_unspent p copy before after proved r is =
    subst (λ (q : Result Certified CertifyError). IfErr q (IsUnspent before after)) (sym is) (unspent_so p copy before after proved)
