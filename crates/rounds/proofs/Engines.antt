-- What the answer of an engine about the circuit that counts says of the number of rounds.
use Rattle.std.proofs.Common.{◌≡◌, ℕ, Bool, List, Result, Ok, Err, IfOk, refl, sym, subst}
use Rattle.base.specs.Budget.{Steps}
use Rattle.graph.specs.declared.circuit.Lit.{Lit}
use Rattle.graph.specs.declared.circuit.Property.TheVariants.{Bad}
use Rattle.graph.specs.declared.parts.Parts.{Parts}
use Rattle.stimulus.specs.declared.value.Stimulus.TheVariants.{Violated}
use Rattle.stimulus.specs.Shown.{ShowsBad}
use Rattle.engine.specs.Bounds.{IsClear}
use Rattle.cnf.specs.Invariants.{IsInvariant}
use Rattle.engine.specs.Findings.{IsForBad, IsHonest, IsSo}
use Rattle.engine.specs.declared.finding.Finding.{Finding}
use Rattle.engine.specs.declared.finding.Finding.TheVariants as finding
use Rattle.engine.specs.declared.finding.Reason.{Reason}
use Rattle.engine.specs.declared.finding.Reason.TheVariants as reason
use Rattle.extension.specs.Rounds.{ended_literal, rounds_of}
use Rattle.verdict.specs.declared.decide_error.DecideError.{DecideError}
use Rattle.rounds.specs.Asked.{IsCause, IsMeantFor, cause_in}
use Rattle.rounds.specs.declared.asking.Tried.{Tried}
use Rattle.rounds.specs.declared.asking.Tried.TheVariants.{Exceeded}
use Rattle.rounds.specs.declared.counted.Cause.{Cause}

-- ---- the circuit that is asked about

pub for_bad : (m q : Parts) (j k : ℕ) → q ≡ rounds_of m j k → IsForBad q
for_bad m q j k is = subst IsForBad (sym is) (record { bad = ended_literal m j k; one = refl; no_justice = refl })

-- ---- what is found

exceeded_meant : (m : Parts) (j k : ℕ) (after : Steps) (r : Result Tried DecideError) → IfOk r (λ t. t ≡ Exceeded) → IfOk r (IsMeantFor m j k after)
exceeded_meant m j k after (Ok t) is = subst (IsMeantFor m j k after) (sym is) tt
exceeded_meant m j k after (Err e) is = tt

pub run_meant : (m q : Parts) (j k : ℕ) (before after : Steps) (f : Finding) (initial : List Bool) (inputs : List (List Bool)) (r : Result Tried DecideError) →
    f ≡ finding.Run initial inputs → IsSo q before f → (ShowsBad q (Violated (Bad 0) initial inputs) → IfOk r (λ t. t ≡ Exceeded)) → IfOk r (IsMeantFor m j k after)
run_meant m q j k before after f initial inputs r is so told = exceeded_meant m j k after r (told (subst (IsSo q before) is so))

pub clauses_meant : (m q : Parts) (j k : ℕ) (before after : Steps) (f : Finding) (inv given : List (List Lit)) (r : Result Tried DecideError) → q ≡ rounds_of m j k →
    f ≡ finding.Invariant inv → given ≡ inv → IsSo q before f → (IsInvariant (rounds_of m j k) given → IfOk r (IsMeantFor m j k after)) → IfOk r (IsMeantFor m j k after)
clauses_meant m q j k before after f inv given r counter is same so told =
    let h : IsInvariant q inv = subst (IsSo q before) is so in
    told (subst (λ (i : List (List Lit)). IsInvariant (rounds_of m j k) i) (sym same) (subst (λ (p : Parts). IsInvariant p inv) counter h))

caused : (m q : Parts) (j k : ℕ) (after : Steps) (r : Reason) → q ≡ rounds_of m j k → IsHonest q after r → IsCause m j k after (cause_in r)
caused m q j k after reason.Budget same h = h
caused m q j k after (reason.Depth steps) same h = subst (λ (p : Parts). IsClear p (Bad 0) steps) same h
caused m q j k after reason.NoEvidence same h = h

pub unknown_meant : (m q : Parts) (j k : ℕ) (after : Steps) (f : Finding) (r : Reason) (cause : Cause) → q ≡ rounds_of m j k →
    f ≡ finding.Unknown r → IsSo q after f → cause ≡ cause_in r → IsCause m j k after cause
unknown_meant m q j k after f r cause counter is so told =
    subst (IsCause m j k after) (sym told) (caused m q j k after r counter (subst (IsSo q after) is so))
