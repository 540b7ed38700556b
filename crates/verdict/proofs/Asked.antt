-- What is known of engines that were asked one after the other.
use Rattle.std.proofs.Common.{◌≡◌, ℕ, ◌+◌, ◌-◌, ◌<◌, ◌≤◌, List, [], ◌∷◌, ◌++◌, length, take, drop, get_or, set, Bool, Some, None, Result, Ok, Err, IfOk, IfErr, arith, refl, inl, inr, sym, ap, ◌∙◌, subst, length-drop}
use Rattle.std.proofs.lemmas.List.{drop_more, drop-drop, drop-set-lt, get_or_at, length-take-le, take-append-drop, take_all, take_more}
use Rattle.base.specs.Budget.{Spends, Steps}
use Rattle.base.specs.Witness.{witness}
use Rattle.graph.specs.declared.circuit.Lit.{Lit}
use Rattle.graph.specs.declared.circuit.Property.{Property}
use Rattle.graph.specs.declared.parts.Parts.{Parts}
use Rattle.graph.specs.Circuits.{HasProperty, IsUpheld}
use Rattle.graph.specs.WellFormed.{IsWellFormed}
use Rattle.stimulus.specs.declared.value.Stimulus.{Stimulus}
use Rattle.certificate.specs.declared.certificate.Certificate.{Certificate}
use Rattle.checker2.specs.Accepted.{circuit_of}
use Rattle.checker2.specs.declared.invariant.ClauseFault.TheVariants as fault
use Rattle.checker2.proofs.Accepted.{accepted_law, first_fault_refuses}
use Rattle.certify.specs.Causes.{HasCause as IsUncertified}
use Rattle.certify.specs.Outcomes.{IsCertified}
use Rattle.certify.specs.declared.certified.Certified.TheVariants as outcome
use Rattle.certify.specs.declared.certify_error.CertifyError.{CertifyError}
use Rattle.certify.specs.declared.certify_error.CertifyError.TheVariants as certify
use Rattle.engine.specs.declared.engine_error.EngineError.{EngineError}
use Rattle.engine.specs.declared.finding.Finding.{Finding}
use Rattle.engine.specs.declared.finding.Finding.TheVariants as finding
use Rattle.engine.specs.declared.finding.Reason.{Reason}
use Rattle.engine.specs.declared.finding.Reason.TheVariants.{NoEvidence}
use Rattle.verdict.specs.Asked.{AskedInOrder, ComesOfFinding, HaveTold, IsVerdictOf, IsOfClauses, IsOfReplay, IsOfRun, Stops}
use Rattle.verdict.specs.Causes.{of_certify}
use Rattle.verdict.specs.Reasons.{reason_in, reason_of, weightier_of}
use Rattle.verdict.specs.Verdicts.{IsBacked, IsMeant, IsUnsafe, IsViolation, IsWhy}
use Rattle.verdict.specs.declared.decide_error.DecideError.{DecideError}
use Rattle.verdict.specs.declared.decide_error.DecideError.TheVariants.{OutOfMemory}
use Rattle.verdict.specs.declared.verdict.Verdict.{Verdict}
use Rattle.verdict.specs.declared.verdict.Verdict.TheVariants.{Safe, Unsafe, Unknown}

-- ---- what comes of one answer

-- an engine's finding, and what comes of it
pub answered_by : (answers : Steps → Result Finding EngineError → Steps → Type 0) (m : Parts) (p : Property) (before left after : Steps) (f : Finding) (r : Result Verdict DecideError) →
    answers before (Ok f) left → ComesOfFinding m p f left r after → IsVerdictOf answers m p before r after
answered_by answers m p before left after f r answered comes = record { answer = Ok f; left = left; answered = answered; comes = comes }

pub found_unknown : (m : Parts) (p : Property) (left : Steps) (f : Finding) (reason : Reason) → f ≡ finding.Unknown reason → ComesOfFinding m p f left (Ok (Unknown reason)) left
found_unknown m p left f reason is = subst (λ (g : Finding). ComesOfFinding m p g left (Ok (Unknown reason)) left) (sym is) (refl, refl)

no_violation : (reason : Reason) (s : Stimulus) → Unknown reason ≡ Unsafe s → ⊥
no_violation reason s is = cc

-- what is said of a run's verdict, from its evidence and from what a violation comes to
of_run : (m : Parts) (p : Property) (initial : List Bool) (inputs : List (List Bool)) (v : Verdict) → IsBacked m p v → IsOfReplay v → (IsViolation m p initial inputs → IsUnsafe v) →
    IsOfRun m p initial inputs v
of_run m p initial inputs (Safe c) backed only shown = only
of_run m p initial inputs (Unsafe s) backed only shown = backed
of_run m p initial inputs (Unknown reason) backed only shown = (only, λ violates. let h : IsUnsafe (Unknown reason) = shown violates in no_violation reason h.0 h.1)

comes_of_run : (m : Parts) (p : Property) (initial : List Bool) (inputs : List (List Bool)) (r : Result Verdict DecideError) → IfOk r (IsBacked m p) → IfOk r IsOfReplay →
    (IsViolation m p initial inputs → IfOk r IsUnsafe) → IfOk r (IsOfRun m p initial inputs)
comes_of_run m p initial inputs (Ok v) backed only shown = of_run m p initial inputs v backed only shown
comes_of_run m p initial inputs (Err e) backed only shown = tt

pub found_run : (m : Parts) (p : Property) (left : Steps) (f : Finding) (initial : List Bool) (inputs : List (List Bool)) (r : Result Verdict DecideError) →
    f ≡ finding.Run initial inputs → IfOk r (IsBacked m p) → IfOk r IsOfReplay → (IsViolation m p initial inputs → IfOk r IsUnsafe) →
    IfErr r (λ e. e ≡ OutOfMemory witness) → ComesOfFinding m p f left r left
found_run m p left f initial inputs r is backed only shown memory =
    subst (λ (g : Finding). ComesOfFinding m p g left r left) (sym is) (comes_of_run m p initial inputs r backed only shown, memory, refl)

pub found_clauses : (m : Parts) (p : Property) (left after : Steps) (f : Finding) (inv given : List (List Lit)) (r : Result Verdict DecideError) →
    f ≡ finding.Invariant inv → given ≡ inv → IfOk r (IsOfClauses m p given after) → IfErr r (Stops m p given) → Spends left after → ComesOfFinding m p f left r after
found_clauses m p left after f inv given r is same comes stopped spends =
    subst (λ (g : Finding). ComesOfFinding m p g left r after) (sym is)
    (subst (λ (i : List (List Lit)). IfOk r (IsOfClauses m p i after)) same comes, subst (λ (i : List (List Lit)). IfErr r (Stops m p i)) same stopped, spends)

-- ---- clauses

-- an accepted certificate upholds its property
pub certificate_backs : (m : Parts) (p : Property) (inv : List (List Lit)) (after : Steps) (c : Certificate) → IsWellFormed m → IsCertified m p inv after (outcome.Certificate c) → IsBacked m p (Safe c)
certificate_backs m p inv after c formed certified = (certified.2, certified.0, subst (IsUpheld m) certified.0 (accepted_law m c formed certified.2))

-- what comes of clauses of which no certificate is made
refused_ok : (m : Parts) (p : Property) (inv : List (List Lit)) (after : Steps) (e : CertifyError) → HasProperty m p → IsUncertified m p inv e → IfOk (of_certify e) (IsOfClauses m p inv after)
refused_ok m p inv after (certify.NoProperty k) there cause = absurd (cause.1 there)
refused_ok m p inv after certify.Limit there cause = tt
refused_ok m p inv after (certify.IdsTaken used_up) there cause = tt
refused_ok m p inv after (certify.NotLatch k) there cause = λ good inductive. first_fault_refuses (circuit_of m p) inv k fault.NotLatch cause.1.first good
refused_ok m p inv after (certify.Repeated k) there cause = λ good inductive. first_fault_refuses (circuit_of m p) inv k fault.Repeated cause.1.first good
refused_ok m p inv after (certify.OutOfMemory refused) there cause = tt

refused_err : (m : Parts) (p : Property) (inv : List (List Lit)) (e : CertifyError) → IsUncertified m p inv e → IfErr (of_certify e) (Stops m p inv)
refused_err m p inv (certify.NoProperty k) cause = tt
refused_err m p inv certify.Limit cause = cause
refused_err m p inv (certify.IdsTaken used_up) cause = cause
refused_err m p inv (certify.NotLatch k) cause = tt
refused_err m p inv (certify.Repeated k) cause = tt
refused_err m p inv (certify.OutOfMemory refused) cause = tt

pub refused_comes : (m : Parts) (p : Property) (inv : List (List Lit)) (after : Steps) (e : CertifyError) (r : Result Verdict DecideError) → r ≡ of_certify e → HasProperty m p → IsUncertified m p inv e →
    IfOk r (IsOfClauses m p inv after)
refused_comes m p inv after e r is there cause = subst (λ (q : Result Verdict DecideError). IfOk q (IsOfClauses m p inv after)) (sym is) (refused_ok m p inv after e there cause)

pub refused_stops : (m : Parts) (p : Property) (inv : List (List Lit)) (e : CertifyError) (r : Result Verdict DecideError) → r ≡ of_certify e → IsUncertified m p inv e → IfErr r (Stops m p inv)
refused_stops m p inv e r is cause = subst (λ (q : Result Verdict DecideError). IfErr q (Stops m p inv)) (sym is) (refused_err m p inv e cause)

-- ---- reasons

-- an answer with a reason is an unknown
unknown_in : (v : Verdict) (found : Reason) → reason_in v ≡ Some found → v ≡ Unknown found
unknown_in (Safe c) found is = cc
unknown_in (Unsafe s) found is = cc
unknown_in (Unknown reason) found is = cc

pub unknown_of : (r : Result Verdict DecideError) (found : Reason) → reason_of r ≡ Some found → r ≡ Ok (Unknown found)
unknown_of (Ok v) found is = ap (λ (u : Verdict). Ok u) (unknown_in v found is)
unknown_of (Err e) found is = cc

-- what an unknown means that is the answer
pub why_unknown : (m : Parts) (p : Property) (after : Steps) (r : Result Verdict DecideError) (found : Reason) → reason_of r ≡ Some found → IfOk r (IsMeant m p after) → IsWhy m p after found
why_unknown m p after r found unknown meant = subst (λ (q : Result Verdict DecideError). IfOk q (IsMeant m p after)) (unknown_of r found unknown) meant

-- ---- one engine after the other

told_push : {E : Type 0} (answers : E → Steps → Result Finding EngineError → Steps → Type 0) (m : Parts) (p : Property) (es : List E) (e : E) (start told found : Reason) (before left after : Steps) →
    HaveTold answers m p es start before told left → IsVerdictOf (answers e) m p left (Ok (Unknown found)) after → HaveTold answers m p (es ++ e ∷ []) start before (weightier_of told found) after
told_push answers m p [] e start told found before left after h answered =
    (found, after, subst (λ (b : Steps). IsVerdictOf (answers e) m p b (Ok (Unknown found)) after) h.1 answered, (ap (λ (r : Reason). weightier_of r found) h.0, refl))
told_push answers m p (f ∷ es) e start told found before left after h answered =
    (h.0, h.1, h.2, told_push answers m p es e (weightier_of start h.0) told found h.1 left after h.3 answered)

-- lists that go on alike from i are as long
inside_now : {E : Type 0} (old now : List E) (i : ℕ) → drop i now ≡ drop i old → i < length old → i < length now
inside_now old now i same inside =
    let long : length now - i ≡ length old - i = sym (length-drop i now) ∙ (ap length same ∙ length-drop i old) in omega (arith, long, inside)

-- the list as what is before i, the item there, and what is behind it in a list that goes on alike
split_at : {E : Type 0} (old now : List E) (i : ℕ) (d : E) → drop i now ≡ drop i old → i < length old → old ≡ take i old ++ get_or now i d ∷ drop (i + 1) now
split_at {E} old now i d same inside =
    sym (take-append-drop i old) ∙ ap (λ (es : List E). take i old ++ es) (sym same ∙ drop_more now i d (inside_now old now i same inside))

front_length : {E : Type 0} (old : List E) (i : ℕ) → i < length old → length (take i old) ≡ i
front_length old i inside = length-take-le i old (omega (arith, inside))

-- what is before the next one
front_more : {E : Type 0} (old now : List E) (i : ℕ) (d : E) → drop i now ≡ drop i old → i < length old → take (i + 1) old ≡ take i old ++ get_or now i d ∷ []
front_more {E} old now i d same inside =
    let here : get_or old i d ≡ get_or now i d =
    ap (λ (es : List E). get_or es i d) (split_at old now i d same inside) ∙ get_or_at (take i old) (get_or now i d) (drop (i + 1) now) d i (front_length old i inside)
    in
    take_more old i d inside ∙ ap (λ (x : E). take i old ++ x ∷ []) here

-- what is behind the next one stays the same where only the one here changes
pub rest_more : {E : Type 0} (old now : List E) (i : ℕ) (f : E) → drop i now ≡ drop i old → drop (i + 1) (set now i f) ≡ drop (i + 1) old
rest_more {E} old now i f same =
    let below : i < i + 1 = omega arith in
    drop-set-lt (i + 1) now i f below ∙ (sym (drop-drop 1 i now) ∙ (ap (λ (es : List E). drop 1 es) same ∙ drop-drop 1 i old))

-- one more engine has told why it knows nothing
pub told_more : {E : Type 0} (answers : E → Steps → Result Finding EngineError → Steps → Type 0) (m : Parts) (p : Property) (old now : List E) (i : ℕ) (d : E) (start told found new : Reason) (r : Result Verdict DecideError) (before left after : Steps) →
    drop i now ≡ drop i old → i < length old → HaveTold answers m p (take i old) start before told left → IsVerdictOf (answers (get_or now i d)) m p left r after →
    reason_of r ≡ Some found → new ≡ weightier_of told found → HaveTold answers m p (take (i + 1) old) start before new after
told_more {E} answers m p old now i d start told found new r before left after same inside h answered unknown is =
    let e : E = get_or now i d in
    let said : IsVerdictOf (answers e) m p left (Ok (Unknown found)) after = subst (λ (q : Result Verdict DecideError). IsVerdictOf (answers e) m p left q after) (unknown_of r found unknown) answered in
    let joined : HaveTold answers m p (take i old ++ e ∷ []) start before (weightier_of told found) after = told_push answers m p (take i old) e start told found before left after h said in
    let as_told : HaveTold answers m p (take i old ++ e ∷ []) start before new after = subst (λ (q : Reason). HaveTold answers m p (take i old ++ e ∷ []) start before q after) (sym is) joined in
    subst (λ (es : List E). HaveTold answers m p es start before new after) (sym (front_more old now i d same inside)) as_told

-- the engine here has evidence or refuses
pub ends_here : {E : Type 0} (answers : E → Steps → Result Finding EngineError → Steps → Type 0) (m : Parts) (p : Property) (old now : List E) (i : ℕ) (d f : E) (told : Reason) (r : Result Verdict DecideError) (before left after : Steps) →
    drop i now ≡ drop i old → i < length old → HaveTold answers m p (take i old) NoEvidence before told left → IsVerdictOf (answers (get_or now i d)) m p left r after →
    reason_of r ≡ None → AskedInOrder answers m p old (set now i f) before r after
ends_here answers m p old now i d f told r before left after same inside h answered ends =
    let below : i < i + 1 = omega arith in
    inr (record {
      earlier = take i old;
      engine = get_or now i d;
      later = drop (i + 1) now;
      are = split_at old now i d same inside;
      reason = told;
      left = left;
      told = h;
      answered = answered;
      ends = ends;
      unasked = ap (λ (n : ℕ). drop (n + 1) (set now i f)) (front_length old i inside) ∙ drop-set-lt (i + 1) now i f below;
    })

-- no engine is left
pub all_told : {E : Type 0} (answers : E → Steps → Result Finding EngineError → Steps → Type 0) (m : Parts) (p : Property) (old new : List E) (i : ℕ) (told : Reason) (before after : Steps) →
    length old ≤ i → HaveTold answers m p (take i old) NoEvidence before told after → AskedInOrder answers m p old new before (Ok (Unknown told)) after
all_told {E} answers m p old new i told before after short h =
    inl (record { reason = told; told = subst (λ (es : List E). HaveTold answers m p es NoEvidence before told after) (take_all i old short) h; is = refl })
