-- What the finding of an honest engine says of the property about which it was asked.
use Rattle.std.proofs.Common.{◌≡◌, ℕ, zero, suc, ◌+◌, ◌<◌, ◌⊎◌, Bool, false, List, [], length, Result, Ok, Err, IfOk, All, arith, refl, inl, inr, sym, ap, ◌∙◌, subst}
use Rattle.std.specs.Prelude.{max}
use Rattle.std.proofs.lemmas.Bool.{cases_lt, false≢true}
use Rattle.std.proofs.lemmas.Option.{get_or_from_slice_get}
use Rattle.std.specs.Result.{IfErr, IsErrAnd}
use Rattle.base.specs.Budget.{Spends, Steps}
use Rattle.graph.specs.declared.circuit.Lit.{Lit}
use Rattle.graph.specs.declared.circuit.Property.{Property}
use Rattle.graph.specs.declared.circuit.Property.TheVariants.{Bad, Justice, Output}
use Rattle.graph.specs.declared.parts.Parts.{Parts}
use Rattle.graph.specs.Circuits.{Valuation, value_of, at, HasProperty}
use Rattle.graph.specs.WellFormed.{IsAlone, IsWellFormed}
use Rattle.graph.proofs.Alone.{watched_there}
use Rattle.stimulus.specs.Shown.{ShowsBad}
use Rattle.stimulus.specs.declared.value.Stimulus.TheVariants.{Violated}
use Rattle.cnf.specs.Invariants.{IsInductive, IsInvariant}
use Rattle.live_safe.specs.Shadow.{closing_literal, shadow_of}
use Rattle.live_safe.specs.Laws.{Carries}
use Rattle.live_safe.proofs.Carried.{lasso_carried}
use Rattle.checker2.specs.Accepted.{IsGood, bad_of, circuit_of}
use Rattle.checker2.specs.declared.invariant.ClauseFault.TheVariants as fault
use Rattle.checker2.proofs.Accepted.{first_fault_refuses}
use Rattle.certify.specs.Causes.{HasCause as IsUncertified}
use Rattle.certify.specs.declared.certify_error.CertifyError.{CertifyError}
use Rattle.certify.specs.declared.certify_error.CertifyError.TheVariants.{NoProperty, Limit, IdsTaken, NotLatch, Repeated, OutOfMemory}
use Rattle.engine.specs.Bounds.{IsClear}
use Rattle.engine.specs.Findings.{IsForBad, IsHonest, IsSo}
use Rattle.engine.specs.declared.engine_error.EngineError.{EngineError}
use Rattle.engine.specs.declared.engine_error.EngineError.TheVariants as engine
use Rattle.engine.specs.declared.finding.Finding.{Finding}
use Rattle.engine.specs.declared.finding.Finding.TheVariants.{Invariant, Run, Unknown}
use Rattle.engine.specs.declared.finding.Reason.{Reason}
use Rattle.engine.specs.declared.finding.Reason.TheVariants.{Budget, Depth, NoEvidence}
use Rattle.verdict.specs.Causes.{HasCause, of_certify}
use Rattle.verdict.specs.Numbers.{of_engine}
use Rattle.verdict.specs.Reasons.{weightier_of}
use Rattle.verdict.specs.Verdicts.{HasNoLasso, IsAsked, IsFreeOf, IsMeant, IsUnsafe, IsViolation, IsWhy}
use Rattle.verdict.specs.declared.decide_error.DecideError.{DecideError}
use Rattle.verdict.specs.declared.verdict.Verdict.{Verdict}
use Rattle.verdict.proofs.OnlyBad.{shows_named, clear_named, good_named, inductive_named}

-- ---- the circuit that is asked about

pub asked_for_bad : (m one : Parts) (p : Property) → IsAsked m p one → IsForBad one
asked_for_bad m one (Bad n) asked = subst IsForBad (sym asked.only) (record { bad = asked.bad; one = refl; no_justice = refl })
asked_for_bad m one (Output n) asked = subst IsForBad (sym asked.only) (record { bad = asked.bad; one = refl; no_justice = refl })
asked_for_bad m one (Justice n) asked = subst IsForBad (sym asked.is) (record { bad = closing_literal m n; one = refl; no_justice = refl })

pub asked_there : (m one : Parts) (p : Property) → IsAsked m p one → HasProperty m p
asked_there m one (Bad n) asked = watched_there m (Bad n) asked.bad asked.watched
asked_there m one (Output n) asked = watched_there m (Output n) asked.bad asked.watched
asked_there m one (Justice n) asked = asked.showable.exists

pub engine_refused : (m : Parts) (p : Property) (e : EngineError) → HasProperty m p → HasCause m p (of_engine e)
engine_refused m p (engine.Limit used_up) there = there
engine_refused m p (engine.OutOfMemory refused) there = there

-- its refusal is handed on
pub handed_on : (m : Parts) (p : Property) (e : EngineError) (r : Result Verdict DecideError) → IsErrAnd r (λ d. d ≡ of_engine e) → HasProperty m p → IfErr r (HasCause m p)
handed_on m p e (Ok v) is there = tt
handed_on m p e (Err d) is there = subst (HasCause m p) (sym is) (engine_refused m p e there)

-- ---- runs

shown_alone : (m one : Parts) (p : Property) (initial : List Bool) (inputs : List (List Bool)) → IsAlone m p one → ShowsBad one (Violated (Bad 0) initial inputs) →
    ShowsBad m (Violated p initial inputs)
shown_alone m one p initial inputs alone shows =
    shows_named m p alone.bad initial inputs alone.watched (subst (λ (q : Parts). ShowsBad q (Violated (Bad 0) initial inputs)) alone.only shows)

violates : (m one : Parts) (p : Property) (initial : List Bool) (inputs : List (List Bool)) → IsAsked m p one → ShowsBad one (Violated (Bad 0) initial inputs) →
    IsViolation m p initial inputs
violates m one (Bad n) initial inputs asked shows = inl (shown_alone m one (Bad n) initial inputs asked shows)
violates m one (Output n) initial inputs asked shows = inl (shown_alone m one (Output n) initial inputs asked shows)
violates m one (Justice n) initial inputs asked shows = subst (λ (q : Parts). ShowsBad q (Violated (Bad 0) initial inputs)) asked.is shows

unsafe_meant : (m : Parts) (p : Property) (after : Steps) (r : Result Verdict DecideError) → IfOk r IsUnsafe → IfOk r (IsMeant m p after)
unsafe_meant m p after (Ok v) is = subst (IsMeant m p after) (sym is.1) tt
unsafe_meant m p after (Err e) is = tt

-- a run is answered, since it is one
pub run_meant : (m one : Parts) (p : Property) (after : Steps) (f : Finding) (initial : List Bool) (inputs : List (List Bool)) (r : Result Verdict DecideError) → IsAsked m p one →
    f ≡ Run initial inputs → IsSo one after f → (IsViolation m p initial inputs → IfOk r IsUnsafe) → IfOk r (IsMeant m p after)
run_meant m one p after f initial inputs r asked is so shown =
    unsafe_meant m p after r (shown (violates m one p initial inputs asked (subst (IsSo one after) is so)))

-- ---- invariants

good_of : (m : Parts) (inv : List (List Lit)) → IsInvariant m inv → All (IsGood m) inv
good_of m inv h k d k_in = let proper = h.clauses k d k_in in record { over = proper.over; apart = proper.apart }

good_asked : (m one : Parts) (p : Property) (inv : List (List Lit)) → IsAsked m p one → IsInvariant one inv → All (IsGood (circuit_of m p)) inv
good_asked m one (Bad n) inv asked h = good_named m asked.bad inv (subst (λ (q : Parts). IsInvariant q inv) asked.only h)
good_asked m one (Output n) inv asked h = good_named m asked.bad inv (subst (λ (q : Parts). IsInvariant q inv) asked.only h)
good_asked m one (Justice n) inv asked h = good_of (shadow_of m n) inv (subst (λ (q : Parts). IsInvariant q inv) asked.is h)

inductive_alone : (m one : Parts) (p : Property) (inv : List (List Lit)) → (alone : IsAlone m p one) → IsInvariant one inv → IsInductive m inv alone.bad
inductive_alone m one p inv alone h = inductive_named m alone.bad inv (subst (λ (q : Parts). IsInvariant q inv) alone.only h)

inductive_asked : (m one : Parts) (p : Property) (inv : List (List Lit)) → IsAsked m p one → IsInvariant one inv → IsInductive (circuit_of m p) inv (bad_of m p)
inductive_asked m one (Bad n) inv asked h =
    subst (IsInductive m inv) (sym (get_or_from_slice_get m.bad n asked.bad (record { 0 = 0 }) asked.watched)) (inductive_alone m one (Bad n) inv asked h)
inductive_asked m one (Output n) inv asked h =
    subst (IsInductive m inv) (sym (get_or_from_slice_get m.outputs n asked.bad (record { 0 = 0 }) asked.watched.1)) (inductive_alone m one (Output n) inv asked h)
inductive_asked m one (Justice n) inv asked h =
    let shadow : IsInvariant (shadow_of m n) inv = subst (λ (q : Parts). IsInvariant q inv) asked.is h in
    shadow.inductive

-- an invariant of an honest engine comes to what is said of clauses that are one
pub invariant_meant : (m one : Parts) (p : Property) (before after : Steps) (f : Finding) (inv given : List (List Lit)) (r : Result Verdict DecideError) → IsAsked m p one →
    f ≡ Invariant inv → given ≡ inv → IsSo one before f →
    (All (IsGood (circuit_of m p)) given → IsInductive (circuit_of m p) given (bad_of m p) → IfOk r (IsMeant m p after)) → IfOk r (IsMeant m p after)
invariant_meant m one p before after f inv given r asked is same so told =
    let h : IsInvariant one inv = subst (IsSo one before) is so in
    told (subst (All (IsGood (circuit_of m p))) (sym same) (good_asked m one p inv asked h))
    (subst (λ (i : List (List Lit)). IsInductive (circuit_of m p) i (bad_of m p)) (sym same) (inductive_asked m one p inv asked h))

-- clauses that are good are refused for no fault of theirs
refused_to : (m : Parts) (p : Property) (inv : List (List Lit)) (after : Steps) (e : CertifyError) → HasProperty m p → IsUncertified m p inv e →
    All (IsGood (circuit_of m p)) inv → IfOk (of_certify e) (IsMeant m p after)
refused_to m p inv after (NoProperty k) there cause good = absurd (cause.1 there)
refused_to m p inv after Limit there cause good = tt
refused_to m p inv after (IdsTaken used_up) there cause good = tt
refused_to m p inv after (NotLatch k) there cause good = absurd (first_fault_refuses (circuit_of m p) inv k fault.NotLatch cause.1.first good)
refused_to m p inv after (Repeated k) there cause good = absurd (first_fault_refuses (circuit_of m p) inv k fault.Repeated cause.1.first good)
refused_to m p inv after (OutOfMemory refused) there cause good = tt

pub refused_meant : (m : Parts) (p : Property) (inv : List (List Lit)) (after : Steps) (e : CertifyError) (r : Result Verdict DecideError) → r ≡ of_certify e →
    HasProperty m p → IsUncertified m p inv e → All (IsGood (circuit_of m p)) inv → IfOk r (IsMeant m p after)
refused_meant m p inv after e r is there cause good = subst (λ (q : Result Verdict DecideError). IfOk q (IsMeant m p after)) (sym is) (refused_to m p inv after e there cause good)

-- ---- reasons

-- a lasso is followed by a run of the shadow circuit that is one time longer
no_lasso : (m : Parts) (n steps : ℕ) → IsWellFormed m → IsClear (shadow_of m n) (Bad 0) steps → HasNoLasso m n steps
no_lasso m n steps well clear initial lines short lasso =
    let carried = lasso_carried m n well initial lines lasso in
    let r : List Valuation = carried.0 in
    let c : Carries m n initial lines lasso.start r = carried.1 in
    let long : length r ≡ length lines + 1 = c.long in
    let unset : All (λ (w : Valuation). value_of w (closing_literal m n) ≡ false) r = clear r (closing_literal m n) c.runs c.keeps (omega (arith, long, short)) refl in
    let last : value_of (at r (length lines)) (closing_literal m n) ≡ false = unset (length lines) [] (omega (arith, long)) in
    false≢true (sym last ∙ c.sets)

clear_alone : (m one : Parts) (p : Property) (steps : ℕ) → IsAlone m p one → IsClear one (Bad 0) steps → IsClear m p steps
clear_alone m one p steps alone clear = clear_named m p alone.bad steps alone.watched (subst (λ (q : Parts). IsClear q (Bad 0) steps) alone.only clear)

free_asked : (m one : Parts) (p : Property) (steps : ℕ) → IsWellFormed m → IsAsked m p one → IsClear one (Bad 0) steps → IsFreeOf m p steps
free_asked m one (Bad n) steps well asked clear = clear_alone m one (Bad n) steps asked clear
free_asked m one (Output n) steps well asked clear = clear_alone m one (Output n) steps asked clear
free_asked m one (Justice n) steps well asked clear = no_lasso m n steps well (subst (λ (q : Parts). IsClear q (Bad 0) steps) asked.is clear)

why_asked : (m one : Parts) (p : Property) (after : Steps) (reason : Reason) → IsWellFormed m → IsAsked m p one → IsHonest one after reason → IsWhy m p after reason
why_asked m one p after Budget well asked h = h
why_asked m one p after (Depth steps) well asked h = free_asked m one p steps well asked h
why_asked m one p after NoEvidence well asked h = absurd h

pub unknown_meant : (m one : Parts) (p : Property) (after : Steps) (f : Finding) (reason : Reason) → IsWellFormed m → IsAsked m p one →
    f ≡ Unknown reason → IsSo one after f → IsWhy m p after reason
unknown_meant m one p after f reason well asked is so = why_asked m one p after reason well asked (subst (IsSo one after) is so)

max_of : (s t : ℕ) → (max s t ≡ s) ⊎ (max s t ≡ t)
max_of s t = elim (cases_lt s t) [ inl below ↦ inr (omega arith) | inr above ↦ inl (omega arith) ]

free_of_max : (m : Parts) (p : Property) (s t : ℕ) → IsFreeOf m p s → IsFreeOf m p t → IsFreeOf m p (max s t)
free_of_max m p s t first second = elim (max_of s t) [
  | inl is ↦ subst (IsFreeOf m p) (sym is) first
  | inr is ↦ subst (IsFreeOf m p) (sym is) second
]

weightier_of_two : (m : Parts) (p : Property) (after : Steps) (told found : Reason) → IsWhy m p after told → IsWhy m p after found → IsWhy m p after (weightier_of told found)
weightier_of_two m p after Budget found first second = first
weightier_of_two m p after (Depth s) Budget first second = second
weightier_of_two m p after (Depth s) (Depth t) first second = free_of_max m p s t first second
weightier_of_two m p after (Depth s) NoEvidence first second = absurd second
weightier_of_two m p after NoEvidence found first second = absurd first

still_why : (m : Parts) (q : Property) (before after : Steps) (told : Reason) → Spends before after → IsWhy m q before told → IsWhy m q after told
still_why m q before after Budget spends h = let less = spends.less in omega (arith, less, h)
still_why m q before after (Depth s) spends h = h
still_why m q before after NoEvidence spends h = absurd h

-- the weightier of what was reported and what one more engine reports is a reason, where the first was none yet or is one
pub weightier_why : (m : Parts) (p : Property) (index : ℕ) (before after : Steps) (told found new : Reason) → Spends before after → (index ≡ 0 → told ≡ NoEvidence) → (0 < index → IsWhy m p before told) →
    IsWhy m p after found → new ≡ weightier_of told found → IsWhy m p after new
weightier_why m p zero before after told found new spends none why second is =
    subst (IsWhy m p after) (sym (is ∙ ap (λ r. weightier_of r found) (none refl))) second
weightier_why m p (suc k) before after told found new spends none why second is =
    subst (IsWhy m p after) (sym is) (weightier_of_two m p after told found (still_why m p before after told spends (why (omega arith))) second)
