-- Clauses of an honest engine are refused for no fault of theirs, and are called no invariant never.
use Rattle.std.proofs.Common.{◌≡◌, ◌≢◌, ℕ, zero, suc, ◌+◌, ◌<◌, ◌≤◌, Bool, true, false, List, [], ◌∷◌, map, length, get_or, All, Contains, ℤ, pos, negsuc, neg_ℤ, unsigned_abs, Result, Ok, Err, IfOk, IfErr, inl, inr, refl, sym, ◌∙◌, ap, subst, arith}
use Rattle.std.proofs.lemmas.Bool.{ne_eqb}
use Rattle.std.proofs.lemmas.List.{append-nil, get_or-map, length-map}
use Rattle.std.proofs.lemmas.List.Elements.{All-head, All-map}
use Rattle.base.specs.Budget.{Steps}
use Rattle.graph.specs.declared.circuit.Lit.{Lit}
use Rattle.graph.specs.declared.circuit.Latch.{Latch}
use Rattle.graph.specs.declared.circuit.Property.TheVariants.{Justice}
use Rattle.graph.specs.declared.parts.Parts.{Parts}
use Rattle.graph.specs.Circuits.{variable}
use Rattle.graph.specs.WellFormed.{IsWellFormed}
use Rattle.graph.proofs.Evaluation.{All-right, latches_even}
use Rattle.lrat.specs.Literals.{IsProper as IsProperClause}
use Rattle.cnf.specs.Clauses.{literal, signed, is_negated}
use Rattle.cnf.specs.Formulas.{IsOverLatches}
use Rattle.cnf.proofs.CaseLaws.{clause_range}
use Rattle.cnf.specs.Invariants.{IsInvariant, IsProper}
use Rattle.extension.specs.Accepted.{IsShowable, bad_of, circuit_of}
use Rattle.extension.specs.Extended.{extended}
use Rattle.extension.specs.Inductive.{IsInductiveOver, IsOverAll}
use Rattle.extension.specs.Rounds.{ended_literal, rounds_of}
use Rattle.checker3.specs.Judged.{IsGrown, IsNoExtension, IsOutside, IsUnshowable}
use Rattle.checker3.specs.declared.check_error.CheckError.{CheckError}
use Rattle.checker3.specs.declared.check_error.CheckError.TheVariants as refusal
use Rattle.certificate3.specs.declared.claim.Claim.{Claim}
use Rattle.certify3.specs.Causes.{HasCause, IsOutsideAt, IsRepeated}
use Rattle.certify3.specs.Outcomes.{IsCertified}
use Rattle.certify3.specs.declared.certified.Certified.{Certified}
use Rattle.certify3.specs.declared.certified.Certified.TheVariants.{Certificate, NotInvariant, Spent, Unaccepted}
use Rattle.certify3.specs.declared.certify_error.CertifyError.{CertifyError}
use Rattle.certify3.specs.declared.certify_error.CertifyError.TheVariants as certify
use Rattle.inductive_proofs.specs.declared.counterexample.Counterexample.{Counterexample}
use Rattle.verdict.specs.declared.decide_error.DecideError.{DecideError}
use Rattle.rounds.specs.Asked.{IsMeantFor, tried_of, tried_on}
use Rattle.rounds.specs.declared.asking.Tried.{Tried}
use Rattle.rounds.proofs.TwoTimes.{inductive_over}

-- nothing more extends nothing
pub plain : (m : Parts) → extended m [] [] ≡ m
plain m =
    let most : m.max_var + 0 + 0 ≡ m.max_var = omega arith in
    rw (most, append-nil m.latches, append-nil m.gates) refl

abbrev claim_of : ℕ → ℕ → Claim
claim_of j k = record { property = Justice j; rounds = k }

-- ---- clauses over the latches

signed_size : (b : Bool) (k : ℕ) → unsigned_abs (signed b k) ≡ k
signed_size true zero = refl
signed_size true (suc k) = refl
signed_size false k = refl

opposed_size : (x : ℤ) → unsigned_abs (neg_ℤ x) ≡ unsigned_abs x
opposed_size (pos zero) = refl
opposed_size (pos (suc n)) = refl
opposed_size (negsuc n) = refl

latch_variable : (m : Parts) (a : Lit) → IsWellFormed m → Contains (map (λ l. variable l.lit) m.latches) (variable a) → variable a ≢ 0
latch_variable m a well (k, k_in, is) none =
    let blank : Latch = record { lit = record { 0 = 0 }; next = record { 0 = 0 }; reset = record { 0 = 0 } } in
    let inside : k < length m.latches = omega (arith, k_in, length-map m.latches (λ (l : Latch). variable l.lit)) in
    let same : variable (get_or m.latches k blank).lit ≡ 0 = sym (get_or-map (λ (l : Latch). variable l.lit) m.latches k blank (variable a) inside) ∙ is ∙ none in
    let even = (latches_even m well k blank inside).0 in
    omega (arith, same, even)

literal_size : (n : ℕ) (a : Lit) → variable a ≢ 0 → unsigned_abs (literal n 0 a) ≡ variable a
literal_size n a nz = let same : 0 + variable a ≡ variable a = omega arith in rw (ne_eqb (variable a) 0 nz) (signed_size (is_negated a) (0 + variable a) ∙ same)

proper_clause : (m : Parts) (c : List Lit) → IsWellFormed m → IsProper m c → IsProperClause (m.max_var + 1) (map (literal m.max_var 0) c)
proper_clause m c well h =
    let f : Lit → ℤ = literal m.max_var 0 in
    let size : All (λ a. unsigned_abs (literal m.max_var 0 a) ≡ variable a) c = λ k d k_in. literal_size m.max_var (get_or c k d) (latch_variable m (get_or c k d) well (h.over k d k_in)) in
    let range = clause_range m c well h.over in (
      All-map (λ l. unsigned_abs l ≤ m.max_var + 1) f c (λ k d k_in. let r = range k d k_in in let s = size k d k_in in omega (arith, r, s)),
      λ i j d lt within.
          let blank : Lit = record { 0 = 0 } in
          let j_in : j < length c = omega (arith, within, length-map c f) in
          let i_in : i < length c = omega (arith, lt, j_in) in
          let at_i : get_or (map f c) i d ≡ f (get_or c i blank) = get_or-map f c i blank d i_in in
          let at_j : get_or (map f c) j d ≡ f (get_or c j blank) = get_or-map f c j blank d j_in in
          let of_i : get_or (map variable c) i 0 ≡ variable (get_or c i blank) = get_or-map variable c i blank 0 i_in in
          let of_j : get_or (map variable c) j 0 ≡ variable (get_or c j blank) = get_or-map variable c j blank 0 j_in in
          let differ : get_or (map variable c) i 0 ≢ get_or (map variable c) j 0 = h.apart i j 0 lt (omega (arith, j_in, length-map c variable)) in (
            λ e. differ (of_i ∙ sym (size i blank i_in) ∙ ap unsigned_abs (sym at_i ∙ e ∙ at_j) ∙ size j blank j_in ∙ sym of_j),
            λ e. differ (of_i ∙ sym (size i blank i_in) ∙ ap unsigned_abs (sym at_i ∙ e ∙ ap neg_ℤ at_j) ∙ opposed_size (f (get_or c j blank)) ∙ size j blank j_in ∙ sym of_j),
          ),
    )

all_over : (m : Parts) (inv : List (List Lit)) → IsInvariant m inv → All (IsOverLatches m) inv
all_over m inv h k d k_in = let proper = h.clauses k d k_in in proper.over

all_in_range : (m : Parts) (inv : List (List Lit)) → IsWellFormed m → IsInvariant m inv → All (IsOverAll m) inv
all_in_range m inv well h k d k_in = let proper = h.clauses k d k_in in clause_range m (get_or inv k d) well proper.over

none_outside : (m : Parts) (inv : List (List Lit)) (k : ℕ) → All (IsOverAll m) inv → IsOutside m inv k → ⊥
none_outside m inv k over h =
    h.outside (All-head (IsOverAll m) h.clause h.after (All-right (IsOverAll m) h.before (h.clause ∷ h.after) (subst (All (IsOverAll m)) h.are over)))

-- ---- refusals

-- what is given of the circuit that counts and the clauses
pub record AreGiven (m : Parts) (j k : ℕ) (inv : List (List Lit)) : Type 0 where
  pub showable : IsShowable m (Justice j) k
  pub well : IsWellFormed (rounds_of m j k)
  pub invariant : IsInvariant (rounds_of m j k) inv

showable_so : (m : Parts) (j k : ℕ) (r : CheckError) → IsShowable m (Justice j) k → IsUnshowable m (Justice j) k r → ⊥
showable_so m j k refusal.NoProperty showable un = un showable.exists
showable_so m j k refusal.TooManyRounds showable un = let few = showable.few in let more = un.1 in omega (arith, few, more)
showable_so m j k refusal.Limit showable un = let within = showable.within in let more = un.2 in omega (arith, within, more)
showable_so m j k refusal.NotExtension showable un = un
showable_so m j k (refusal.Outside i) showable un = un
showable_so m j k (refusal.Line fault) showable un = un

grows : (m : Parts) → IsWellFormed m → IsGrown m [] []
grows m well = record { extends = record { latches = tt; gates = tt }; well_formed = subst IsWellFormed (sym (plain m)) well }

extends_so : (m : Parts) (r : CheckError) → IsWellFormed m → m.max_var ≤ 4194303 → IsNoExtension m [] [] r → ⊥
extends_so m refusal.NoProperty well within none = none
extends_so m refusal.TooManyRounds well within none = none
extends_so m refusal.Limit well within none = omega (arith, within, none)
extends_so m refusal.NotExtension well within none = none (grows m well)
extends_so m (refusal.Outside i) well within none = none
extends_so m (refusal.Line fault) well within none = none

outside_so : (m : Parts) (inv : List (List Lit)) (r : CheckError) → All (IsOverAll m) inv → IsOutsideAt m inv r → ⊥
outside_so m inv refusal.NoProperty over none = none
outside_so m inv refusal.TooManyRounds over none = none
outside_so m inv refusal.Limit over none = none
outside_so m inv refusal.NotExtension over none = none
outside_so m inv (refusal.Outside i) over none = none_outside m inv i over none.1
outside_so m inv (refusal.Line fault) over none = none

repeated_so : (m : Parts) (inv : List (List Lit)) (k : ℕ) → IsWellFormed m → IsInvariant m inv → IsRepeated m inv k → ⊥
repeated_so m inv k well h repeated = repeated.improper (m.max_var + 1) (proper_clause m (get_or inv k []) well (h.clauses k [] repeated.stands))

refused_so : (m : Parts) (j k : ℕ) (inv : List (List Lit)) (after : Steps) (e : CertifyError) → AreGiven m j k inv → HasCause m (claim_of j k) [] [] inv e → IfOk (tried_of e) (IsMeantFor m j k after)
refused_so m j k inv after (certify.NoProperty n) given cause = absurd (cause.1 given.showable.exists)
refused_so m j k inv after (certify.Refused r) given (inl un) = absurd (showable_so m j k r given.showable un)
refused_so m j k inv after (certify.Refused r) given (inr (showable, inl none)) = absurd (extends_so (rounds_of m j k) r given.well showable.within none)
refused_so m j k inv after (certify.Refused r) given (inr (showable, inr (grown, out))) =
    absurd (outside_so (rounds_of m j k) inv r (all_in_range (rounds_of m j k) inv given.well given.invariant) (subst (λ (q : Parts). IsOutsideAt q inv r) (plain (rounds_of m j k)) out))
refused_so m j k inv after certify.TooMany given cause = tt
refused_so m j k inv after (certify.Repeated i) given cause =
    absurd (repeated_so (rounds_of m j k) inv i given.well given.invariant (subst (λ (q : Parts). IsRepeated q inv i) (plain (rounds_of m j k)) cause.2.2))
refused_so m j k inv after (certify.IdsTaken used_up) given cause = tt
refused_so m j k inv after (certify.OutOfMemory refused) given cause = tt

-- ---- what comes of a certificate of such clauses

abbrev pub IsHonestOf : Parts → ℕ → ℕ → List (List Lit) → Certified → Type 0
IsHonestOf m j k inv r = (x : Counterexample) → r ≡ NotInvariant x → IsInductiveOver (extended (circuit_of m (Justice j) k) [] []) inv (bad_of m (Justice j) k) → ⊥

inductive_so : (m : Parts) (j k : ℕ) (inv : List (List Lit)) → AreGiven m j k inv → IsInductiveOver (extended (rounds_of m j k) [] []) inv (ended_literal m j k)
inductive_so m j k inv given =
    subst (λ (q : Parts). IsInductiveOver q inv (ended_literal m j k)) (sym (plain (rounds_of m j k)))
    (inductive_over (rounds_of m j k) inv (ended_literal m j k) given.well (all_over (rounds_of m j k) inv given.invariant) given.invariant.inductive)

pub meant_so : (m : Parts) (j k : ℕ) (inv : List (List Lit)) (after : Steps) (r : Result Certified CertifyError) → AreGiven m j k inv → IfOk r (IsCertified m (claim_of j k) [] [] inv after) →
    IfOk r (IsHonestOf m j k inv) → IfErr r (HasCause m (claim_of j k) [] [] inv) → IfOk (tried_on r) (IsMeantFor m j k after)
meant_so m j k inv after (Ok (Certificate text)) given certified honest refused = tt
meant_so m j k inv after (Ok (NotInvariant x)) given certified honest refused = absurd (honest x refl (inductive_so m j k inv given))
meant_so m j k inv after (Ok Spent) given certified honest refused = certified
meant_so m j k inv after (Ok Unaccepted) given certified honest refused = tt
meant_so m j k inv after (Err e) given certified honest refused = refused_so m j k inv after e given refused

pub meant_on : (m : Parts) (j k : ℕ) (inv : List (List Lit)) (after : Steps) (r : Result Certified CertifyError) (t : Result Tried DecideError) → t ≡ tried_on r → AreGiven m j k inv →
    IfOk r (IsCertified m (claim_of j k) [] [] inv after) → IfOk r (IsHonestOf m j k inv) → IfErr r (HasCause m (claim_of j k) [] [] inv) → IfOk t (IsMeantFor m j k after)
meant_on m j k inv after r t is given certified honest refused =
    subst (λ (q : Result Tried DecideError). IfOk q (IsMeantFor m j k after)) (sym is) (meant_so m j k inv after r given certified honest refused)
