-- What is known of one number of rounds, and of the next.
use Rattle.std.proofs.Common.{◌≡◌, ◌↔◌, ℕ, zero, suc, ◌+◌, ◌-◌, ◌*◌, ◌^◌, ◌<◌, ◌≤◌, ◌⊎◌, Bool, true, false, IsTrue, List, [], ◌∷◌, length, Result, Ok, Err, IfOk, inl, inr, refl, sym, ◌∙◌, ap, subst, arith}
use Rattle.std.proofs.lemmas.Bool.{cases_lt, false≢true}
use Rattle.std.proofs.lemmas.Grind.{pow_more}
use Rattle.base.specs.Budget.{Steps}
use Rattle.graph.specs.declared.circuit.Lit.{Lit}
use Rattle.graph.specs.declared.circuit.Latch.{Latch}
use Rattle.graph.specs.declared.circuit.Gate.{Gate}
use Rattle.graph.specs.declared.circuit.Property.TheVariants.{Bad, Justice}
use Rattle.graph.specs.declared.parts.Parts.{Parts}
use Rattle.graph.specs.Circuits.{IsUpheld, Valuation, value_of}
use Rattle.graph.specs.WellFormed.{IsWellFormed}
use Rattle.graph.proofs.Alone.{watched_one}
use Rattle.stimulus.specs.declared.value.Stimulus.TheVariants.{Violated}
use Rattle.stimulus.specs.Shown.{Begins, Shows, last_of}
use Rattle.extension.specs.Accepted.{AcceptedLaw, AcceptedRoundsLaw}
use Rattle.extension.specs.Rounds.{ExactLaw, HoldsFew, HoldsMore, ended_literal, rounds_of}
use Rattle.certify3.specs.Outcomes.{IsCertificateOf, IsCertified}
use Rattle.certify3.specs.declared.certified.Certified.{Certified}
use Rattle.certify3.specs.declared.certified.Certified.TheVariants.{Certificate, NotInvariant, Spent, Unaccepted}
use Rattle.certify3.specs.declared.certify_error.CertifyError.{CertifyError}
use Rattle.certify3.specs.declared.certify_error.CertifyError.TheVariants as certify
use Rattle.verdict.specs.declared.decide_error.DecideError.{DecideError}
use Rattle.rounds.specs.Asked.{IsTried, tried_of, tried_on}
use Rattle.rounds.specs.Counted.{AreHeld, IsShownBy}
use Rattle.rounds.specs.declared.asking.Tried.{Tried}
use Rattle.rounds.specs.declared.asking.Tried.TheVariants.{Exceeded}

-- ---- runs

inside_last : (m : Parts) (initial : List Bool) (r : List Valuation) → Begins m initial r → length r - 1 < length r
inside_last m initial [] begins = absurd begins
inside_last m initial (w ∷ r) begins = omega arith

no_justice : (n : ℕ) → Bad 0 ≡ Justice n → ⊥
no_justice n is = cc

-- a run of the circuit that counts, which sets its bad literal, holds more rounds
pub shown_more : (m : Parts) (j k : ℕ) (initial : List Bool) (inputs : List (List Bool)) → ExactLaw m j k → Shows (rounds_of m j k) (Violated (Bad 0) initial inputs) → HoldsMore m j k
shown_more m j k initial inputs exact (inl shows) =
    let same : shows.bad ≡ ended_literal m j k = watched_one (rounds_of m j k) (Bad 0) shows.bad (ended_literal m j k) shows.watched refl in
    exact (record {
      run = shows.replay;
      time = length shows.replay - 1;
      runs = shows.runs;
      keeps = shows.keeps;
      inside = inside_last (rounds_of m j k) initial shows.replay shows.replays.begins;
      sets = subst (λ (a : Lit). value_of (last_of shows.replay) a ≡ true) same shows.sets;
    })
shown_more m j k initial inputs exact (inr lasso) = absurd (no_justice lasso.position lasso.names)

-- ---- certificates

pub shown_by : (m : Parts) (j k : ℕ) (ls : List Latch) (gs : List Gate) (inv : List (List Lit)) (text : List ℕ) → AcceptedLaw → AcceptedRoundsLaw → IsWellFormed m →
    IsCertificateOf m (record { property = Justice j; rounds = k }) ls gs inv text → IsShownBy m j k text × IsUpheld m (Justice j) × HoldsFew m j k
shown_by m j k ls gs inv text law few well h = (
  record {
    evidence = h.evidence;
    is_text = h.is_text;
  },
  law m (Justice j) k h.evidence well h.is_text.accepted,
  few m j k h.evidence well h.is_text.accepted,
)

refused_tried : (m : Parts) (j k : ℕ) (e : CertifyError) → IfOk (tried_of e) (IsTried m j k)
refused_tried m j k (certify.NoProperty n) = tt
refused_tried m j k (certify.Refused r) = tt
refused_tried m j k certify.TooMany = tt
refused_tried m j k (certify.Repeated i) = tt
refused_tried m j k (certify.IdsTaken used_up) = tt
refused_tried m j k (certify.OutOfMemory refused) = tt

tried_so : (m : Parts) (j k : ℕ) (inv : List (List Lit)) (after : Steps) (r : Result Certified CertifyError) → AcceptedLaw → AcceptedRoundsLaw → IsWellFormed m →
    IfOk r (IsCertified m (record { property = Justice j; rounds = k }) [] [] inv after) → IfOk (tried_on r) (IsTried m j k)
tried_so m j k inv after (Ok (Certificate text)) law few well h = shown_by m j k [] [] inv text law few well h
tried_so m j k inv after (Ok (NotInvariant x)) law few well h = tt
tried_so m j k inv after (Ok Spent) law few well h = tt
tried_so m j k inv after (Ok Unaccepted) law few well h = tt
tried_so m j k inv after (Err e) law few well h = refused_tried m j k e

pub tried_by_clauses : (m : Parts) (j k : ℕ) (inv : List (List Lit)) (after : Steps) (r : Result Certified CertifyError) (t : Result Tried DecideError) → t ≡ tried_on r → AcceptedLaw → AcceptedRoundsLaw → IsWellFormed m →
    IfOk r (IsCertified m (record { property = Justice j; rounds = k }) [] [] inv after) → IfOk t (IsTried m j k)
tried_by_clauses m j k inv after r t is law few well h =
    subst (λ (q : Result Tried DecideError). IfOk q (IsTried m j k)) (sym is) (tried_so m j k inv after r law few well h)

-- ---- one number after the other

doubled : (n : ℕ) → 2 ^ suc n ≡ 2 * 2 ^ n
doubled n =
    let same : suc n ≡ n + 1 = omega arith in
    let turn : 2 ^ n * 2 ≡ 2 * 2 ^ n = omega arith in
    ap (λ k. 2 ^ k) same ∙ pow_more 2 n ∙ turn

pow_positive : (n : ℕ) → 0 < 2 ^ n
pow_positive zero = omega arith
pow_positive (suc n) = let h = pow_positive n in let more : 2 ^ suc n ≡ 2 * 2 ^ n = doubled n in omega (arith, h, more)

-- of two powers, the lesser of which is more than half of the greater, both are one
half_power : (i n : ℕ) → 2 ^ i ≤ 2 ^ n → 2 ^ n < 2 * 2 ^ i → 2 ^ i ≡ 2 ^ n
half_power zero n le lt = let h = pow_positive n in omega (arith, h, le, lt)
half_power (suc i) zero le lt = let h = pow_positive i in let more : 2 ^ suc i ≡ 2 * 2 ^ i = doubled i in absurd (omega (arith, h, more, le))
half_power (suc i) (suc n) le lt =
    let more : 2 ^ suc i ≡ 2 * 2 ^ i = doubled i in
    let most : 2 ^ suc n ≡ 2 * 2 ^ n = doubled n in
    let same : 2 ^ i ≡ 2 ^ n = half_power i n (omega (arith, more, most, le)) (omega (arith, more, most, lt)) in
    more ∙ ap (λ x. 2 * x) same ∙ sym most

-- the numbers that are asked about
abbrev pub IsAskedFor : ℕ → Type 0
IsAskedFor k = (k ≡ 0) ⊎ ((i : ℕ) × (k ≡ 2 ^ i))

pub asked_next : (k next : ℕ) → IsAskedFor k → (k ≡ 0 → next ≡ 1) → (0 < k → next ≡ 2 * k) → IsAskedFor next
asked_next k next (inl none) first later = inr (0, first none)
asked_next k next (inr (i, is)) first later =
    let h = pow_positive i in let more : 2 ^ suc i ≡ 2 * 2 ^ i = doubled i in
    inr (suc i, later (omega (arith, h, is)) ∙ ap (λ x. 2 * x) is ∙ sym more)

-- behind the last number a run holds more rounds than there are states
pub held_over : (k next n : ℕ) → IsAskedFor k → (k ≡ 0 → next ≡ 1) → (0 < k → next ≡ 2 * k) → k ≤ 2 ^ n → 2 ^ n < next → 2 ^ n < k + 1
held_over k next n (inl none) first later le lt = let one = first none in let h = pow_positive n in absurd (omega (arith, one, h, lt))
held_over k next n (inr (i, is)) first later le lt =
    let h = pow_positive i in
    let twice = later (omega (arith, h, is)) in
    let same = half_power i n (omega (arith, is, le)) (omega (arith, is, twice, lt)) in
    omega (arith, same, is)

-- the next number is greater than the number
pub behind_next : (k next : ℕ) → (k ≡ 0 → next ≡ 1) → (0 < k → next ≡ 2 * k) → k + 1 ≤ next
behind_next k next first later = elim (cases_lt 0 k) [
  | inl more ↦ let twice = later more in omega (arith, more, twice)
  | inr none ↦ let same : k ≡ 0 = omega (arith, none) in let one = first same in omega (arith, same, one)
]

-- whether it is at most the number of states is asked with the latches in a slice
pub few_next : (b : Bool) (next : ℕ) (ls slice : List Latch) → b ≡ true → slice ≡ ls → (IsTrue b ↔ next ≤ 2 ^ length slice) → next ≤ 2 ^ length ls
few_next b next ls slice on same h = subst (λ (xs : List Latch). next ≤ 2 ^ length xs) same (h.0 on)

pub many_next : (b : Bool) (next : ℕ) (ls slice : List Latch) → b ≡ false → slice ≡ ls → (IsTrue b ↔ next ≤ 2 ^ length slice) → 2 ^ length ls < next
many_next b next ls slice off same h = elim (cases_lt (2 ^ length ls) next) [
  | inl more ↦ more
  | inr few ↦ absurd (false≢true (sym off ∙ h.1 (subst (λ (xs : List Latch). next ≤ 2 ^ length xs) (sym same) few)))
]

pub held_now : (m : Parts) (j k : ℕ) (t : Tried) → t ≡ Exceeded → IsTried m j k t → AreHeld m j (k + 1)
held_now m j k t is tried = inr (k, refl, subst (IsTried m j k) is tried)
