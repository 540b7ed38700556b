-- The circuit and the literal of which a claim speaks.
use Rattle.std.proofs.Common.{◌≡◌, ℕ, ◌^◌, ◌<◌, ◌≤◌, List, Some, length, get_or, Contains, arith, refl, sym, ap, ◌∙◌, subst, inl}
use Rattle.std.proofs.lemmas.List.Elements.{All-contains}
use Rattle.graph.specs.declared.circuit.Lit.{Lit}
use Rattle.graph.specs.declared.circuit.Property.{Property}
use Rattle.graph.specs.declared.circuit.Property.TheVariants.{Bad, Justice, Output}
use Rattle.graph.specs.declared.parts.Parts.{Parts}
use Rattle.graph.specs.Circuits.{HasProperty}
use Rattle.graph.specs.WellFormed.{IsWellFormed, used}
use Rattle.stimulus.proofs.Watching.{bad_watched, output_watched}
use Rattle.cnf.specs.Formulas.{IsInRange}
use Rattle.cnf.proofs.Safety.{watched_used}
use Rattle.cnf.specs.Evidences.{Evidence}
use Rattle.extension.specs.Accepted.{IsShowable, bad_of, circuit_of}
use Rattle.extension.specs.Rounds.{rounds_of}
use Rattle.certificate3.specs.declared.claim.Claim.{Claim}
use Rattle.checker3.specs.declared.check_error.CheckError.{CheckError}
use Rattle.checker3.specs.declared.check_error.CheckError.TheVariants.{Limit}
use Rattle.checker3.specs.Judged.{IsJudged, IsUnshowable}

abbrev blank : Lit
blank = record { 0 = 0 }

-- a literal that a property watches is in range
watched_range : (m : Parts) (a : Lit) → IsWellFormed m → Contains (used m) a → IsInRange m.max_var a
watched_range m a well found = All-contains (IsInRange m.max_var) (used m) a well.used_in_range found

pub bad_range : (m : Parts) (p : Property) (n : ℕ) (xs : List Lit) → IsWellFormed m → p ≡ Bad n → xs ≡ m.bad → HasProperty m p → IsInRange m.max_var (get_or xs n (record { 0 = 0 }))
bad_range m p n xs well is are there = watched_range m (get_or xs n blank) well (watched_used m p (get_or xs n blank) (bad_watched m p n xs blank is are there))

pub output_range : (m : Parts) (p : Property) (n : ℕ) (xs : List Lit) → IsWellFormed m → p ≡ Output n → xs ≡ m.outputs → HasProperty m p → IsInRange m.max_var (get_or xs n (record { 0 = 0 }))
output_range m p n xs well is are there = watched_range m (get_or xs n blank) well (watched_used m p (get_or xs n blank) (output_watched m p n xs blank is are there))

pub bad_here : (m : Parts) (p : Property) (k n : ℕ) (xs : List Lit) → p ≡ Bad n → xs ≡ m.bad → get_or xs n (record { 0 = 0 }) ≡ bad_of m p k
bad_here m p k n xs is are = ap (λ (ys : List Lit). get_or ys n blank) are ∙ ap (λ q. bad_of m q k) (sym is)

pub output_here : (m : Parts) (p : Property) (k n : ℕ) (xs : List Lit) → p ≡ Output n → xs ≡ m.outputs → get_or xs n (record { 0 = 0 }) ≡ bad_of m p k
output_here m p k n xs is are = ap (λ (ys : List Lit). get_or ys n blank) are ∙ ap (λ q. bad_of m q k) (sym is)

pub showable_here : (m : Parts) (claim : Claim) → IsWellFormed m → m ≡ circuit_of m claim.property claim.rounds → HasProperty m claim.property → claim.rounds ≤ 2 ^ length m.latches → IsShowable m claim.property claim.rounds
showable_here m claim well circuit there few = record { exists = there; few = few; within = subst (λ (s : Parts). s.max_var ≤ 4194303) circuit well.limits.max_var }

pub unshowable_here : (m : Parts) (claim : Claim) (e : Evidence) (r : CheckError) → IsUnshowable m claim.property claim.rounds r → IsJudged m (record { claim = claim; evidence = e }) (Some r)
unshowable_here m claim e r none = inl none

-- ---- justice

pub ended_here : (m s : Parts) (p : Property) (k n : ℕ) (xs : List Lit) → p ≡ Justice n → s ≡ rounds_of m n k → xs ≡ s.bad → get_or xs 0 (record { 0 = 0 }) ≡ bad_of m p k
ended_here m s p k n xs is same are = ap (λ (ys : List Lit). get_or ys 0 blank) (are ∙ ap (λ (t : Parts). t.bad) same) ∙ ap (λ q. bad_of m q k) (sym is)

pub ended_range : (m s : Parts) (k n : ℕ) (xs : List Lit) → IsWellFormed s → s ≡ rounds_of m n k → xs ≡ s.bad → IsInRange s.max_var (get_or xs 0 (record { 0 = 0 }))
ended_range m s k n xs well same are =
    let some : 0 < length s.bad = subst (λ (ys : List Lit). 0 < length ys) (sym (ap (λ (t : Parts). t.bad) same)) (omega arith) in
    bad_range s (Bad 0) 0 xs well refl are some

pub counter_here : (m s : Parts) (p : Property) (k n : ℕ) → p ≡ Justice n → s ≡ rounds_of m n k → s ≡ circuit_of m p k
counter_here m s p k n is same = same ∙ ap (λ q. circuit_of m q k) (sym is)

pub countable_here : (m : Parts) (claim : Claim) (n : ℕ) → claim.property ≡ Justice n → HasProperty m claim.property → claim.rounds ≤ 2 ^ length m.latches → (rounds_of m n claim.rounds).max_var ≤ 4194303 → IsShowable m claim.property claim.rounds
countable_here m claim n is there few within = record { exists = there; few = few; within = subst (λ q. (circuit_of m q claim.rounds).max_var ≤ 4194303) (sym is) within }

pub limit_here : (m : Parts) (claim : Claim) (n : ℕ) → claim.property ≡ Justice n → HasProperty m claim.property → claim.rounds ≤ 2 ^ length m.latches → 4194303 < (rounds_of m n claim.rounds).max_var → IsUnshowable m claim.property claim.rounds Limit
limit_here m claim n is there few many = (there, few, subst (λ q. 4194303 < (circuit_of m q claim.rounds).max_var) (sym is) many)
