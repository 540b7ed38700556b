-- The circuit and the literal of which a claim speaks.
use Rattle.std.proofs.Common.{◌≡◌, ℕ, ◌+◌, ◌*◌, ◌^◌, ◌<◌, ◌≤◌, List, length, get_or, Contains, Result, IfOk, arith, refl, sym, ap, ◌∙◌, subst}
use Rattle.std.proofs.lemmas.List.Elements.{All-contains}
use Rattle.graph.specs.declared.circuit.Lit.{Lit}
use Rattle.graph.specs.declared.circuit.Latch.{Latch}
use Rattle.graph.specs.declared.circuit.Gate.{Gate}
use Rattle.graph.specs.declared.circuit.Property.{Property}
use Rattle.graph.specs.declared.circuit.Property.TheVariants.{Bad, Justice, Output}
use Rattle.graph.specs.declared.parts.Parts.{Parts}
use Rattle.graph.specs.Circuits.{HasProperty}
use Rattle.graph.specs.WellFormed.{IsWellFormed, used}
use Rattle.stimulus.proofs.Watching.{bad_watched, output_watched}
use Rattle.lrat.proofs.Fit.{if_ok}
use Rattle.cnf.specs.Formulas.{IsInRange}
use Rattle.cnf.proofs.Safety.{watched_used}
use Rattle.extension.specs.Accepted.{IsShowable, bad_of, circuit_of}
use Rattle.extension.specs.Extended.{extended}
use Rattle.extension.specs.Rounds.{rounds_of}
use Rattle.certificate3.specs.declared.claim.Claim.{Claim}
use Rattle.checker3.specs.Judged.{IsGrown}
use Rattle.certify3.specs.Subjects.{IsGrownFor, IsSubject}
use Rattle.certify3.specs.declared.certify_error.CertifyError.{CertifyError}
use Rattle.inductive_proofs.specs.declared.subject.Subject.{Subject}

abbrev blank : Lit
blank = record { 0 = 0 }

-- a literal that a property watches is in range
watched_range : (m : Parts) (a : Lit) → IsWellFormed m → Contains (used m) a → IsInRange m.max_var a
watched_range m a well found = All-contains (IsInRange m.max_var) (used m) a well.used_in_range found

pub bad_range : (m : Parts) (p : Property) (n : ℕ) (xs : List Lit) → IsWellFormed m → p ≡ Bad n → xs ≡ m.bad → HasProperty m p → IsInRange m.max_var (get_or xs n (record { 0 = 0 }))
bad_range m p n xs well is are there = watched_range m (get_or xs n blank) well (watched_used m p (get_or xs n blank) (bad_watched m p n xs blank is are there))

pub output_range : (m : Parts) (p : Property) (n : ℕ) (xs : List Lit) → IsWellFormed m → p ≡ Output n → xs ≡ m.outputs → HasProperty m p → IsInRange m.max_var (get_or xs n (record { 0 = 0 }))
output_range m p n xs well is are there = watched_range m (get_or xs n blank) well (watched_used m p (get_or xs n blank) (output_watched m p n xs blank is are there))

pub bad_here : (m : Parts) (p : Property) (k n : ℕ) (xs : List Lit) → p ≡ Bad n → xs ≡ m.bad → get_or xs n (record { 0 = 0 }) ≡ bad_of m p k
bad_here m p k n xs is are = ap (λ (ys : List Lit). get_or ys n blank) are ∙ ap (λ q. bad_of m q k) (sym is)

pub output_here : (m : Parts) (p : Property) (k n : ℕ) (xs : List Lit) → p ≡ Output n → xs ≡ m.outputs → get_or xs n (record { 0 = 0 }) ≡ bad_of m p k
output_here m p k n xs is are = ap (λ (ys : List Lit). get_or ys n blank) are ∙ ap (λ q. bad_of m q k) (sym is)

pub showable_here : (m : Parts) (claim : Claim) → IsWellFormed m → m ≡ circuit_of m claim.property claim.rounds → HasProperty m claim.property → claim.rounds ≤ 2 ^ length m.latches → IsShowable m claim.property claim.rounds
showable_here m claim well circuit there few = record { exists = there; few = few; within = subst (λ (s : Parts). s.max_var ≤ 4194303) circuit well.limits.max_var }

-- ---- justice

pub ended_here : (m s : Parts) (p : Property) (k n : ℕ) (xs : List Lit) → p ≡ Justice n → s ≡ rounds_of m n k → xs ≡ s.bad → get_or xs 0 (record { 0 = 0 }) ≡ bad_of m p k
ended_here m s p k n xs is same are = ap (λ (ys : List Lit). get_or ys 0 blank) (are ∙ ap (λ (t : Parts). t.bad) same) ∙ ap (λ q. bad_of m q k) (sym is)

pub ended_range : (m s : Parts) (k n : ℕ) (xs : List Lit) → IsWellFormed s → s ≡ rounds_of m n k → xs ≡ s.bad → IsInRange s.max_var (get_or xs 0 (record { 0 = 0 }))
ended_range m s k n xs well same are =
    let some : 0 < length s.bad = subst (λ (ys : List Lit). 0 < length ys) (sym (ap (λ (t : Parts). t.bad) same)) (omega arith) in
    bad_range s (Bad 0) 0 xs well refl are some

pub counter_here : (m s : Parts) (p : Property) (k n : ℕ) → p ≡ Justice n → s ≡ rounds_of m n k → s ≡ circuit_of m p k
counter_here m s p k n is same = same ∙ ap (λ q. circuit_of m q k) (sym is)

pub countable_here : (m : Parts) (claim : Claim) (n : ℕ) → claim.property ≡ Justice n → HasProperty m claim.property → claim.rounds ≤ 2 ^ length m.latches → (rounds_of m n claim.rounds).max_var ≤ 4194303 → IsShowable m claim.property claim.rounds
countable_here m claim n is there few within = record { exists = there; few = few; within = subst (λ q. (circuit_of m q claim.rounds).max_var ≤ 4194303) (sym is) within }

-- ---- with latches and gates

wider : (s : Parts) (ls : List Latch) (gs : List Gate) (a : Lit) → IsInRange s.max_var a → IsInRange (extended s ls gs).max_var a
wider s ls gs a range =
    let r : a.0 ≤ 2 * s.max_var + 1 = range in
    omega (arith, r)

pub subject_is : (m s : Parts) (claim : Claim) (ls : List Latch) (gs : List Gate) (a : Lit) (x : Subject) → IsShowable m claim.property claim.rounds → s ≡ circuit_of m claim.property claim.rounds → a ≡ bad_of m claim.property claim.rounds →
    IsInRange s.max_var a → IsGrownFor s ls gs x.circuit → x.bad ≡ a → IsSubject m claim ls gs x
subject_is m s claim ls gs a x showable same literal range grown is = record {
  showable = showable;
  circuit = grown.0 ∙ ap (λ (t : Parts). extended t ls gs) same;
  grown = subst (λ (t : Parts). IsGrown t ls gs) same grown.1;
  bad = is ∙ literal;
  in_range = subst (λ (t : Parts). IsInRange t.max_var x.bad) (sym grown.0) (subst (λ (b : Lit). IsInRange (extended s ls gs).max_var b) (sym is) (wider s ls gs a range));
}

pub subject_for_is : (m s : Parts) (claim : Claim) (ls : List Latch) (gs : List Gate) (a : Lit) (r : Result Subject CertifyError) → IsShowable m claim.property claim.rounds → s ≡ circuit_of m claim.property claim.rounds →
    a ≡ bad_of m claim.property claim.rounds → IsInRange s.max_var a → IfOk r (λ x. IsGrownFor s ls gs x.circuit × (x.bad ≡ a)) → IfOk r (IsSubject m claim ls gs)
subject_for_is m s claim ls gs a r showable same literal range made =
    if_ok (λ x. IsGrownFor s ls gs x.circuit × (x.bad ≡ a)) (IsSubject m claim ls gs) r (λ x is. subject_is m s claim ls gs a x showable same literal range is.0 is.1) made
