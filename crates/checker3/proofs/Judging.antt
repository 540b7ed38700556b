-- What is found of the evidence, and of a certificate.
use Rattle.std.proofs.Common.{◌≡◌, ℕ, ◌+◌, eqb, true, List, [], ◌∷◌, ◌++◌, Option, None, Some, Result, Ok, inl, inr, sym, subst, length, arith, append-nil}
use Rattle.std.proofs.lemmas.Bool.{eqb-true}
use Rattle.base.specs.Devices.{Leaves, Reads}
use Rattle.graph.specs.declared.circuit.Lit.{Lit}
use Rattle.graph.specs.declared.circuit.Latch.{Latch}
use Rattle.graph.specs.declared.circuit.Gate.{Gate}
use Rattle.graph.specs.declared.parts.Parts.{Parts}
use Rattle.graph.specs.WellFormed.{IsWellFormed}
use Rattle.certificate.specs.declared.reader_error.ReaderError.{ReaderError}
use Rattle.certificate.specs.Streams.{FindsWith}
use Rattle.cnf.specs.Evidences.{Evidence}
use Rattle.extension.specs.Accepted.{IsShowable, bad_of, circuit_of, grown_by}
use Rattle.extension.specs.Extended.{extended}
use Rattle.certificate3.specs.declared.claim.Claim.{Claim}
use Rattle.certificate3.specs.Reading.{clauses_at, evidence_of}
use Rattle.certificate3.specs.Texts.{Proofs}
use Rattle.certificate3.proofs.CertificateLaws.{clauses_reads}
use Rattle.certificate3.proofs.ChainLaws.{knows, reads_to}
use Rattle.certificate3.proofs.SkipLaws.{Skips}
use Rattle.checker3.specs.declared.check_error.CheckError.{CheckError}
use Rattle.checker3.specs.Judged.{IsGrown, IsJudged, IsJudgedFor, IsNoExtension, IsProvedOver}

-- what is found over the extended circuit is found for the circuit
pub judged_over : (m : Parts) (a : Lit) (e : Evidence) (x : Option CheckError) → IsGrown m e.latches e.gates → IsProvedOver (grown_by m e) a e x → IsJudgedFor m a e x
judged_over m a e None grown (few, over, has) = record {
  few = few;
  extends = grown.extends;
  well_formed = grown.well_formed;
  clauses = over;
  first = has.0;
  step = has.1.0;
  lines = has.1.1.0;
  last = has.1.1.1;
}
judged_over m a e (Some r) grown proved = inr (grown, proved)

by_answer : (m : Parts) (claim : Claim) (e : Evidence) (x : Option CheckError) → IsShowable m claim.property claim.rounds → IsJudgedFor (circuit_of m claim.property claim.rounds) (bad_of m claim.property claim.rounds) e x
    → IsJudged m (record { claim = claim; evidence = e }) x
by_answer m claim e None showable judged = record { showable = showable; accepted = judged }
by_answer m claim e (Some r) showable judged = inr (showable, judged)

-- what is found for the circuit and the literal of the property is found of the certificate
pub judged_for : (m s : Parts) (a : Lit) (claim : Claim) (e : Evidence) (x : Option CheckError) → IsShowable m claim.property claim.rounds → s ≡ circuit_of m claim.property claim.rounds → a ≡ bad_of m claim.property claim.rounds
    → IsJudgedFor s a e x → IsJudged m (record { claim = claim; evidence = e }) x
judged_for m s a claim e x showable circuit literal judged =
    by_answer m claim e x showable (subst (λ (b : Lit). IsJudgedFor (circuit_of m claim.property claim.rounds) b e x) literal (subst (λ (t : Parts). IsJudgedFor t a e x) circuit judged))

-- ---- behind the latches and gates

judged_here : (m s : Parts) (a : Lit) (ls : List Latch) (gs : List Gate) (inv : List (List Lit)) (p : Proofs) (e : Evidence) (x : Option CheckError) → e ≡ evidence_of ls gs inv p → s ≡ extended m ls gs → IsGrown m ls gs → IsProvedOver s a e x → IsJudgedFor m a e x
judged_here m s a ls gs inv p e x is same grown proved =
    subst (λ (f : Evidence). IsJudgedFor m a f x) (sym is)
    (judged_over m a (evidence_of ls gs inv p) x grown (subst (λ (f : Evidence). IsProvedOver (extended m ls gs) a f x) is (subst (λ (t : Parts). IsProvedOver t a e x) same proved)))

pub clauses_over : (m s : Parts) (a : Lit) (ls : List Latch) (gs : List Gate) (r : Result (Option CheckError) ReaderError) (before after : Leaves) (held later : List ℕ) → s ≡ extended m ls gs → IsGrown m ls gs
    → Reads before after (λ ys zs. FindsWith (IsProvedOver s a) (clauses_at ls gs (held ++ ys)) r later zs) → Reads before after (λ ys zs. FindsWith (IsJudgedFor m a) (clauses_at ls gs (held ++ ys)) r later zs)
clauses_over m s a ls gs r before after held later same grown one =
    knows (IsProvedOver s a) (IsJudgedFor m a) (clauses_at ls gs) r before after held later
    (λ bytes rest e x is proved. let w = ((clauses_reads ls gs).sound bytes e rest is).1 in judged_here m s a ls gs w.invariant w.proofs e x w.is same grown proved) one

skipped_here : (m : Parts) (a : Lit) (ls : List Latch) (gs : List Gate) (inv : List (List Lit)) (p : Proofs) (e : Evidence) (r : CheckError) → e ≡ evidence_of ls gs inv p → IsNoExtension m ls gs r → IsJudgedFor m a e (Some r)
skipped_here m a ls gs inv p e r is none = subst (λ (f : Evidence). IsJudgedFor m a f (Some r)) (sym is) (inl none)

pub clauses_skipped : (m : Parts) (a : Lit) (ls : List Latch) (gs : List Gate) (r : CheckError) (before after : Leaves) (held later : List ℕ) → IsNoExtension m ls gs r
    → Reads before after (λ ys zs. FindsWith Skips (clauses_at ls gs (held ++ ys)) (Ok (tt {0})) later zs) → Reads before after (λ ys zs. FindsWith (IsJudgedFor m a) (clauses_at ls gs (held ++ ys)) (Ok (Some r)) later zs)
clauses_skipped m a ls gs r before after held later none one =
    reads_to Skips (IsJudgedFor m a) (clauses_at ls gs) (tt {0}) (Some r) before after held later
    (λ bytes rest e is u. let w = ((clauses_reads ls gs).sound bytes e rest is).1 in skipped_here m a ls gs w.invariant w.proofs e r w.is none) one

-- ---- without latches and gates

none_same : (m : Parts) → m ≡ extended m [] []
none_same m =
    let most : m.max_var ≡ m.max_var + 0 + 0 = omega arith in
    λ i. record m { max_var = most i; latches = sym (append-nil m.latches) i; gates = sym (append-nil m.gates) i }

pub nothing_same : (m : Parts) (ls : List Latch) (gs : List Gate) → true ≡ eqb (length ls) 0 → true ≡ eqb (length gs) 0 → m ≡ extended m ls gs
nothing_same m [] [] l g = none_same m
nothing_same m [] (x ∷ gs) l g = absurd (omega (arith, eqb-true (length (x ∷ gs)) 0 (sym g)))
nothing_same m (x ∷ ls) gs l g = absurd (omega (arith, eqb-true (length (x ∷ ls)) 0 (sym l)))

pub nothing_grown : (m : Parts) (ls : List Latch) (gs : List Gate) → true ≡ eqb (length ls) 0 → true ≡ eqb (length gs) 0 → IsWellFormed m → IsGrown m ls gs
nothing_grown m [] [] l g formed = record { extends = record { latches = tt; gates = tt }; well_formed = subst IsWellFormed (none_same m) formed }
nothing_grown m [] (x ∷ gs) l g formed = absurd (omega (arith, eqb-true (length (x ∷ gs)) 0 (sym g)))
nothing_grown m (x ∷ ls) gs l g formed = absurd (omega (arith, eqb-true (length (x ∷ ls)) 0 (sym l)))
