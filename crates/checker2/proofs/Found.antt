-- What is found of a certificate while its text is read.
use Rattle.base.specs.Witness.{witness}
use Rattle.std.proofs.Common.{◌≡◌, ◌≢◌, ℕ, ◌+◌, ◌*◌, ◌≤◌, List, ◌++◌, length, All, Option, None, Some, Result, Ok, Err, inl, inr, refl, sym, ap, subst, arith}
use Rattle.graph.specs.declared.circuit.Lit.{Lit}
use Rattle.graph.specs.declared.circuit.Property.{Property as AProperty}
use Rattle.graph.specs.declared.parts.Parts.{Parts}
use Rattle.lrat.specs.declared.fault.Fault.{Fault}
use Rattle.lrat.specs.Numbers.{number_of as fault_number}
use Rattle.lrat.specs.Shared.{Base}
use Rattle.certificate.specs.declared.certificate.Certificate.{Certificate}
use Rattle.certificate.specs.declared.head.Version.{Version}
use Rattle.certificate.specs.declared.reader_error.ReaderError.{ReaderError}
use Rattle.certificate.specs.Streams.{FindsWith, parts_at}
use Rattle.checker2.specs.declared.check_error.CheckError.{CheckError}
use Rattle.checker2.specs.declared.check_error.CheckError.TheVariants.{OutOfMemory, Section}
use Rattle.checker2.specs.Accepted.{IsGood, IsShared, IsShowable, IsAcceptedFor, cases, circuit_of, bad_of}
use Rattle.checker2.specs.Causes.{HasCauseFor, IsCounted, lemma_sections}
use Rattle.checker2.specs.Numbers.{number_of}
use Rattle.checker2.specs.Streamed.{AreOfCases, AreTaken, HasSections, IsFound, IsFoundFor}
use Rattle.checker2.proofs.Accepted.{cause_of_circuit}
use Rattle.checker2.proofs.Streaming.{first_refused, refute_all}
use Rattle.checker2.proofs.TextParts.{parts_read}

-- the sections of the cases, where all lemmas are shared
pub has_sections : (m : Parts) (a : Lit) (c : Certificate) (b : Base) (found : Option Fault) → IsShared m c.invariant c.lemmas b → AreOfCases (cases m b c.invariant a) c.sections found → HasSections m a c found
has_sections m a c b None shared are = (b, shared, refute_all (cases m b c.invariant a) c.sections are)
has_sections m a c b (Some e) shared first =
    let (line, k, refused) = first_refused (lemma_sections c.lemmas) (cases m b c.invariant a) c.sections e first in
    (line, k, inr (b, shared, refused))

-- the lemmas are refused
pub lemmas_refused : (m : Parts) (a : Lit) (c : Certificate) (b : Base) (e : Fault) → AreTaken m c.invariant b c.lemmas (Some e) → HasSections m a c (Some e)
lemmas_refused m a c b e (line, refused) = (line, 0, inl refused)

-- the number of a fault
abbrev pub number : Option Fault → Option ℕ
number None = None
number (Some e) = Some (fault_number e)

pub found_for : (m : Parts) (a : Lit) (c : Certificate) (found : Option Fault) → IsCounted c → All (IsGood m) c.invariant → HasSections m a c found → IsFoundFor m a c (number found)
found_for m a c None counts good (b, shared, refute) = record {
  few = let few = counts.few in omega (arith, few);
  count = counts.count;
  clauses = good;
  base = b;
  shared = shared;
  sections = refute;
}
found_for m a c (Some e) counts good (line, k, refused) =
    (Section (record { fault = e; line = line }) k, (λ memory. absurd cc), (counts, good, refused), refl)

-- a cause that was found before the sections
pub refused_for : (m : Parts) (a : Lit) (c : Certificate) (e : CheckError) (found : Option ℕ) → (n : ℕ) → found ≡ Some n → e ≢ OutOfMemory witness → HasCauseFor m a c e → n ≡ number_of e → IsFoundFor m a c found
refused_for m a c e found n is ne cause same = subst (λ o. IsFoundFor m a c o) (sym is) (e, ne, cause, same)

-- what is read with these clauses is counted
counted : (inv : List (List Lit)) (c : Certificate) → length inv ≤ 4194303 → c.invariant ≡ inv → length c.sections ≡ 2 * length inv + 1 → IsCounted c
counted inv c few is count = record {
  few = omega (arith, few, ap length is);
  count = omega (arith, count, ap length is);
}

-- the sections were checked, and what was found has this number
pub parts_found : (m : Parts) (a : Lit) (v : Version) (p : AProperty) (inv : List (List Lit)) (bytes held later : List ℕ) (found : Option Fault) (n : Option ℕ) → length inv ≤ 4194303 → All (IsGood m) inv → n ≡ number found
    → FindsWith (HasSections m a) (parts_at v p (length inv) inv bytes) (Ok found) held later → FindsWith (IsFoundFor m a) (parts_at v p (length inv) inv bytes) (Ok n) held later
parts_found m a v p inv bytes held later found n few good same (c, is, has) =
    let (clauses, count) = parts_read v p (length inv) inv bytes c (held ++ later) is in
    (c, is, subst (λ o. IsFoundFor m a c o) (sym same) (found_for m a c found (counted inv c few clauses count) (subst (All (IsGood m)) (sym clauses) good) has))

-- a cause was found before the sections, and they were only read
pub parts_refused : (m : Parts) (a : Lit) (v : Version) (p : AProperty) (inv : List (List Lit)) (bytes held later : List ℕ) (e : CheckError) (r : Result (Option ℕ) ReaderError) → length inv ≤ 4194303
    → ((c : Certificate) → c.invariant ≡ inv → IsCounted c → HasCauseFor m a c e) → FindsWith (λ (c : Certificate) found. (found ≡ Some (number_of e)) × (e ≢ OutOfMemory witness)) (parts_at v p (length inv) inv bytes) r held later
    → FindsWith (IsFoundFor m a) (parts_at v p (length inv) inv bytes) r held later
parts_refused m a v p inv bytes held later e (Ok found) few cause (c, is, (numbered, ne)) =
    let (clauses, count) = parts_read v p (length inv) inv bytes c (held ++ later) is in
    (c, is, refused_for m a c e found (number_of e) numbered ne (cause c clauses (counted inv c few clauses count)) refl)
parts_refused m a v p inv bytes held later e (Err x) few cause none = none

-- what is found for the circuit and the literal of the property
pub found_of : (m s : Parts) (a : Lit) (c : Certificate) (found : Option ℕ) → IsShowable m c.property → s ≡ circuit_of m c.property → a ≡ bad_of m c.property → IsFoundFor s a c found → IsFound m c found
found_of m s a c None showable circuit literal accepted = record {
  showable = showable;
  accepted = subst (λ (b : Lit). IsAcceptedFor (circuit_of m c.property) b c) literal (subst (λ (t : Parts). IsAcceptedFor t a c) circuit accepted);
}
found_of m s a c (Some n) showable circuit literal (e, ne, cause, is) =
    (e, ne, cause_of_circuit m c e showable (subst (λ (b : Lit). HasCauseFor (circuit_of m c.property) b c e) literal (subst (λ (t : Parts). HasCauseFor t a c e) circuit cause)), is)
