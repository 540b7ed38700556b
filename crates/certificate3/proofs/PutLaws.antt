-- The texts that are put, one after another.
use Rattle.std.proofs.Common.{◌≡◌, ℕ, List, ◌++◌, length, Option, Result, IsErr, append_assoc}
use Rattle.std.specs.Prelude.{codes, decimal, flat_map}
use Rattle.std.specs.Io.KnownBytes.{Appends}
use Rattle.base.specs.Devices.{PutsBeginning}
use Rattle.graph.specs.declared.circuit.Property.TheVariants.{Justice}
use Rattle.lrat.proofs.PutLaws.{puts_then}
use Rattle.lrat.specs.Texts.{Puts}
use Rattle.certificate.specs.Texts.{clause_line, number_line, section_text}
use Rattle.certificate.proofs.PutLaws.{stops, puts_as}
use Rattle.cnf.specs.Evidences.{Evidence}
use Rattle.certificate3.specs.Texts.{Certificate, certificate_text, claim_text, evidence_text, gate_line, hints_line, latch_line, shown_text}
use Rattle.certificate3.specs.Writing.{circuit_text, id_text, invariant_text, proofs_text, three_line, two_line}

-- the first of several texts is put up to a failure, and the second
pub first_stops : {X E : Type 0} (r : Result X E) (a b : Option (List ℕ)) (s t whole : List ℕ) → s ++ t ≡ whole → IsErr r → PutsBeginning a b s → Puts r a b whole
first_stops r a b s t whole is err begun = puts_as r a b (s ++ t) whole is (stops r a b s t err begun)

pub second_stops : {X E : Type 0} (r : Result X E) (a b c : Option (List ℕ)) (s t u whole : List ℕ) → s ++ (t ++ u) ≡ whole → Appends a b s → IsErr r → PutsBeginning b c t → Puts r a c whole
second_stops r a b c s t u whole is one err begun = puts_as r a c (s ++ (t ++ u)) whole is (puts_then r a b c s (t ++ u) one (stops r b c t u err begun))

-- two texts are put, and three
pub two_puts : {X E : Type 0} (r : Result X E) (a b c : Option (List ℕ)) (s t whole : List ℕ) → s ++ t ≡ whole → Appends a b s → Puts r b c t → Puts r a c whole
two_puts r a b c s t whole is one last = puts_as r a c (s ++ t) whole is (puts_then r a b c s t one last)

pub three_puts : {X E : Type 0} (r : Result X E) (a b c d : Option (List ℕ)) (s t u whole : List ℕ) → s ++ (t ++ u) ≡ whole → Appends a b s → Appends b c t → Puts r c d u → Puts r a d whole
three_puts r a b c d s t u whole is one two last = puts_as r a d (s ++ (t ++ u)) whole is (puts_then r a b d s (t ++ u) one (puts_then r b c d t u two last))

-- ---- how the texts are put together

two_of : (a b space end : List ℕ) → (a ++ space) ++ (b ++ end) ≡ a ++ space ++ b ++ end
two_of a b space end = simp append_assoc

pub two_parts : (a b : ℕ) → (decimal a ++ codes " ") ++ (decimal b ++ codes "\n") ≡ two_line a b
two_parts a b = two_of (decimal a) (decimal b) (codes " ") (codes "\n")

three_of : (a b c space end : List ℕ) → (a ++ space) ++ ((b ++ space) ++ (c ++ end)) ≡ a ++ space ++ b ++ space ++ c ++ end
three_of a b c space end = simp append_assoc

pub three_parts : (a b c : ℕ) → (decimal a ++ codes " ") ++ ((decimal b ++ codes " ") ++ (decimal c ++ codes "\n")) ≡ three_line a b c
three_parts a b c = three_of (decimal a) (decimal b) (decimal c) (codes " ") (codes "\n")

hints_of : (count ids end : List ℕ) → count ++ (ids ++ end) ≡ count ++ ids ++ end
hints_of count ids end = simp append_assoc

pub hints_parts : (ids : List ℕ) → decimal (length ids) ++ (flat_map id_text ids ++ codes "\n") ≡ hints_line ids
hints_parts ids = hints_of (decimal (length ids)) (flat_map id_text ids) (codes "\n")

all_of : (sizes latches gates count clauses first step last : List ℕ) → (sizes ++ (latches ++ gates)) ++ ((count ++ clauses) ++ (first ++ (step ++ last))) ≡ sizes ++ latches ++ gates ++ count ++ clauses ++ first ++ step ++ last
all_of sizes latches gates count clauses first step last = simp append_assoc

pub evidence_parts : (e : Evidence) → circuit_text e.latches e.gates ++ (invariant_text e.invariant ++ proofs_text e) ≡ evidence_text e
evidence_parts e =
    all_of (two_line (length e.latches) (length e.gates)) (flat_map latch_line e.latches) (flat_map gate_line e.gates) (number_line (length e.invariant)) (flat_map clause_line e.invariant)
    (shown_text 105 e.first e.first_hints) (shown_text 115 e.step e.step_hints) (section_text 98 e.last)

whole_of : (first claim evidence : List ℕ) → first ++ (claim ++ evidence) ≡ first ++ claim ++ evidence
whole_of first claim evidence = simp append_assoc

pub whole_parts : (c : Certificate) → codes "aigcert 3\n" ++ (claim_text c.claim.property c.claim.rounds ++ evidence_text c.evidence) ≡ certificate_text c
whole_parts c = whole_of (codes "aigcert 3\n") (claim_text c.claim.property c.claim.rounds) (evidence_text c.evidence)

justice_of : (j a b space end : List ℕ) → j ++ (a ++ space ++ b ++ end) ≡ (j ++ a) ++ space ++ b ++ end
justice_of j a b space end = simp append_assoc

pub justice_parts : (n k : ℕ) → codes "j" ++ two_line n k ≡ claim_text (Justice n) k
justice_parts n k = justice_of (codes "j") (decimal n) (decimal k) (codes " ") (codes "\n")
