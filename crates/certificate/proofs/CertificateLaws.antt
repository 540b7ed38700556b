-- A certificate is read as it is spelled.
use Rattle.base.specs.Witness.{witness}
use Rattle.std.proofs.Common.{◌≡◌, ℕ, ◌≤◌, List, [], ◌∷◌, ◌++◌, length, Option, Some, None, All, refl, sym, ap, ◌∙◌, append_assoc, arith}
use Rattle.std.specs.Prelude.{decimal, codes, flat_map}
use Rattle.std.proofs.lemmas.List.{append-nil}
use Rattle.std.proofs.lemmas.List.Elements.{All-nil, All-cons, All-head, All-tail}
use Rattle.std.proofs.lemmas.Option.{none-some}
use Rattle.scan.specs.Reading.{Fails}
use Rattle.scan.specs.declared.fault.Fault.{Fault}
use Rattle.scan.specs.declared.fault.Fault.TheVariants.{Memory, Text}
use Rattle.scan.specs.Spelling.{Nothing, Then}
use Rattle.scan.specs.Words.{any, IsField}
use Rattle.scan.proofs.ListLaws.{Many, many_reads}
use Rattle.scan.proofs.Toolbox.{Reads, spells_one, reads_as, reads_nothing, reads_then}
use Rattle.scan.proofs.WordLaws.{field_reads}
use Rattle.graph.specs.Circuits.{property_text}
use Rattle.graph.specs.declared.circuit.Lit.{Lit}
use Rattle.graph.specs.declared.circuit.Property.{Property}
use Rattle.lrat.specs.declared.line.Line.{Line}
use Rattle.certificate.specs.declared.certificate.Certificate.{Certificate}
use Rattle.certificate.specs.declared.cert_error.CertError.TheVariants.{OutOfMemory}
use Rattle.certificate.specs.declared.cert_fault.CertFault.{CertFault}
use Rattle.certificate.specs.Reading.{greatest, certificate_at}
use Rattle.certificate.specs.Refusals.{error_of}
use Rattle.certificate.specs.Texts.{clause_line, first_line, lemma_text, sections_text, SpellsCertificate}
use Rattle.certificate.proofs.EachLaws.{each_to, each_from}
use Rattle.certificate.proofs.HeadLaws.{line_of, IsFirstLine, first_line_reads, IsPropertyLine, property_reads, AreSmall, IsClauseLine, clause_reads}
use Rattle.certificate.proofs.SectionLaws.{version_of, IsLemmas, lemmas_reads, IsSections, sections_reads}

abbrev made : Property → List (List Lit) → Option (List Line) → List (List Line) → Certificate
made property invariant lemmas sections = record { property = property; invariant = invariant; lemmas = lemmas; sections = sections }

abbrev OfCertificate : List ℕ → Certificate → Type 0
OfCertificate =
    Then IsFirstLine (λ version.
    Then IsPropertyLine (λ property.
    Then (IsField greatest any 10) (λ count.
    Then (Many IsClauseLine count) (λ invariant.
    Then (IsLemmas version) (λ lemmas.
    Then (IsSections count) (λ sections.
    Nothing (made property invariant lemmas sections)))))))

-- a clause within its limits
abbrev IsShort : List Lit → Type 0
IsShort c = (length c ≤ 4194303) × AreSmall c

-- what each item keeps, weakened
all_if : {A : Type 0} (P Q : A → Type 0) (xs : List A) → ((x : A) → P x → Q x) → All P xs → All Q xs
all_if P Q [] f all = All-nil Q
all_if P Q (x ∷ xs) f all = All-cons Q x xs (f x (All-head P x xs all)) (all_if P Q xs f (All-tail P x xs all))

all_both : {A : Type 0} (P Q : A → Type 0) (xs : List A) → All P xs → All Q xs → All (λ x. P x × Q x) xs
all_both P Q [] p q = All-nil (λ x. P x × Q x)
all_both P Q (x ∷ xs) p q = All-cons (λ x. P x × Q x) x xs (All-head P x xs p, All-head Q x xs q) (all_both P Q xs (All-tail P x xs p) (All-tail Q x xs q))

regroup : (v p n c l s : List ℕ) → v ++ ((p ++ codes "\n") ++ ((n ++ codes "\n") ++ (c ++ (l ++ s)))) ≡ v ++ p ++ codes "\n" ++ (n ++ codes "\n") ++ c ++ l ++ s
regroup v p n c l s = simp append_assoc

-- the first line of the version that the lemmas want
line_of_version : (lemmas : Option (List Line)) → line_of (version_of lemmas) ≡ first_line lemmas
line_of_version None = refl
line_of_version (Some lemmas) = refl

certificate_to : (t : List ℕ) (c : Certificate) → OfCertificate t c → SpellsCertificate t c
certificate_to t c (version, k, a, line, (property, b, d, (spelled, position), (count, e, f, field, (invariant, g, h, (many, each), (lemmas, m, o, proved, (sections, i, j, rest, last, p6), p5), p4), p3), p2), p1) =
    let first : k ≡ first_line lemmas = line ∙ ap line_of proved.version ∙ line_of_version lemmas in
    let r = each_to IsShort clause_line IsClauseLine (λ t x r. r) g invariant each in
    rw last.1 (record {
      spells = rw (p1, first, p2, spelled, p3, field.spells, p4, r.0, p5, proved.spells, p6, last.0, rest.spells, ← many, append-nil (sections_text (length invariant) sections)) (regroup (first_line lemmas) (property_text property) (decimal (length invariant)) (flat_map clause_line invariant) (lemma_text lemmas) (sections_text (length invariant) sections));
      within = record {
        sections = omega (arith, rest.count, many);
        few = omega (arith, field.within, many);
        short = all_if IsShort (λ clause. length clause ≤ 4194303) invariant (λ clause s. s.0) r.1;
        position = position;
        literals = all_if IsShort AreSmall invariant (λ clause s. s.1) r.1;
        lemmas = proved.lines;
        lines = rest.lines;
      };
    })

certificate_from : (t : List ℕ) (c : Certificate) → SpellsCertificate t c → OfCertificate t c
certificate_from t c s =
    let w = s.within in
    let n : ℕ = length c.invariant in
    let five : List ℕ = sections_text n c.sections in
    let four : List ℕ = lemma_text c.lemmas in
    let three : List ℕ = flat_map clause_line c.invariant in
    let two : List ℕ = decimal n ++ codes "\n" in
    let one : List ℕ = property_text c.property ++ codes "\n" in
    let all : All IsShort c.invariant = all_both (λ (clause : List Lit). length clause ≤ 4194303) AreSmall c.invariant w.short w.literals in (
      version_of c.lemmas,
      first_line c.lemmas,
      one ++ (two ++ (three ++ (four ++ five))),
      sym (line_of_version c.lemmas),
      (
        c.property,
        one,
        two ++ (three ++ (four ++ five)),
        (refl, w.position),
        (
          n,
          two,
          three ++ (four ++ five),
          record { spells = refl; within = w.few; is_good = refl },
          (
            c.invariant,
            three,
            four ++ five,
            (refl, each_from IsShort clause_line IsClauseLine (λ t x r. r) c.invariant all),
            (
              c.lemmas,
              four,
              five,
              record { version = refl; spells = refl; lines = w.lemmas },
              (c.sections, five, [], record { count = w.sections; spells = refl; lines = w.lines }, (refl, refl), sym (append-nil five)),
              refl,
            ),
            refl,
          ),
          refl,
        ),
        refl,
      ),
      s.spells ∙ sym (regroup (first_line c.lemmas) (property_text c.property) (decimal n) three four five),
    )

pub certificate_reads : Reads certificate_at SpellsCertificate
unfolding certificate_at
certificate_reads =
    reads_as SpellsCertificate
    (reads_then first_line_reads (λ version.
    reads_then property_reads (λ property.
    reads_then (field_reads greatest any 10 (omega arith) refl) (λ count.
    reads_then (many_reads clause_reads count) (λ invariant.
    reads_then (lemmas_reads version) (λ lemmas.
    reads_then (sections_reads count) (λ sections.
    reads_nothing (made property invariant lemmas sections))))))))
    certificate_to certificate_from

-- a text spells at most one certificate
pub one_certificate : (text : List ℕ) (c d : Certificate) → SpellsCertificate text c → SpellsCertificate text d → c ≡ d
one_certificate text c d s r = spells_one certificate_reads text c d s r

-- where a certificate is spelled, only out of memory is reported
pub refused_for_memory : (n : ℕ) (e : Fault CertFault) (c : Certificate) (read : Option Certificate) → Fails e read → read ≡ Some c → error_of n e ≡ OutOfMemory witness
refused_for_memory n (Memory refused) c read f s = refl
refused_for_memory n (Text kind left) c read f s = absurd (none-some c (sym f ∙ s))
