-- A certificate of version 3 is read as it is spelled.
use Rattle.std.proofs.Common.{◌≡◌, ℕ, ◌≤◌, List, [], ◌++◌, length, All, refl, sym, ◌∙◌, append_assoc, arith}
use Rattle.std.specs.Prelude.{codes, flat_map}
use Rattle.std.proofs.lemmas.List.{append-nil}
use Rattle.scan.specs.Spelling.{Nothing, Then}
use Rattle.scan.specs.Words.{any, IsField}
use Rattle.scan.proofs.ListLaws.{Many, many_reads}
use Rattle.scan.proofs.Toolbox.{Reads, spells_one, reads_as, reads_nothing, reads_then}
use Rattle.scan.proofs.WordLaws.{field_reads}
use Rattle.graph.specs.declared.circuit.Lit.{Lit}
use Rattle.graph.specs.declared.circuit.Latch.{Latch}
use Rattle.graph.specs.declared.circuit.Gate.{Gate}
use Rattle.lrat.specs.declared.line.Line.{Line}
use Rattle.lrat.specs.Limits.{IsLine}
use Rattle.certificate.specs.Reading.{greatest}
use Rattle.certificate.specs.Texts.{number_line, clause_line, section_text}
use Rattle.certificate.proofs.EachLaws.{each_to, each_from}
use Rattle.certificate.proofs.HeadLaws.{IsClauseLine, clause_reads}
use Rattle.certificate.proofs.SectionLaws.{IsSection, section_reads}
use Rattle.cnf.specs.Evidences.{Evidence}
use Rattle.certificate3.specs.declared.claim.Claim.{Claim}
use Rattle.certificate3.specs.Reading.{shown_at, later_at, proofs_at, clauses_at, evidence_of, evidence_at, certificate_at}
use Rattle.certificate3.specs.Texts.{Certificate, Shown, Later, Proofs, hints_line, latch_line, gate_line, claim_text, shown_text, evidence_text, AreLatchWords, AreGateWords, AreHints, AreLiterals, IsEvidence, SpellsCertificate}
use Rattle.certificate3.proofs.LineLaws.{IsFirstLine, first_line_reads, IsClaimLine, claim_reads, sizes_line, IsSizesLine, sizes_reads, IsLatchLine, latch_reads, IsGateLine, gate_reads}
use Rattle.certificate3.proofs.HintLaws.{IsHintsLine, hints_reads}

-- ---- a section with its hints

abbrev shown : List Line → List (List ℕ) → Shown
shown lines hints = record { lines = lines; hints = hints }

pub record IsShown (letter n : ℕ) (t : List ℕ) (s : Shown) : Type 0 where
  pub spells : t ≡ shown_text letter s.lines s.hints
  pub lines : All IsLine s.lines
  pub count : length s.hints ≡ n
  pub hints : All AreHints s.hints

abbrev OfShown : ℕ → ℕ → List ℕ → Shown → Type 0
OfShown letter n = Then (IsSection letter) (λ lines. Then (Many IsHintsLine n) (λ hints. Nothing {A = Shown} (shown lines hints)))

shown_to : (letter n : ℕ) (t : List ℕ) (s : Shown) → OfShown letter n t s → IsShown letter n t s
shown_to letter n t s (lines, a, b, (spells, all), (hints, c, d, (len, each), last, p2), p1) =
    let r = each_to AreHints hints_line IsHintsLine (λ t x r. r) c hints each in
    rw last.1 (record { spells = rw (p1, p2, last.0, spells, r.0) (simp append-nil); lines = all; count = len; hints = r.1 })

shown_from : (letter n : ℕ) (t : List ℕ) (s : Shown) → IsShown letter n t s → OfShown letter n t s
shown_from letter n t s r =
    let behind : List ℕ = flat_map hints_line s.hints in (
      s.lines,
      section_text letter s.lines,
      behind,
      (refl, r.lines),
      (s.hints, behind, [], (r.count, each_from AreHints hints_line IsHintsLine (λ t x r. r) s.hints r.hints), (refl, refl), sym (append-nil behind)),
      r.spells,
    )

pub shown_reads : (letter n : ℕ) → Reads (shown_at letter n) (IsShown letter n)
unfolding shown_at
shown_reads letter n =
    reads_as (IsShown letter n)
    (reads_then (section_reads letter) (λ lines.
    reads_then (many_reads hints_reads n) (λ hints. reads_nothing {A = Shown} (shown lines hints))))
    (shown_to letter n) (shown_from letter n)

-- ---- the last two sections

abbrev later_text : Later → List ℕ
later_text l = shown_text 115 l.step.lines l.step.hints ++ section_text 98 l.last

pub record IsLater (n : ℕ) (t : List ℕ) (l : Later) : Type 0 where
  pub spells : t ≡ later_text l
  pub step_lines : All IsLine l.step.lines
  pub step_count : length l.step.hints ≡ n
  pub step_hints : All AreHints l.step.hints
  pub last_lines : All IsLine l.last

abbrev later : Shown → List Line → Later
later step last = record { step = step; last = last }

abbrev OfLater : ℕ → List ℕ → Later → Type 0
OfLater n = Then (IsShown 115 n) (λ step. Then (IsSection 98) (λ last. Nothing {A = Later} (later step last)))

later_to : (n : ℕ) (t : List ℕ) (l : Later) → OfLater n t l → IsLater n t l
later_to n t l (step, c, d, two, (last, e, f, (spells, all), end, p3), p2) =
    rw end.1 (record {
      spells = rw (p2, p3, two.spells, spells, end.0, append-nil (section_text 98 last)) refl;
      step_lines = two.lines;
      step_count = two.count;
      step_hints = two.hints;
      last_lines = all;
    })

later_from : (n : ℕ) (t : List ℕ) (l : Later) → IsLater n t l → OfLater n t l
later_from n t l r =
    let third : List ℕ = section_text 98 l.last in (
      l.step,
      shown_text 115 l.step.lines l.step.hints,
      third,
      record { spells = refl; lines = r.step_lines; count = r.step_count; hints = r.step_hints },
      (l.last, third, [], (refl, r.last_lines), (refl, refl), sym (append-nil third)),
      r.spells,
    )

pub later_reads : (n : ℕ) → Reads (later_at n) (IsLater n)
unfolding later_at
later_reads n =
    reads_as (IsLater n)
    (reads_then (shown_reads 115 n) (λ step.
    reads_then (section_reads 98) (λ last. reads_nothing {A = Later} (later step last))))
    (later_to n) (later_from n)

-- ---- the three sections

abbrev proofs_text : Proofs → List ℕ
proofs_text p = shown_text 105 p.first.lines p.first.hints ++ later_text p.later

pub record IsProofs (n : ℕ) (t : List ℕ) (p : Proofs) : Type 0 where
  pub spells : t ≡ proofs_text p
  pub first_lines : All IsLine p.first.lines
  pub first_count : length p.first.hints ≡ n
  pub first_hints : All AreHints p.first.hints
  pub later : IsLater n (later_text p.later) p.later

abbrev proofs : Shown → Later → Proofs
proofs first l = record { first = first; later = l }

abbrev OfProofs : ℕ → List ℕ → Proofs → Type 0
OfProofs n = Then (IsShown 105 n) (λ first. Then (IsLater n) (λ l. Nothing {A = Proofs} (proofs first l)))

later_again : (n k : ℕ) (t : List ℕ) (l : Later) → k ≡ n → IsLater k t l → IsLater n (later_text l) l
later_again n k t l same r = record { spells = refl; step_lines = r.step_lines; step_count = r.step_count ∙ same; step_hints = r.step_hints; last_lines = r.last_lines }

proofs_to : (n : ℕ) (t : List ℕ) (p : Proofs) → OfProofs n t p → IsProofs n t p
proofs_to n t p (first, a, b, one, (l, c, d, two, end, p2), p1) =
    rw end.1 (record {
      spells = rw (p1, p2, one.spells, two.spells, end.0, append-nil (later_text l)) refl;
      first_lines = one.lines;
      first_count = one.count;
      first_hints = one.hints;
      later = later_again n n c l refl two;
    })

proofs_from : (n : ℕ) (t : List ℕ) (p : Proofs) → IsProofs n t p → OfProofs n t p
proofs_from n t p r =
    let behind : List ℕ = later_text p.later in (
      p.first,
      shown_text 105 p.first.lines p.first.hints,
      behind,
      record { spells = refl; lines = r.first_lines; count = r.first_count; hints = r.first_hints },
      (p.later, behind, [], r.later, (refl, refl), sym (append-nil behind)),
      r.spells,
    )

pub proofs_reads : (n : ℕ) → Reads (proofs_at n) (IsProofs n)
unfolding proofs_at
proofs_reads n =
    reads_as (IsProofs n)
    (reads_then (shown_reads 105 n) (λ first.
    reads_then (later_reads n) (λ l. reads_nothing {A = Proofs} (proofs first l))))
    (proofs_to n) (proofs_from n)

-- ---- clauses and proofs

literals_to : (t : List ℕ) (c : List Lit) → IsClauseLine t c → (t ≡ clause_line c) × AreLiterals c
literals_to t c (spells, (few, small)) = (spells, record { short = few; words = small })

literals_from : (t : List ℕ) (c : List Lit) → (t ≡ clause_line c) × AreLiterals c → IsClauseLine t c
literals_from t c (spells, l) = (spells, (l.short, l.words))

abbrev clauses_text : List (List Lit) → Proofs → List ℕ
clauses_text invariant p = number_line (length invariant) ++ (flat_map clause_line invariant ++ proofs_text p)

pub record IsClauses (ls : List Latch) (gs : List Gate) (t : List ℕ) (e : Evidence) : Type 0 where
  pub invariant : List (List Lit)
  pub proofs : Proofs
  pub is : e ≡ evidence_of ls gs invariant proofs
  pub spells : t ≡ clauses_text invariant proofs
  pub few : length invariant ≤ 4194303
  pub clauses : All AreLiterals invariant
  pub within : IsProofs (length invariant) (proofs_text proofs) proofs

abbrev OfClauses : List Latch → List Gate → List ℕ → Evidence → Type 0
OfClauses ls gs =
    Then (IsField greatest any 10) (λ count.
    Then (Many IsClauseLine count) (λ invariant.
    Then (IsProofs count) (λ p. Nothing {A = Evidence} (evidence_of ls gs invariant p))))

proofs_again : (n k : ℕ) (t : List ℕ) (p : Proofs) → k ≡ n → IsProofs k t p → IsProofs n (proofs_text p) p
proofs_again n k t p same r = record {
  spells = refl;
  first_lines = r.first_lines;
  first_count = r.first_count ∙ same;
  first_hints = r.first_hints;
  later = later_again n k (later_text p.later) p.later same r.later;
}

clauses_to : (ls : List Latch) (gs : List Gate) (t : List ℕ) (e : Evidence) → OfClauses ls gs t e → IsClauses ls gs t e
clauses_to ls gs t e (count, a, b, field, (invariant, c, d, (many, each), (p, f, g, proved, last, p3), p2), p1) =
    let r = each_to AreLiterals clause_line IsClauseLine literals_to c invariant each in
    record {
      invariant = invariant;
      proofs = p;
      is = last.1;
      spells = rw (p1, p2, p3, field.spells, ← many, r.0, proved.spells, last.0, append-nil (proofs_text p)) refl;
      few = omega (arith, field.within, many);
      clauses = r.1;
      within = proofs_again (length invariant) count f p (sym many) proved;
    }

clauses_from : (ls : List Latch) (gs : List Gate) (t : List ℕ) (e : Evidence) → IsClauses ls gs t e → OfClauses ls gs t e
clauses_from ls gs t e r =
    let third : List ℕ = proofs_text r.proofs in
    let second : List ℕ = flat_map clause_line r.invariant in (
      length r.invariant,
      number_line (length r.invariant),
      second ++ third,
      record { spells = refl; within = r.few; is_good = refl },
      (
        r.invariant,
        second,
        third,
        (refl, each_from AreLiterals clause_line IsClauseLine literals_from r.invariant r.clauses),
        (r.proofs, third, [], r.within, (refl, r.is), sym (append-nil third)),
        refl,
      ),
      r.spells,
    )

pub clauses_reads : (ls : List Latch) (gs : List Gate) → Reads (clauses_at ls gs) (IsClauses ls gs)
unfolding clauses_at
clauses_reads ls gs =
    reads_as (IsClauses ls gs)
    (reads_then (field_reads greatest any 10 (omega arith) refl) (λ count.
    reads_then (many_reads clause_reads count) (λ invariant.
    reads_then (proofs_reads count) (λ p. reads_nothing {A = Evidence} (evidence_of ls gs invariant p)))))
    (clauses_to ls gs) (clauses_from ls gs)

-- ---- all behind the property

abbrev pub IsEvidenceText : List ℕ → Evidence → Type 0
IsEvidenceText t e = (t ≡ evidence_text e) × IsEvidence e

abbrev OfEvidence : List ℕ → Evidence → Type 0
OfEvidence = Then IsSizesLine (λ sizes. Then (Many IsLatchLine sizes.latches) (λ ls. Then (Many IsGateLine sizes.gates) (λ gs. IsClauses ls gs)))

abbrev whole_text : List ℕ → List ℕ → List ℕ → List (List Lit) → Proofs → List ℕ
whole_text sizes ls gs invariant p = sizes ++ (ls ++ (gs ++ clauses_text invariant p))

regroup : (sizes ls gs n inv fl fh sl sh last : List ℕ) → sizes ++ (ls ++ (gs ++ (n ++ (inv ++ ((fl ++ fh) ++ ((sl ++ sh) ++ last)))))) ≡ sizes ++ ls ++ gs ++ n ++ inv ++ (fl ++ fh) ++ (sl ++ sh) ++ last
regroup sizes ls gs n inv fl fh sl sh last = simp append_assoc

evidence_whole : (ls : List Latch) (gs : List Gate) (inv : List (List Lit)) (p : Proofs) → whole_text (sizes_line (length ls) (length gs)) (flat_map latch_line ls) (flat_map gate_line gs) inv p ≡ evidence_text (evidence_of ls gs inv p)
evidence_whole ls gs inv p =
    regroup (sizes_line (length ls) (length gs)) (flat_map latch_line ls) (flat_map gate_line gs) (number_line (length inv)) (flat_map clause_line inv)
    (section_text 105 p.first.lines) (flat_map hints_line p.first.hints) (section_text 115 p.later.step.lines) (flat_map hints_line p.later.step.hints) (section_text 98 p.later.last)

within_all : (ls : List Latch) (gs : List Gate) (inv : List (List Lit)) (p : Proofs) → length ls ≤ 4194303 → length gs ≤ 4194303 → All AreLatchWords ls → All AreGateWords gs → length inv ≤ 4194303 → All AreLiterals inv
    → IsProofs (length inv) (proofs_text p) p → IsEvidence (evidence_of ls gs inv p)
within_all ls gs inv p ls_few gs_few ls_words gs_words few clauses r = record {
  latches = ls_few;
  gates = gs_few;
  latch_words = ls_words;
  gate_words = gs_words;
  few = few;
  clauses = clauses;
  first_lines = r.first_lines;
  first_count = r.first_count;
  first_hints = r.first_hints;
  step_lines = r.later.step_lines;
  step_count = r.later.step_count;
  step_hints = r.later.step_hints;
  last_lines = r.later.last_lines;
}

evidence_to : (t : List ℕ) (e : Evidence) → OfEvidence t e → IsEvidenceText t e
evidence_to t e (sizes, a, b, line, (ls, c, d, (ls_many, ls_each), (gs, f, g, (gs_many, gs_each), r, p3), p2), p1) =
    let l = each_to AreLatchWords latch_line IsLatchLine (λ t x r. r) c ls ls_each in
    let k = each_to AreGateWords gate_line IsGateLine (λ t x r. r) f gs gs_each in
    rw r.is (
      rw (p1, p2, p3, line.spells, ← ls_many, ← gs_many, l.0, k.0, r.spells) (evidence_whole ls gs r.invariant r.proofs),
      within_all ls gs r.invariant r.proofs (let h = line.latches in omega (arith, h, ls_many)) (let h = line.gates in omega (arith, h, gs_many)) l.1 k.1 r.few r.clauses r.within,
    )

abbrev proofs_in : Evidence → Proofs
proofs_in e = proofs (shown e.first e.first_hints) (later (shown e.step e.step_hints) e.last)

evidence_from : (t : List ℕ) (e : Evidence) → IsEvidenceText t e → OfEvidence t e
evidence_from t e (spells, w) =
    let p : Proofs = proofs_in e in
    let four : List ℕ = clauses_text e.invariant p in
    let three : List ℕ = flat_map gate_line e.gates in
    let two : List ℕ = flat_map latch_line e.latches in (
      record { latches = length e.latches; gates = length e.gates },
      sizes_line (length e.latches) (length e.gates),
      two ++ (three ++ four),
      record { spells = refl; latches = w.latches; gates = w.gates },
      (
        e.latches,
        two,
        three ++ four,
        (refl, each_from AreLatchWords latch_line IsLatchLine (λ t x r. r) e.latches w.latch_words),
        (
          e.gates,
          three,
          four,
          (refl, each_from AreGateWords gate_line IsGateLine (λ t x r. r) e.gates w.gate_words),
          record {
            invariant = e.invariant;
            proofs = p;
            is = refl;
            spells = refl;
            few = w.few;
            clauses = w.clauses;
            within = record {
              spells = refl;
              first_lines = w.first_lines;
              first_count = w.first_count;
              first_hints = w.first_hints;
              later = record { spells = refl; step_lines = w.step_lines; step_count = w.step_count; step_hints = w.step_hints; last_lines = w.last_lines };
            };
          },
          refl,
        ),
        refl,
      ),
      spells ∙ sym (evidence_whole e.latches e.gates e.invariant p),
    )

pub evidence_reads : Reads evidence_at IsEvidenceText
unfolding evidence_at
evidence_reads =
    reads_as IsEvidenceText
    (reads_then sizes_reads (λ sizes.
    reads_then (many_reads latch_reads sizes.latches) (λ ls.
    reads_then (many_reads gate_reads sizes.gates) (λ gs. clauses_reads ls gs))))
    evidence_to evidence_from

-- ---- the whole

abbrev made : Claim → Evidence → Certificate
made claim evidence = record { claim = claim; evidence = evidence }

abbrev OfCertificate : List ℕ → Certificate → Type 0
OfCertificate = Then IsFirstLine (λ first. Then IsClaimLine (λ claim. Then IsEvidenceText (λ evidence. Nothing {A = Certificate} (made claim evidence))))

certificate_to : (t : List ℕ) (c : Certificate) → OfCertificate t c → SpellsCertificate t c
certificate_to t c (first, a, b, line, (claim, d, e, (claimed, is_claim), (evidence, f, g, (spells, within), last, p3), p2), p1) =
    rw last.1 (record {
      spells = rw (p1, p2, p3, line, claimed, spells, last.0, append-nil (evidence_text evidence)) (sym (append_assoc (codes "aigcert 3\n") (claim_text claim.property claim.rounds) (evidence_text evidence)));
      claim = is_claim;
      within = within;
    })

certificate_from : (t : List ℕ) (c : Certificate) → SpellsCertificate t c → OfCertificate t c
certificate_from t c s =
    let third : List ℕ = evidence_text c.evidence in
    let second : List ℕ = claim_text c.claim.property c.claim.rounds in (
      tt,
      codes "aigcert 3\n",
      second ++ third,
      refl,
      (c.claim, second, third, (refl, s.claim), (c.evidence, third, [], (refl, s.within), (refl, refl), sym (append-nil third)), refl),
      s.spells ∙ append_assoc (codes "aigcert 3\n") second third,
    )

pub certificate_reads : Reads certificate_at SpellsCertificate
unfolding certificate_at
certificate_reads =
    reads_as SpellsCertificate
    (reads_then first_line_reads (λ first.
    reads_then claim_reads (λ claim.
    reads_then evidence_reads (λ evidence. reads_nothing {A = Certificate} (made claim evidence)))))
    certificate_to certificate_from

-- a text spells at most one certificate
pub one_certificate : (text : List ℕ) (c d : Certificate) → SpellsCertificate text c → SpellsCertificate text d → c ≡ d
one_certificate text c d s r = spells_one certificate_reads text c d s r
