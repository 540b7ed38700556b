-- Certificates of any version are read as they are spelled.
use Rattle.std.specs.Prelude.{◌⊎◌, codes}
use Rattle.std.proofs.Common.{◌≡◌, ℕ, List, [], ◌∷◌, ◌++◌, Some, refl, sym, ap, subst, ◌∙◌, inl, inr}
use Rattle.std.proofs.lemmas.Option.{same_Some}
use Rattle.scan.specs.Reading.{◌>>=◌}
use Rattle.scan.specs.Spelling.{Nothing, Then, After}
use Rattle.scan.specs.Words.{any, field_at}
use Rattle.scan.specs.Lists.{many_at}
use Rattle.scan.proofs.Toolbox.{Reads, NeverBegins, bind_some, reads_as, reads_nothing, reads_then, reads_after, reads_choice, skips_byte, skips_tag}
use Rattle.pieces.specs.Lines.{IsOfPiece}
use Rattle.pieces.proofs.LineLaws.{of_piece}
use Rattle.certificate.specs.declared.certificate.Certificate.{Certificate as AnEarlier}
use Rattle.certificate.specs.declared.head.Version.{Version}
use Rattle.certificate.specs.declared.head.Version.TheVariants.{One, Two}
use Rattle.certificate.specs.Reading.{greatest, property_at, clause_at, certificate_at as earlier_at, first_line_at as earlier_line_at}
use Rattle.certificate.specs.Streams.{parts_at}
use Rattle.certificate.proofs.CertificateLaws.{certificate_reads as earlier_reads}
use Rattle.certificate.proofs.HeadLaws.{line_of, first_line_reads as earlier_line_reads}
use Rattle.pieces.proofs.LineTexts.{IsLineText, goes_all}
use Rattle.certificate.proofs.StreamLaws.{certificate_is}
use Rattle.certificate3.specs.declared.first_line.Format.{Format}
use Rattle.certificate3.specs.declared.first_line.Format.TheVariants.{Earlier, Three}
use Rattle.certificate3.specs.Formats.{Certified, earlier, third, SpellsCertified, certified_at, digit_at, format_at, whole_at}
use Rattle.certificate3.specs.Reading.{certificate_at, claim_at, evidence_at, first_line_at}
use Rattle.certificate3.specs.Texts.{Certificate}
use Rattle.certificate3.proofs.CertificateLaws.{certificate_reads}
use Rattle.certificate3.proofs.LineLaws.{first_line_reads}

-- ---- the first line

abbrev pub line_of_format : Format → List ℕ
line_of_format (Earlier version) = line_of version
line_of_format Three = codes "aigcert 3\n"

abbrev pub IsFormatLine : List ℕ → Format → Type 0
IsFormatLine t f = t ≡ line_of_format f

abbrev OfOne : List ℕ → Format → Type 0
OfOne = After (49 ∷ []) (Nothing {A = Format} (Earlier One))

abbrev OfTwo : List ℕ → Format → Type 0
OfTwo t f = After (50 ∷ []) (Nothing {A = Format} (Earlier Two)) t f ⊎ OfOne t f

abbrev OfDigit : List ℕ → Format → Type 0
OfDigit t f = After (51 ∷ []) (Nothing {A = Format} Three) t f ⊎ OfTwo t f

abbrev OfLine : List ℕ → Format → Type 0
OfLine = After (codes "aigcert ") (Then OfDigit (λ f. After (10 ∷ []) (Nothing {A = Format} f)))

one_begins : NeverBegins 50 OfOne
one_begins t f rest (a, one, whole) = rw whole refl

two_begins : NeverBegins 51 OfTwo
two_begins t f rest (inl (a, two, whole)) = rw whole refl
two_begins t f rest (inr (a, one, whole)) = rw whole refl

digit_reads : Reads digit_at OfDigit
unfolding digit_at
digit_reads = reads_choice 51 (reads_nothing {A = Format} Three) (reads_choice 50 (reads_nothing {A = Format} (Earlier Two)) (reads_after (skips_byte 49) (reads_nothing {A = Format} (Earlier One))) one_begins) two_begins

line_to : (t : List ℕ) (f : Format) → OfLine t f → IsFormatLine t f
line_to t f (a, (w, b, c, inl (d, digit, p3), (e, last, p4), p2), p1) = rw (last.1, digit.1) (rw (p1, p2, p3, p4, digit.0, last.0) refl)
line_to t f (a, (w, b, c, inr (inl (d, digit, p3)), (e, last, p4), p2), p1) = rw (last.1, digit.1) (rw (p1, p2, p3, p4, digit.0, last.0) refl)
line_to t f (a, (w, b, c, inr (inr (d, digit, p3)), (e, last, p4), p2), p1) = rw (last.1, digit.1) (rw (p1, p2, p3, p4, digit.0, last.0) refl)

line_from : (t : List ℕ) (f : Format) → IsFormatLine t f → OfLine t f
line_from t Three r = (51 ∷ 10 ∷ [], (Three, 51 ∷ [], 10 ∷ [], inl ([], (refl, refl), refl), ([], (refl, refl), refl), refl), r)
line_from t (Earlier Two) r = (50 ∷ 10 ∷ [], (Earlier Two, 50 ∷ [], 10 ∷ [], inr (inl ([], (refl, refl), refl)), ([], (refl, refl), refl), refl), r)
line_from t (Earlier One) r = (49 ∷ 10 ∷ [], (Earlier One, 49 ∷ [], 10 ∷ [], inr (inr ([], (refl, refl), refl)), ([], (refl, refl), refl), refl), r)

pub format_reads : Reads format_at IsFormatLine
unfolding format_at
format_reads = reads_as IsFormatLine (reads_after (skips_tag (codes "aigcert ")) (reads_then digit_reads (λ f. reads_after (skips_byte 10) (reads_nothing {A = Format} f)))) line_to line_from

line_is_line : (t : List ℕ) (f : Format) → IsFormatLine t f → IsLineText t
line_is_line t Three s = (codes "aigcert 3", goes_all (codes "aigcert 3") refl, s)
line_is_line t (Earlier One) s = (codes "aigcert 1", goes_all (codes "aigcert 1") refl, s)
line_is_line t (Earlier Two) s = (codes "aigcert 2", goes_all (codes "aigcert 2") refl, s)

pub format_of_piece : IsOfPiece format_at
format_of_piece = of_piece format_reads line_is_line

-- ---- it is the first line of its version

pub earlier_line : (bytes rest : List ℕ) (v : Version) → format_at bytes ≡ Some (Earlier v, rest) → earlier_line_at bytes ≡ Some (v, rest)
earlier_line bytes rest v e = let (front, is, whole) = format_reads.sound bytes (Earlier v) rest e in ap earlier_line_at whole ∙ earlier_line_reads.complete front v rest is

pub third_line : (bytes rest : List ℕ) → format_at bytes ≡ Some (Three, rest) → first_line_at bytes ≡ Some (tt, rest)
third_line bytes rest e = let (front, is, whole) = format_reads.sound bytes Three rest e in ap first_line_at whole ∙ first_line_reads.complete front tt rest is

pub of_earlier : (bytes rest : List ℕ) (v : Version) → earlier_line_at bytes ≡ Some (v, rest) → format_at bytes ≡ Some (Earlier v, rest)
of_earlier bytes rest v e = let (front, is, whole) = earlier_line_reads.sound bytes v rest e in ap format_at whole ∙ format_reads.complete front (Earlier v) rest is

pub of_third : (bytes rest : List ℕ) → first_line_at bytes ≡ Some (tt, rest) → format_at bytes ≡ Some (Three, rest)
of_third bytes rest e = let (front, is, whole) = first_line_reads.sound bytes tt rest e in ap format_at whole ∙ format_reads.complete front Three rest is

-- ---- the whole

abbrev Spelled : List ℕ → Certified → List ℕ → Type 0
Spelled bytes x rest = (front : List ℕ) × SpellsCertified front x × (bytes ≡ front ++ rest)

same_pair : (x y : Certified) (a b : List ℕ) → ◌≡◌ {A = Certified × List ℕ} (x, a) (y, b) → (bytes : List ℕ) → Spelled bytes x a → Spelled bytes y b
same_pair x y a b e bytes s = subst (λ (w : Certified × List ℕ). Spelled bytes w.0 w.1) e s

whole_sound : (f : Format) (bytes : List ℕ) (x : Certified) (rest : List ℕ) → whole_at f bytes ≡ Some (x, rest) → Spelled bytes x rest
whole_sound (Earlier v) bytes x rest e =
    let b = bind_some (earlier_at bytes) (λ (c : AnEarlier × List ℕ). Some (earlier c.0, c.1)) (x, rest) e in
    same_pair (earlier b.0.0) x b.0.1 rest (same_Some (earlier b.0.0, b.0.1) (x, rest) b.2) bytes (earlier_reads.sound bytes b.0.0 b.0.1 b.1)
whole_sound Three bytes x rest e =
    let b = bind_some (certificate_at bytes) (λ (c : Certificate × List ℕ). Some (third c.0, c.1)) (x, rest) e in
    same_pair (third b.0.0) x b.0.1 rest (same_Some (third b.0.0, b.0.1) (x, rest) b.2) bytes (certificate_reads.sound bytes b.0.0 b.0.1 b.1)

certified_is : (bytes : List ℕ) → certified_at bytes ≡ (format_at bytes >>= λ format. whole_at format.0 bytes)
unfolding certified_at
certified_is bytes = refl

certified_sound : (bytes : List ℕ) (x : Certified) (rest : List ℕ) → certified_at bytes ≡ Some (x, rest) → Spelled bytes x rest
certified_sound bytes x rest e =
    let b = bind_some (format_at bytes) (λ (f : Format × List ℕ). whole_at f.0 bytes) (x, rest) (sym (certified_is bytes) ∙ e) in
    whole_sound b.0.0 bytes x rest b.2

-- what is read of a text of this version
read_with : (f : Format) (bytes rest later : List ℕ) (x : Certified) → format_at bytes ≡ Some (f, later) → whole_at f bytes ≡ Some (x, rest) → certified_at bytes ≡ Some (x, rest)
read_with f bytes rest later x line whole = certified_is bytes ∙ ap (λ o. o >>= λ format. whole_at format.0 bytes) line ∙ whole

pub earlier_found : (bytes : List ℕ) (c : AnEarlier) (rest : List ℕ) → earlier_at bytes ≡ Some (c, rest) → certified_at bytes ≡ Some (earlier c, rest)
earlier_found bytes c rest e =
    let b = bind_some (earlier_line_at bytes) (λ v. (property_at v.1 >>= λ p. (field_at greatest any 10 p.1 >>= λ n. (many_at clause_at n.0 n.1 >>= λ invariant. parts_at v.0 p.0 n.0 invariant.0 invariant.1)))) (c, rest) (sym (certificate_is bytes) ∙ e) in
    read_with (Earlier b.0.0) bytes rest b.0.1 (earlier c) (of_earlier bytes b.0.1 b.0.0 b.1) (ap (λ o. o >>= λ c. Some (earlier c.0, c.1)) e)

third_is : (bytes : List ℕ) → certificate_at bytes ≡ (first_line_at bytes >>= λ first. (claim_at first.1 >>= λ claim. (evidence_at claim.1 >>= λ evidence. Some (record { claim = claim.0; evidence = evidence.0 }, evidence.1))))
unfolding certificate_at
third_is bytes = refl

pub third_found : (bytes : List ℕ) (c : Certificate) (rest : List ℕ) → certificate_at bytes ≡ Some (c, rest) → certified_at bytes ≡ Some (third c, rest)
third_found bytes c rest e =
    let b = bind_some (first_line_at bytes) (λ first. (claim_at first.1 >>= λ claim. (evidence_at claim.1 >>= λ evidence. Some (record { claim = claim.0; evidence = evidence.0 }, evidence.1)))) (c, rest) (sym (third_is bytes) ∙ e) in
    read_with Three bytes rest b.0.1 (third c) (of_third bytes b.0.1 b.1) (ap (λ o. o >>= λ c. Some (third c.0, c.1)) e)

certified_complete : (front : List ℕ) (x : Certified) (rest : List ℕ) → SpellsCertified front x → certified_at (front ++ rest) ≡ Some (x, rest)
certified_complete front (earlier c) rest s = earlier_found (front ++ rest) c rest (earlier_reads.complete front c rest s)
certified_complete front (third c) rest s = third_found (front ++ rest) c rest (certificate_reads.complete front c rest s)

pub certified_reads : Reads certified_at SpellsCertified
certified_reads = record { sound = certified_sound; complete = certified_complete }
