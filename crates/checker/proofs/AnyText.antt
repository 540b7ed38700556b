-- What is found of a text by its first line, and behind its end.
use Rattle.std.specs.Prelude.{IsErrAnd}
use Rattle.std.proofs.Common.{◌≡◌, ℕ, List, [], ◌++◌, None, Some, Result, Ok, refl, sym, ◌∙◌, ap, subst}
use Rattle.std.proofs.lemmas.List.{append-nil}
use Rattle.std.proofs.lemmas.Option.{none-some, same_Some}
use Rattle.base.specs.Devices.{Leaves, Reads}
use Rattle.scan.specs.Reading.{◌>>=◌, Read}
use Rattle.graph.specs.declared.parts.Parts.{Parts}
use Rattle.certificate.specs.declared.certificate.Certificate.{Certificate as AnEarlier}
use Rattle.certificate.specs.declared.head.Version.{Version}
use Rattle.certificate.specs.declared.reader_error.ReaderError.{ReaderError}
use Rattle.certificate.specs.Reading.{certificate_at as earlier_at, first_line_at as earlier_line_at}
use Rattle.pieces.specs.Lines.{end_at}
use Rattle.pieces.proofs.LineLaws.{at_end, not_at_end}
use Rattle.certificate.specs.Streams.{Finds, FindsWith, ForText}
use Rattle.certificate.proofs.StreamLaws.{certificate_is, for_text_map}
use Rattle.certificate3.specs.declared.first_line.Format.{Format}
use Rattle.certificate3.specs.declared.first_line.Format.TheVariants.{Earlier, Three}
use Rattle.certificate3.specs.Formats.{Certified, earlier, third, SpellsCertified, behind_at, certified_at, format_at, whole_at}
use Rattle.certificate3.specs.Reading.{certificate_at, first_line_at}
use Rattle.certificate3.specs.Texts.{Certificate}
use Rattle.certificate3.proofs.ChainLaws.{goes_on, maps, same_reads, stops}
use Rattle.certificate3.proofs.FormatLaws.{certified_reads, earlier_line, third_line}
use Rattle.certificate3.proofs.PartLaws.{then_claim, certificate_is as third_is}
use Rattle.checker.specs.AnyVersion.{IsFoundOf, IsFoundThird, named_property}
use Rattle.checker2.specs.Streamed.{IsFound, behind_version_at}
use Rattle.checker2.specs.declared.certificate_text.Outcome.{Outcome}

-- ---- what is behind the first line of a version

abbrev pub behind_format : Format → List ℕ → Read Certified
behind_format (Earlier version) bytes = behind_version_at version bytes >>= λ c. Some (earlier c.0, c.1)
behind_format Three bytes = behind_at bytes >>= λ c. Some (third c.0, c.1)

earlier_behind : (bytes rest : List ℕ) (v : Version) → earlier_line_at bytes ≡ Some (v, rest) → earlier_at bytes ≡ behind_version_at v rest
earlier_behind bytes rest v line = certificate_is bytes ∙ ap (λ (o : Read Version). o >>= λ v. behind_version_at v.0 v.1) line

third_behind : (bytes rest : List ℕ) → first_line_at bytes ≡ Some (tt, rest) → certificate_at bytes ≡ behind_at rest
third_behind bytes rest line = sym (third_is bytes) ∙ ap (λ (o : Read (Unit {0})). o >>= λ u. then_claim u.0 u.1) line

behind_line : (bytes : List ℕ) (line : Read Format) → format_at bytes ≡ line → (line >>= λ f. behind_format f.0 f.1) ≡ (line >>= λ f. whole_at f.0 bytes)
behind_line bytes None is = refl
behind_line bytes (Some (Earlier v, rest)) is = ap (λ (o : Read AnEarlier). o >>= λ c. Some (earlier c.0, c.1)) (sym (earlier_behind bytes rest v (earlier_line bytes rest v is)))
behind_line bytes (Some (Three, rest)) is = ap (λ (o : Read Certificate). o >>= λ c. Some (third c.0, c.1)) (sym (third_behind bytes rest (third_line bytes rest is)))

certified_is : (bytes : List ℕ) → (format_at bytes >>= λ f. whole_at f.0 bytes) ≡ certified_at bytes
unfolding certified_at
certified_is bytes = refl

behind_is : (bytes : List ℕ) → (format_at bytes >>= λ f. behind_format f.0 f.1) ≡ certified_at bytes
behind_is bytes = behind_line bytes (format_at bytes) refl ∙ certified_is bytes

-- the first line is refused
pub format_stops : {X : Type 0} (P : Certified → X → Type 0) (e : ReaderError) (r : Result X ReaderError) (before after : Leaves) (held later : List ℕ)
    → IsErrAnd r (λ x. x ≡ e) → Reads before after (λ ys zs. ForText e (format_at (held ++ ys) ≡ None)) → Reads before after (λ ys zs. FindsWith P (certified_at (held ++ ys)) r later zs)
format_stops P e r before after held later is refused =
    same_reads P (λ bytes. format_at bytes >>= λ f. behind_format f.0 f.1) certified_at r before after held later behind_is
    (stops P format_at behind_format e r before after held later is refused)

-- it was read, and what is behind it decides
behind_found : {X : Type 0} (P : Certified → X → Type 0) (f : Format) (r : Result X ReaderError) (before between after : Leaves) (first second later : List ℕ)
    → Reads before between (λ ys zs. Finds (format_at (first ++ ys)) (Ok f) second zs) → Reads between after (λ ys zs. FindsWith P (behind_format f (second ++ ys)) r later zs)
    → Reads before after (λ ys zs. FindsWith P (certified_at (first ++ ys)) r later zs)
behind_found P f r before between after first second later line found =
    same_reads P (λ bytes. format_at bytes >>= λ f. behind_format f.0 f.1) certified_at r before after first later behind_is
    (goes_on P format_at behind_format f r before between after first second later line found)

-- the property of any certificate, with what is found of it
abbrev pub IsOutcome : Parts → Certified → Outcome → Type 0
IsOutcome m c found = (found.property ≡ named_property c) × IsFoundOf m c found.refusal

pub earlier_told : (m : Parts) (f : Format) (v : Version) (r : Result Outcome ReaderError) (before between after : Leaves) (first second later : List ℕ) → f ≡ Earlier v
    → Reads before between (λ ys zs. Finds (format_at (first ++ ys)) (Ok f) second zs)
    → Reads between after (λ ys zs. FindsWith (λ (c : AnEarlier) (found : Outcome). (found.property ≡ c.property) × IsFound m c found.refusal) (behind_version_at v (second ++ ys)) r later zs)
    → Reads before after (λ ys zs. FindsWith (IsOutcome m) (certified_at (first ++ ys)) r later zs)
earlier_told m f v r before between after first second later is line found =
    behind_found (IsOutcome m) (Earlier v) r before between after first second later
    (subst (λ (g : Format). Reads before between (λ ys zs. Finds (format_at (first ++ ys)) (Ok g) second zs)) is line)
    (maps (λ (c : AnEarlier) (found : Outcome). (found.property ≡ c.property) × IsFound m c found.refusal) (IsOutcome m) (behind_version_at v) earlier r between after second later found (λ c x both. both))

pub third_told : (m : Parts) (f : Format) (r : Result Outcome ReaderError) (before between after : Leaves) (first second later : List ℕ) → f ≡ Three
    → Reads before between (λ ys zs. Finds (format_at (first ++ ys)) (Ok f) second zs)
    → Reads between after (λ ys zs. FindsWith (λ (c : Certificate) (found : Outcome). (found.property ≡ c.claim.property) × IsFoundThird m c found.refusal) (behind_at (second ++ ys)) r later zs)
    → Reads before after (λ ys zs. FindsWith (IsOutcome m) (certified_at (first ++ ys)) r later zs)
third_told m f r before between after first second later is line found =
    behind_found (IsOutcome m) Three r before between after first second later
    (subst (λ (g : Format). Reads before between (λ ys zs. Finds (format_at (first ++ ys)) (Ok g) second zs)) is line)
    (maps (λ (c : Certificate) (found : Outcome). (found.property ≡ c.claim.property) × IsFoundThird m c found.refusal) (IsOutcome m) behind_at third r between after second later found (λ c x both. both))

-- ---- the whole text

text_spelled : (text rest : List ℕ) (c : Certified) → certified_at text ≡ Some (c, rest) → rest ≡ [] → SpellsCertified text c
text_spelled text rest c e none =
    let (front, spelled, whole) = certified_reads.sound text c rest e in
    subst (λ (w : List ℕ). SpellsCertified w c) (sym (whole ∙ ap (λ (w : List ℕ). front ++ w) none ∙ append-nil front)) spelled

text_read : (text : List ℕ) (c : Certified) → SpellsCertified text c → certified_at text ≡ Some (c, [])
text_read text c spelled = ap certified_at (sym (append-nil text)) ∙ certified_reads.complete text c [] spelled

text_none : (text : List ℕ) (c : Certified) → certified_at text ≡ None → SpellsCertified text c → ⊥
text_none text c none spelled = none-some (c, []) (sym none ∙ text_read text c spelled)

text_more : (text rest : List ℕ) (c d : Certified) → certified_at text ≡ Some (c, rest) → (rest ≡ [] → ⊥) → SpellsCertified text d → ⊥
text_more text rest c d e more spelled = more (ap (λ (w : Certified × List ℕ). w.1) (same_Some (c, rest) (d, []) (sym e ∙ text_read text d spelled)))

-- it is refused before its end
pub text_refused : (held ys : List ℕ) (e : ReaderError) → held ≡ [] → ForText e (certified_at (held ++ ys) ≡ None) → ForText e ((c : Certified) → SpellsCertified ys c → ⊥)
text_refused held ys e nothing f =
    for_text_map e (certified_at ys ≡ None) ((c : Certified) → SpellsCertified ys c → ⊥) (λ none c. text_none ys c none)
    (subst (λ (h : List ℕ). ForText e (certified_at (h ++ ys) ≡ None)) nothing f)

-- it goes on behind a certificate
pub text_goes_on : {X : Type 0} (P : Certified → X → Type 0) (held later ys zs : List ℕ) (x : X) (e : ReaderError) → held ≡ [] → FindsWith P (certified_at (held ++ ys)) (Ok x) later zs
    → ForText e (end_at (later ++ zs) ≡ None) → ForText e ((c : Certified) → SpellsCertified ys c → ⊥)
text_goes_on P held later ys zs x e nothing (c, is, p) next =
    let read : certified_at ys ≡ Some (c, later ++ zs) = subst (λ (h : List ℕ). certified_at (h ++ ys) ≡ Some (c, later ++ zs)) nothing is in
    for_text_map e (end_at (later ++ zs) ≡ None) ((d : Certified) → SpellsCertified ys d → ⊥)
    (λ more d. text_more ys (later ++ zs) c d read (not_at_end (later ++ zs) more)) next

-- it is a certificate
pub text_whole : {X : Type 0} (P : Certified → X → Type 0) (held later last ys zs ws : List ℕ) (x : X) → held ≡ [] → FindsWith P (certified_at (held ++ ys)) (Ok x) later zs
    → Finds (end_at (later ++ zs)) (Ok (tt {0})) last ws → (c : Certified) × SpellsCertified ys c × P c x
text_whole P held later last ys zs ws x nothing (c, is, p) ended =
    let read : certified_at ys ≡ Some (c, later ++ zs) = subst (λ (h : List ℕ). certified_at (h ++ ys) ≡ Some (c, later ++ zs)) nothing is in
    (c, text_spelled ys (later ++ zs) c read (at_end (later ++ zs) (last ++ ws) tt ended), p)
