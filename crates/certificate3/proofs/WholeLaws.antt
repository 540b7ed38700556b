-- What is found of a whole text.
use Rattle.std.specs.Prelude.{IsErrAnd, MatchResult}
use Rattle.std.proofs.Common.{◌≡◌, ℕ, List, [], ◌++◌, Some, None, Result, Ok, Err, sym, ◌∙◌, ap, subst}
use Rattle.std.proofs.lemmas.List.{append-nil}
use Rattle.std.proofs.lemmas.Option.{none-some, same_Some}
use Rattle.certificate.specs.declared.reader_error.ReaderError.{ReaderError}
use Rattle.pieces.specs.Lines.{end_at}
use Rattle.pieces.proofs.LineLaws.{at_end, not_at_end}
use Rattle.certificate.specs.Streams.{Finds, FindsWith, ForText}
use Rattle.certificate.proofs.StreamLaws.{for_text_map}
use Rattle.certificate3.specs.Reading.{certificate_at}
use Rattle.certificate3.specs.Texts.{Certificate, SpellsCertificate}
use Rattle.certificate3.proofs.CertificateLaws.{certificate_reads}

-- an error of which this holds is answered
pub told : {X E : Type 0} (P : X → Type 0) (Q : E → Type 0) (r : Result X E) (e : E) → IsErrAnd r (λ x. x ≡ e) → Q e → MatchResult r P Q
told P Q (Ok x) e is q = absurd is
told P Q (Err x) e is q = subst Q (sym is) q

text_spelled : (text rest : List ℕ) (c : Certificate) → certificate_at text ≡ Some (c, rest) → rest ≡ [] → SpellsCertificate text c
text_spelled text rest c e none =
    let (front, spelled, whole) = certificate_reads.sound text c rest e in
    subst (λ (w : List ℕ). SpellsCertificate w c) (sym (whole ∙ ap (λ (w : List ℕ). front ++ w) none ∙ append-nil front)) spelled

text_read : (text : List ℕ) (c : Certificate) → SpellsCertificate text c → certificate_at text ≡ Some (c, [])
text_read text c spelled = ap certificate_at (sym (append-nil text)) ∙ certificate_reads.complete text c [] spelled

text_none : (text : List ℕ) (c : Certificate) → certificate_at text ≡ None → SpellsCertificate text c → ⊥
text_none text c none spelled = none-some (c, []) (sym none ∙ text_read text c spelled)

text_more : (text rest : List ℕ) (c d : Certificate) → certificate_at text ≡ Some (c, rest) → (rest ≡ [] → ⊥) → SpellsCertificate text d → ⊥
text_more text rest c d e more spelled = more (ap (λ (w : Certificate × List ℕ). w.1) (same_Some (c, rest) (d, []) (sym e ∙ text_read text d spelled)))

-- it is refused before its end
pub text_refused : (held ys : List ℕ) (e : ReaderError) → held ≡ [] → ForText e (certificate_at (held ++ ys) ≡ None) → ForText e ((c : Certificate) → SpellsCertificate ys c → ⊥)
text_refused held ys e nothing f =
    for_text_map e (certificate_at ys ≡ None) ((c : Certificate) → SpellsCertificate ys c → ⊥) (λ none c. text_none ys c none)
    (subst (λ (h : List ℕ). ForText e (certificate_at (h ++ ys) ≡ None)) nothing f)

-- it goes on behind a certificate
pub text_goes_on : {X : Type 0} (P : Certificate → X → Type 0) (held later ys zs : List ℕ) (x : X) (e : ReaderError) → held ≡ [] → FindsWith P (certificate_at (held ++ ys)) (Ok x) later zs
    → ForText e (end_at (later ++ zs) ≡ None) → ForText e ((c : Certificate) → SpellsCertificate ys c → ⊥)
text_goes_on P held later ys zs x e nothing (c, is, p) next =
    let read : certificate_at ys ≡ Some (c, later ++ zs) = subst (λ (h : List ℕ). certificate_at (h ++ ys) ≡ Some (c, later ++ zs)) nothing is in
    for_text_map e (end_at (later ++ zs) ≡ None) ((d : Certificate) → SpellsCertificate ys d → ⊥)
    (λ more d. text_more ys (later ++ zs) c d read (not_at_end (later ++ zs) more)) next

-- it is a certificate
pub text_whole : {X : Type 0} (P : Certificate → X → Type 0) (held later last ys zs ws : List ℕ) (x : X) → held ≡ [] → FindsWith P (certificate_at (held ++ ys)) (Ok x) later zs
    → Finds (end_at (later ++ zs)) (Ok (tt {0})) last ws → (c : Certificate) × SpellsCertificate ys c × P c x
text_whole P held later last ys zs ws x nothing (c, is, p) ended =
    let read : certificate_at ys ≡ Some (c, later ++ zs) = subst (λ (h : List ℕ). certificate_at (h ++ ys) ≡ Some (c, later ++ zs)) nothing is in
    (c, text_spelled ys (later ++ zs) c read (at_end (later ++ zs) (last ++ ws) tt ended), p)
