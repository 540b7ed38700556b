-- A reader finds what the text says, however its source cuts it.
use Rattle.std.specs.Prelude.{IsErrAnd, IfOk, IfSome}
use Rattle.base.specs.Devices.{FailsOnce}
use Rattle.base.specs.Witness.{witness}
use Rattle.std.proofs.Common.{◌≡◌, ℕ, suc, ◌+◌, ◌-◌, ◌<◌, ◌≤◌, Bool, true, false, List, [], ◌∷◌, ◌++◌, length, Option, Some, None, Result, Ok, Err, refl, sym, ap, subst, ◌∙◌, arith}
use Rattle.std.proofs.lemmas.List.{append-nil}
use Rattle.std.proofs.lemmas.Option.{none-some, same_Some}
use Rattle.scan.specs.Reading.{◌>>=◌, Read, ended}
use Rattle.scan.specs.Bytes.{byte_at}
use Rattle.scan.specs.Words.{any, field_at}
use Rattle.scan.specs.Lists.{many_at, items_at}
use Rattle.scan.proofs.Loops.{with_front, many_more, many_done}
use Rattle.pieces.specs.Pieces.{piece_at}
use Rattle.pieces.specs.Lines.{IsOfPiece, end_at, with_buffer}
use Rattle.pieces.specs.Lines as lines
use Rattle.pieces.proofs.ItemLaws.{items_next, items_last, items_none}
use Rattle.pieces.specs.declared.line_error.LineError.{LineError}
use Rattle.pieces.specs.declared.line_error.LineError.TheVariants as line
use Rattle.lrat.specs.Limits.{IsLine}
use Rattle.lrat.specs.declared.line.Line.{Line as ALine}
use Rattle.scan.specs.declared.fault.Fault.TheVariants.{Memory, Text}
use Rattle.certificate.specs.declared.reader_error.ReaderError.{ReaderError}
use Rattle.certificate.specs.declared.reader_error.ReaderError.TheVariants.{Refused, Device}
use Rattle.certificate.specs.declared.cert_error.CertError.{CertError}
use Rattle.certificate.specs.declared.cert_error.CertError.TheVariants as text
use Rattle.certificate.specs.declared.cert_fault.CertFault.{CertFault}
use Rattle.certificate.specs.declared.cert_fault.CertFault.TheVariants as kind
use Rattle.certificate.specs.Refusals.{answer_of, of_line}
use Rattle.certificate.specs.declared.kinds.SectionKind.{SectionKind}
use Rattle.certificate.specs.declared.certificate.Certificate.{Certificate}
use Rattle.certificate.specs.Reading.{greatest, first_line_at, property_at, clause_at, item_at, line_where, section_at, certificate_at}
use Rattle.certificate.specs.Held.{Held, held_of, refusal_of}
use Rattle.certificate.specs.Streams.{Finds, FindsWith, ForText, StillReads, letter_at, letter_of, parts_at}
use Rattle.certificate.specs.Texts.{SpellsCertificate}
use Rattle.certificate.proofs.CertificateLaws.{certificate_reads}
use Rattle.certificate.proofs.LineLaws.{line_of_piece, line_within}

-- no part begins with the byte that is left behind a refusal
piece_nought : (ys : List ℕ) → piece_at (0 ∷ ys) ≡ (0 ∷ [], ys)
unfolding piece_at
piece_nought ys = refl

nothing_of : {A : Type 0} (p : List ℕ → Read A) → IsOfPiece p → (ys : List ℕ) → p (0 ∷ ys) ≡ None
nothing_of p law ys =
    law.from_piece (0 ∷ ys) ∙ ap (λ (w : List ℕ × List ℕ). ended (p w.0) >>= λ x. Some (x, w.1)) (piece_nought ys) ∙ ap (λ o. o >>= λ x. Some (x, ys)) law.begins

for_text_of : (e : CertError) (P : Type 0) → P → ForText (Refused e) P
for_text_of (text.OutOfMemory refused) P p = tt
for_text_of (text.Number place) P p = p
for_text_of (text.Byte place) P p = p
for_text_of (text.Truncated place) P p = p
for_text_of (text.Version place) P p = p
for_text_of (text.PropertyLine place) P p = p
for_text_of (text.Section place) P p = p

again_refused : {A : Type 0} (p : List ℕ → Read A) → IsOfPiece p → (e : CertError) (ys : List ℕ) → ForText (Refused e) (p (0 ∷ ys) ≡ None)
again_refused p law e ys = for_text_of e (p (0 ∷ ys) ≡ None) (nothing_of p law ys)

nothing_ends : (ys : List ℕ) → end_at (0 ∷ ys) ≡ None
unfolding end_at
nothing_ends ys = refl

end_again : (e : CertError) (ys : List ℕ) → ForText (Refused e) (end_at (0 ∷ ys) ≡ None)
end_again e ys = for_text_of e (end_at (0 ∷ ys) ≡ None) (nothing_ends ys)

-- so says a reader that remembers a refusal
pub refused_again : {A : Type 0} (p : List ℕ → Read A) → IsOfPiece p → (taken : List ℕ) (o : Option CertError) (e : CertError) (h : Held) (ys : List ℕ) → held_of taken o ≡ h → o ≡ Some e → ForText (Refused e) (p (h.held ++ ys) ≡ None)
refused_again p law taken o e h ys is some = subst (λ (w : Held). ForText (Refused e) (p (w.held ++ ys) ≡ None)) (ap (held_of taken) (sym some) ∙ is) (again_refused p law e ys)

pub end_refused_again : (taken : List ℕ) (o : Option CertError) (e : CertError) (h : Held) (ys : List ℕ) → held_of taken o ≡ h → o ≡ Some e → ForText (Refused e) (end_at (h.held ++ ys) ≡ None)
end_refused_again taken o e h ys is some = subst (λ (w : Held). ForText (Refused e) (end_at (w.held ++ ys) ≡ None)) (ap (held_of taken) (sym some) ∙ is) (end_again e ys)

-- ---- what lines say

-- what holds of a refusal of lines holds of what it is for a reader
for_text_of_line : (e : LineError CertFault) (P : Type 0) → lines.ForText e P → ForText (of_line e) P
for_text_of_line (line.Refused total (Memory refused)) P p = tt
for_text_of_line (line.Refused total (Text kind.Version left)) P p = p
for_text_of_line (line.Refused total (Text kind.PropertyLine left)) P p = p
for_text_of_line (line.Refused total (Text kind.Number left)) P p = p
for_text_of_line (line.Refused total (Text kind.Section left)) P p = p
for_text_of_line (line.Refused total (Text kind.Byte left)) P p = p
for_text_of_line (line.Refused total (Text kind.Truncated left)) P p = p
for_text_of_line line.Device P p = tt

-- where no refusal is remembered, a reader holds what its lines hold
pub held_open : (taken : List ℕ) (o : Option CertError) (h : Held) → held_of taken o ≡ h → o ≡ None → taken ≡ h.held
held_open taken o h is none = ap (λ (w : Held). w.held) (ap (held_of taken) (sym none) ∙ is)

answer_found : {A : Type 0} (read : Read A) (r : Result A (LineError CertFault)) (taken later : List ℕ) (h : Held) → held_of taken (refusal_of (answer_of r)) ≡ h → lines.Finds read r taken later → Finds read (answer_of r) h.held later
answer_found read (Ok x) taken later h held found = subst (λ (w : Held). read ≡ Some (x, w.held ++ later)) held found
answer_found read (Err e) taken later h held found = for_text_of_line e (read ≡ None) found

-- what lines found is found by a reader that remembers a refusal
pub line_found : {A : Type 0} (p : List ℕ → Read A) (inside held taken ys later : List ℕ) (h : Held) (r : Result A (LineError CertFault)) (answer : Result A ReaderError) → inside ≡ held → answer ≡ answer_of r → held_of taken (refusal_of answer) ≡ h
    → lines.Finds (p (inside ++ ys)) r taken later → Finds (p (held ++ ys)) answer h.held later
line_found {A} p inside held taken ys later h r answer same is left found =
    subst (λ (w : List ℕ). Finds (p (w ++ ys)) answer h.held later) same
    (subst (λ (o : Result A ReaderError). Finds (p (inside ++ ys)) o h.held later) (sym is)
    (answer_found (p (inside ++ ys)) r taken later h (ap (λ (o : Result A ReaderError). held_of taken (refusal_of o)) (sym is) ∙ left) found))

buffer_answer_found : {A X B : Type 0} (seen : X → B → A) (read : Read A) (r : Result X (LineError CertFault)) (buffer : B) (taken later : List ℕ) (h : Held) → held_of taken (refusal_of (answer_of r)) ≡ h → lines.Finds read (with_buffer seen r buffer) taken later → Finds read (with_buffer seen (answer_of r) buffer) h.held later
buffer_answer_found seen read (Ok x) buffer taken later h held found = subst (λ (w : Held). read ≡ Some (seen x buffer, w.held ++ later)) held found
buffer_answer_found seen read (Err e) buffer taken later h held found = for_text_of_line e (read ≡ None) found

-- the same of a line that was read into a buffer
pub buffer_found : {A X B : Type 0} (seen : X → B → A) (p : List ℕ → Read A) (inside held taken ys later : List ℕ) (h : Held) (r : Result X (LineError CertFault)) (answer : Result X ReaderError) (buffer : B) → inside ≡ held → answer ≡ answer_of r → held_of taken (refusal_of answer) ≡ h
    → lines.Finds (p (inside ++ ys)) (with_buffer seen r buffer) taken later → Finds (p (held ++ ys)) (with_buffer seen answer buffer) h.held later
buffer_found {A} {X} seen p inside held taken ys later h r answer buffer same is left found =
    subst (λ (w : List ℕ). Finds (p (w ++ ys)) (with_buffer seen answer buffer) h.held later) same
    (subst (λ (o : Result X ReaderError). Finds (p (inside ++ ys)) (with_buffer seen o buffer) h.held later) (sym is)
    (buffer_answer_found seen (p (inside ++ ys)) r buffer taken later h (ap (λ (o : Result X ReaderError). held_of taken (refusal_of o)) (sym is) ∙ left) found))

ok_of : {A : Type 0} (P : A → Type 0) (r : Result A (LineError CertFault)) → IfOk r P → IfOk (answer_of r) P
ok_of P (Ok x) p = p
ok_of P (Err e) p = p

-- what is true of a line that was read is true of the reader's answer
pub ok_answer : {A : Type 0} (P : A → Type 0) (r : Result A (LineError CertFault)) (answer : Result A ReaderError) → answer ≡ answer_of r → IfOk r P → IfOk answer P
ok_answer {A} P r answer is p = subst (λ (o : Result A ReaderError). IfOk o P) (sym is) (ok_of P r p)

moved_of : {A : Type 0} (r : Result A (LineError CertFault)) (taken : List ℕ) (h : Held) (left most : ℕ) → held_of taken (refusal_of (answer_of r)) ≡ h → IfOk r (λ _. length taken + left < most) → IfOk (answer_of r) (λ _. length h.held + left < most)
moved_of (Ok x) taken h left most held less = subst (λ (w : Held). length w.held + left < most) held less
moved_of (Err e) taken h left most held less = less

-- so less is left
pub moved : {A : Type 0} (r : Result A (LineError CertFault)) (answer : Result A ReaderError) (inside held taken : List ℕ) (h : Held) (left most : ℕ) → inside ≡ held → answer ≡ answer_of r → held_of taken (refusal_of answer) ≡ h
    → IfOk r (λ _. length taken + left < length inside + most) → IfOk answer (λ _. length h.held + left < length held + most)
moved {A} r answer inside held taken h left most same is now less =
    subst (λ (w : List ℕ). IfOk answer (λ _. length h.held + left < length w + most)) same
    (subst (λ (o : Result A ReaderError). IfOk o (λ _. length h.held + left < length inside + most)) (sym is)
    (moved_of r taken h left (length inside + most) (ap (λ (o : Result A ReaderError). held_of taken (refusal_of o)) (sym is) ∙ now) less))

line_in_limits : (r : Result Bool (LineError CertFault)) (line : ALine) → IfOk (with_buffer line_where r line) (λ l. (text : List ℕ) × (ended (item_at text) ≡ Some l)) → IfOk (with_buffer line_where (answer_of r) line) (λ l. IfSome l IsLine)
line_in_limits (Ok true) line (text, is) = line_within text line is
line_in_limits (Ok false) line given = tt
line_in_limits (Err e) line given = tt

-- a line that was read is in its limits
pub line_limited : (r : Result Bool (LineError CertFault)) (answer : Result Bool ReaderError) (line : ALine) → answer ≡ answer_of r → IfOk (with_buffer line_where r line) (λ l. (text : List ℕ) × (ended (item_at text) ≡ Some l))
    → IfOk (with_buffer line_where answer line) (λ l. IfSome l IsLine)
line_limited r answer line is given = subst (λ (o : Result Bool ReaderError). IfOk (with_buffer line_where o line) (λ l. IfSome l IsLine)) (sym is) (line_in_limits r line given)

device_to : {A : Type 0} (r : Result A (LineError CertFault)) → answer_of r ≡ Err Device → r ≡ Err line.Device
device_to (Ok x) is = absurd cc
device_to (Err (line.Refused total fault)) is = absurd cc
device_to (Err line.Device) is = refl

fails_of : {A : Type 0} (r : Result A (LineError CertFault)) (before after : ℕ) → FailsOnce r line.Device before after → FailsOnce (answer_of r) Device before after
fails_of {A} r before after once = record {
  failed = (λ is. once.failed.0 (device_to r is), λ more. ap (λ (o : Result A (LineError CertFault)). answer_of o) (once.failed.1 more));
  kept = λ other. once.kept (λ is. other (ap (λ (o : Result A (LineError CertFault)). answer_of o) is));
}

-- the source failed where it did for the lines
pub fails_answer : {A : Type 0} (r : Result A (LineError CertFault)) (answer : Result A ReaderError) (before after : ℕ) → answer ≡ answer_of r → FailsOnce r line.Device before after → FailsOnce answer Device before after
fails_answer {A} r answer before after is once = subst (λ (o : Result A ReaderError). FailsOnce o Device before after) (sym is) (fails_of r before after once)

-- ---- refusals

pub for_text_map : (e : ReaderError) (P Q : Type 0) → (P → Q) → ForText e P → ForText e Q
for_text_map (Refused (text.OutOfMemory refused)) P Q f p = tt
for_text_map (Refused (text.Number place)) P Q f p = f p
for_text_map (Refused (text.Byte place)) P Q f p = f p
for_text_map (Refused (text.Truncated place)) P Q f p = f p
for_text_map (Refused (text.Version place)) P Q f p = f p
for_text_map (Refused (text.PropertyLine place)) P Q f p = f p
for_text_map (Refused (text.Section place)) P Q f p = f p
for_text_map Device P Q f p = tt

-- ---- one part after another

pub err_finds : {A X : Type 0} (P : A → X → Type 0) (read : Read A) (r : Result X ReaderError) (e : ReaderError) (held later : List ℕ) → IsErrAnd r (λ x. x ≡ e) → ForText e (read ≡ None) → FindsWith P read r held later
err_finds P read (Ok x) e held later is f = absurd is
err_finds P read (Err x) e held later is f = subst (λ y. ForText y (read ≡ None)) (sym is) f

pub err_read : {A : Type 0} (read : Read A) (r : Result A ReaderError) (e : ReaderError) (held later : List ℕ) → IsErrAnd r (λ x. x ≡ e) → ForText e (read ≡ None) → Finds read r held later
err_read read (Ok x) e held later is f = absurd is
err_read read (Err x) e held later is f = subst (λ y. ForText y (read ≡ None)) (sym is) f

-- for want of memory
pub memory_read : {A : Type 0} (read : Read A) (r : Result A ReaderError) (held later : List ℕ) → IsErrAnd r (λ x. x ≡ Refused (text.OutOfMemory witness)) → Finds read r held later
memory_read read r held later is = err_read read r (Refused (text.OutOfMemory witness)) held later is tt

pub memory_finds : {A X : Type 0} (P : A → X → Type 0) (read : Read A) (r : Result X ReaderError) (held later : List ℕ) → IsErrAnd r (λ x. x ≡ Refused (text.OutOfMemory witness)) → FindsWith P read r held later
memory_finds P read r held later is = err_finds P read r (Refused (text.OutOfMemory witness)) held later is tt

-- the first part is refused
pub then_none : {A B : Type 0} (read : Read A) (q : A → List ℕ → Read B) (e : ReaderError) → ForText e (read ≡ None) → ForText e ((read >>= λ r. q r.0 r.1) ≡ None)
then_none read q e f = for_text_map e (read ≡ None) ((read >>= λ r. q r.0 r.1) ≡ None) (λ none. ap (λ o. o >>= λ r. q r.0 r.1) none) f

-- the first part was read, and the second part decides
pub then_finds : {A B X : Type 0} (P : B → X → Type 0) (read : Read A) (q : A → List ℕ → Read B) (x : A) (held later zs ws : List ℕ) (r : Result X ReaderError)
    → Finds read (Ok x) held zs → FindsWith P (q x (held ++ zs)) r later ws → FindsWith P (read >>= λ r. q r.0 r.1) r later ws
then_finds P read q x held later zs ws (Ok y) is (b, second, p) = (b, ap (λ o. o >>= λ r. q r.0 r.1) is ∙ second, p)
then_finds P read q x held later zs ws (Err e) is next =
    for_text_map e (q x (held ++ zs) ≡ None) ((read >>= λ r. q r.0 r.1) ≡ None) (λ none. ap (λ o. o >>= λ r. q r.0 r.1) is ∙ none) next

-- the same, where the first part was read with an answer
pub then_finds_with : {A B X Y : Type 0} (O : A → Y → Type 0) (P : B → X → Type 0) (read : Read A) (q : A → List ℕ → Read B) (y : Y) (held later zs ws : List ℕ) (r : Result X ReaderError)
    → FindsWith O read (Ok y) held zs → ((x : A) → O x y → FindsWith P (q x (held ++ zs)) r later ws) → FindsWith P (read >>= λ r. q r.0 r.1) r later ws
then_finds_with O P read q y held later zs ws r (x, is, o) next = then_finds P read q x held later zs ws r is (next x o)

-- what is found is reported of another value
pub finds_if : {A X Y : Type 0} (P : A → X → Type 0) (Q : A → Y → Type 0) (f : X → Y) (read : Read A) (x : X) (held later : List ℕ) → ((a : A) → P a x → Q a (f x)) → FindsWith P read (Ok x) held later → FindsWith Q read (Ok (f x)) held later
finds_if P Q f read x held later h (a, is, p) = (a, is, h a p)

-- what is read so is read so too
pub same_finds : {A X : Type 0} (P : A → X → Type 0) (read other : Read A) (r : Result X ReaderError) (held later : List ℕ) → read ≡ other → FindsWith P read r held later → FindsWith P other r held later
same_finds P read other r held later same f = subst (λ o. FindsWith P o r held later) same f

-- ---- many values

none_of_step : {A : Type 0} (front : List A) (o : Read A) (q : List ℕ → Read (List A)) → o ≡ None → with_front front (o >>= λ first. (q first.1 >>= λ others. Some (first.0 ∷ others.0, others.1))) ≡ None
none_of_step front o q none = rw none refl

-- one value more
pub many_goes : {A : Type 0} (one : List ℕ → Read A) (read : Read (List A)) (front : List A) (count i : ℕ) (x : A) (held later zs ws : List ℕ) → i < count → StillReads read front (many_at one (count - i)) held zs
    → Finds (one (held ++ zs)) (Ok x) later ws → StillReads read (front ++ x ∷ []) (many_at one (count - (i + 1))) later ws
many_goes one read front count i x held later zs ws lt so_far is = many_more one front count i (held ++ zs) x (later ++ ws) read lt is so_far

-- a value is refused
pub many_refused : {A : Type 0} (one : List ℕ → Read A) (read : Read (List A)) (front : List A) (count i : ℕ) (e : ReaderError) (held zs : List ℕ) → i < count → StillReads read front (many_at one (count - i)) held zs
    → ForText e (one (held ++ zs) ≡ None) → ForText e (read ≡ None)
unfolding many_at
many_refused one read front count i e held zs lt so_far next =
    let k : count - i ≡ suc (count - (i + 1)) = omega arith in
    for_text_map e (one (held ++ zs) ≡ None) (read ≡ None)
    (λ none. sym so_far ∙ ap (λ n. with_front front (many_at one n (held ++ zs))) k ∙ none_of_step front (one (held ++ zs)) (many_at one (count - (i + 1))) none)
    next

-- the same, where the value was read with an answer
pub many_goes_with : {A X : Type 0} (P : A → X → Type 0) (one : List ℕ → Read A) (read : Read (List A)) (front : List A) (count i : ℕ) (y : X) (held later zs ws : List ℕ) → i < count → StillReads read front (many_at one (count - i)) held zs
    → FindsWith P (one (held ++ zs)) (Ok y) later ws → (x : A) × P x y × StillReads read (front ++ x ∷ []) (many_at one (count - (i + 1))) later ws
many_goes_with P one read front count i y held later zs ws lt so_far (x, is, p) = (x, p, many_goes one read front count i x held later zs ws lt so_far is)

-- all of them were read
pub many_read : {A : Type 0} (one : List ℕ → Read A) (read : Read (List A)) (front : List A) (count i : ℕ) (held zs : List ℕ) → count ≤ i → StillReads read front (many_at one (count - i)) held zs → Finds read (Ok front) held zs
many_read one read front count i held zs le so_far = many_done one front count i (held ++ zs) read le so_far

-- ---- values up to an end

pub items_go : (read : Read (List ALine)) (front : List ALine) (line : ALine) (held later zs ws : List ℕ) → StillReads read front (items_at item_at) held zs
    → Finds (item_at (held ++ zs)) (Ok (Some line)) later ws → StillReads read (front ++ line ∷ []) (items_at item_at) later ws
items_go read front line held later zs ws so_far is = items_next item_at line_of_piece read front line (held ++ zs) (later ++ ws) so_far is

pub items_end : (read : Read (List ALine)) (front : List ALine) (held later zs ws : List ℕ) → StillReads read front (items_at item_at) held zs
    → Finds (item_at (held ++ zs)) (Ok None) later ws → Finds read (Ok front) later ws
items_end read front held later zs ws so_far is = items_last item_at line_of_piece read front (held ++ zs) (later ++ ws) so_far is

pub items_refused : (read : Read (List ALine)) (front : List ALine) (e : ReaderError) (held zs : List ℕ) → StillReads read front (items_at item_at) held zs
    → ForText e (item_at (held ++ zs) ≡ None) → ForText e (read ≡ None)
items_refused read front e held zs so_far next =
    for_text_map e (item_at (held ++ zs) ≡ None) (read ≡ None) (items_none item_at line_of_piece read front (held ++ zs) so_far) next

-- the others were read at once
pub others_found : {A X : Type 0} (P Q : List A → X → Type 0) (read : Read (List A)) (front : List A) (f : List ℕ → Read (List A)) (held later zs ws : List ℕ) (r : Result X ReaderError)
    → StillReads read front f held zs → FindsWith P (f (held ++ zs)) r later ws → ((more : List A) (x : X) → P more x → Q (front ++ more) x) → FindsWith Q read r later ws
others_found P Q read front f held later zs ws (Ok x) so_far (more, is, p) h = (front ++ more, sym so_far ∙ ap (with_front front) is, h more x p)
others_found P Q read front f held later zs ws (Err e) so_far next h =
    for_text_map e (f (held ++ zs) ≡ None) (read ≡ None) (λ none. sym so_far ∙ ap (with_front front) none) next

-- ---- sections

-- the line of a letter was read
abbrev lettered : Option (List ℕ) → Read (Unit {0})
lettered o = o >>= λ rest. Some (tt, rest)

letter_read : (o : Option (List ℕ)) → (lettered o >>= λ r. items_at item_at r.1) ≡ (o >>= λ lines. items_at item_at lines)
letter_read None = refl
letter_read (Some rest) = refl

letter_then : (o : Option (List ℕ)) → ((o >>= λ behind. lettered (byte_at 10 behind)) >>= λ r. items_at item_at r.1) ≡ (o >>= λ behind. (byte_at 10 behind >>= λ lines. items_at item_at lines))
letter_then None = refl
letter_then (Some behind) = letter_read (byte_at 10 behind)

pub section_is : (k : SectionKind) (bytes : List ℕ) → (letter_at k bytes >>= λ r. items_at item_at r.1) ≡ section_at (letter_of k) bytes
unfolding letter_at section_at
section_is k bytes = letter_then (byte_at (letter_of k) bytes)

-- the line of its letter is refused
pub section_refused : (k : SectionKind) (e : ReaderError) (bytes : List ℕ) → ForText e (letter_at k bytes ≡ None) → ForText e (section_at (letter_of k) bytes ≡ None)
section_refused k e bytes f = subst (λ o. ForText e (o ≡ None)) (section_is k bytes) (then_none (letter_at k bytes) (λ u. items_at item_at) e f)

-- the line of its letter was read, and then its lines
pub section_finds : {X : Type 0} (P : List ALine → X → Type 0) (k : SectionKind) (bytes held later zs ws : List ℕ) (r : Result X ReaderError)
    → Finds (letter_at k bytes) (Ok (tt {0})) held zs → FindsWith P (items_at item_at (held ++ zs)) r later ws → FindsWith P (section_at (letter_of k) bytes) r later ws
section_finds P k bytes held later zs ws r first next =
    subst (λ o. FindsWith P o r later ws) (section_is k bytes) (then_finds P (letter_at k bytes) (λ u. items_at item_at) tt held later zs ws r first next)

-- ---- the whole text

-- a certificate is read part by part
pub certificate_is : (bytes : List ℕ) → certificate_at bytes ≡ (first_line_at bytes >>= λ v. (property_at v.1 >>= λ p. (field_at greatest any 10 p.1 >>= λ n. (many_at clause_at n.0 n.1 >>= λ invariant. parts_at v.0 p.0 n.0 invariant.0 invariant.1))))
unfolding certificate_at parts_at
certificate_is bytes = refl

pub text_spelled : (text rest : List ℕ) (c : Certificate) → certificate_at text ≡ Some (c, rest) → rest ≡ [] → SpellsCertificate text c
text_spelled text rest c e none =
    let (front, spelled, whole) = certificate_reads.sound text c rest e in
    subst (λ (w : List ℕ). SpellsCertificate w c) (sym (whole ∙ ap (λ (w : List ℕ). front ++ w) none ∙ append-nil front)) spelled

pub text_read : (text : List ℕ) (c : Certificate) → SpellsCertificate text c → certificate_at text ≡ Some (c, [])
text_read text c spelled = ap certificate_at (sym (append-nil text)) ∙ certificate_reads.complete text c [] spelled

pub text_none : (text : List ℕ) (c : Certificate) → certificate_at text ≡ None → SpellsCertificate text c → ⊥
text_none text c none spelled = none-some (c, []) (sym none ∙ text_read text c spelled)

pub text_more : (text rest : List ℕ) (c d : Certificate) → certificate_at text ≡ Some (c, rest) → (rest ≡ [] → ⊥) → SpellsCertificate text d → ⊥
text_more text rest c d e more spelled = more (ap (λ (w : Certificate × List ℕ). w.1) (same_Some (c, rest) (d, []) (sym e ∙ text_read text d spelled)))
