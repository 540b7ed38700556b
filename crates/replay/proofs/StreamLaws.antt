-- A reader finds what the text says, however its source cuts it.
use Rattle.std.specs.Prelude.{IfOk, IsErrAnd, MatchResult}
use Rattle.base.specs.Devices.{FailsOnce}
use Rattle.base.specs.Witness.{witness}
use Rattle.std.proofs.Common.{◌≡◌, ℕ, ◌+◌, ◌<◌, Bool, true, false, List, [], ◌∷◌, ◌++◌, length, Option, Some, None, Result, Ok, Err, refl, sym, ap, subst, ◌∙◌}
use Rattle.scan.specs.Reading.{◌>>=◌, Read}
use Rattle.scan.specs.Lists.{items_at}
use Rattle.scan.proofs.Loops.{with_front}
use Rattle.scan.specs.declared.fault.Fault.TheVariants.{Memory, Text}
use Rattle.pieces.specs.Lines.{IsOfPiece, with_buffer}
use Rattle.pieces.specs.Lines as lines
use Rattle.pieces.specs.declared.line_error.LineError.{LineError}
use Rattle.pieces.specs.declared.line_error.LineError.TheVariants as line
use Rattle.pieces.proofs.ItemLaws.{items_next, items_last, items_none}
use Rattle.stimulus.specs.declared.stim_error.StimError.TheVariants as text
use Rattle.stimulus.specs.declared.reading.StimFault.{StimFault}
use Rattle.stimulus.specs.declared.reading.StimFault.TheVariants as kind
use Rattle.replay.specs.declared.text_error.TextError.{TextError}
use Rattle.replay.specs.declared.text_error.TextError.TheVariants.{Refused, Device}
use Rattle.stimulus.specs.Reading.{line_at}
use Rattle.replay.specs.Reading.{line_where}
use Rattle.replay.specs.Refusals.{answer_of, of_line}
use Rattle.replay.specs.Streams.{Finds, FindsWith, ForText, StillReads}
use Rattle.replay.proofs.LineLaws.{input_of_piece}

-- ---- what lines say

-- what holds of a refusal of lines holds of what it is for a reader
for_text_of_line : (e : LineError StimFault) (P : Type 0) → lines.ForText e P → ForText (of_line e) P
for_text_of_line (line.Refused total (Memory refused)) P p = tt
for_text_of_line (line.Refused total (Text kind.Status left)) P p = p
for_text_of_line (line.Refused total (Text kind.PropertyLine left)) P p = p
for_text_of_line (line.Refused total (Text kind.Character left)) P p = p
for_text_of_line (line.Refused total (Text kind.Truncated left)) P p = p
for_text_of_line (line.Refused total (Text kind.AfterEnd left)) P p = p
for_text_of_line line.Device P p = tt

answer_found : {A : Type 0} (read : Read A) (r : Result A (LineError StimFault)) (held later : List ℕ) → lines.Finds read r held later → Finds read (answer_of r) held later
answer_found read (Ok x) held later found = found
answer_found read (Err e) held later found = for_text_of_line e (read ≡ None) found

-- what lines found is found by a reader
pub line_found : {A : Type 0} (p : List ℕ → Read A) (inside held now ys later : List ℕ) (r : Result A (LineError StimFault)) (answer : Result A TextError) → inside ≡ held → answer ≡ answer_of r
    → lines.Finds (p (inside ++ ys)) r now later → Finds (p (held ++ ys)) answer now later
line_found {A} p inside held now ys later r answer same is found =
    subst (λ (w : List ℕ). Finds (p (w ++ ys)) answer now later) same
    (subst (λ (o : Result A TextError). Finds (p (inside ++ ys)) o now later) (sym is) (answer_found (p (inside ++ ys)) r now later found))

buffer_answer_found : {A X B : Type 0} (seen : X → B → A) (read : Read A) (r : Result X (LineError StimFault)) (buffer : B) (held later : List ℕ) → lines.Finds read (with_buffer seen r buffer) held later → Finds read (with_buffer seen (answer_of r) buffer) held later
buffer_answer_found seen read (Ok x) buffer held later found = found
buffer_answer_found seen read (Err e) buffer held later found = for_text_of_line e (read ≡ None) found

-- the same of a line that was read into a buffer
pub buffer_found : {A X B : Type 0} (seen : X → B → A) (p : List ℕ → Read A) (inside held now ys later : List ℕ) (r : Result X (LineError StimFault)) (answer : Result X TextError) (buffer : B) → inside ≡ held → answer ≡ answer_of r
    → lines.Finds (p (inside ++ ys)) (with_buffer seen r buffer) now later → Finds (p (held ++ ys)) (with_buffer seen answer buffer) now later
buffer_found {A} {X} seen p inside held now ys later r answer buffer same is found =
    subst (λ (w : List ℕ). Finds (p (w ++ ys)) (with_buffer seen answer buffer) now later) same
    (subst (λ (o : Result X TextError). Finds (p (inside ++ ys)) (with_buffer seen o buffer) now later) (sym is) (buffer_answer_found seen (p (inside ++ ys)) r buffer now later found))

ok_of : {A : Type 0} (P : A → Type 0) (r : Result A (LineError StimFault)) → IfOk r P → IfOk (answer_of r) P
ok_of P (Ok x) p = p
ok_of P (Err e) p = p

-- less is left
pub moved : {A : Type 0} (r : Result A (LineError StimFault)) (answer : Result A TextError) (now inside held : List ℕ) (left most : ℕ) → inside ≡ held → answer ≡ answer_of r
    → IfOk r (λ _. length now + left < length inside + most) → IfOk answer (λ _. length now + left < length held + most)
moved {A} r answer now inside held left most same is less =
    subst (λ (w : List ℕ). IfOk answer (λ _. length now + left < length w + most)) same
    (subst (λ (o : Result A TextError). IfOk o (λ _. length now + left < length inside + most)) (sym is) (ok_of (λ _. length now + left < length inside + most) r less))

device_to : {A : Type 0} (r : Result A (LineError StimFault)) → answer_of r ≡ Err Device → r ≡ Err line.Device
device_to (Ok x) is = absurd cc
device_to (Err (line.Refused total fault)) is = absurd cc
device_to (Err line.Device) is = refl

fails_of : {A : Type 0} (r : Result A (LineError StimFault)) (before after : ℕ) → FailsOnce r line.Device before after → FailsOnce (answer_of r) Device before after
fails_of {A} r before after once = record {
  failed = (λ is. once.failed.0 (device_to r is), λ more. ap (λ (o : Result A (LineError StimFault)). answer_of o) (once.failed.1 more));
  kept = λ other. once.kept (λ is. other (ap (λ (o : Result A (LineError StimFault)). answer_of o) is));
}

-- the source failed where it did for the lines
pub fails_answer : {A : Type 0} (r : Result A (LineError StimFault)) (answer : Result A TextError) (before after : ℕ) → answer ≡ answer_of r → FailsOnce r line.Device before after → FailsOnce answer Device before after
fails_answer {A} r answer before after is once = subst (λ (o : Result A TextError). FailsOnce o Device before after) (sym is) (fails_of r before after once)

-- ---- refusals

pub for_text_map : (e : TextError) (P Q : Type 0) → (P → Q) → ForText e P → ForText e Q
for_text_map (Refused (text.OutOfMemory refused)) P Q f p = tt
for_text_map (Refused (text.Status place)) P Q f p = f p
for_text_map (Refused (text.PropertyLine place)) P Q f p = f p
for_text_map (Refused (text.Character place)) P Q f p = f p
for_text_map (Refused (text.Truncated place)) P Q f p = f p
for_text_map (Refused (text.AfterEnd place)) P Q f p = f p
for_text_map Device P Q f p = tt

-- ---- one part after another

pub err_finds : {A X : Type 0} (P : A → X → Type 0) (read : Read A) (r : Result X TextError) (e : TextError) (held later : List ℕ) → IsErrAnd r (λ x. x ≡ e) → ForText e (read ≡ None) → FindsWith P read r held later
err_finds P read (Ok x) e held later is f = absurd is
err_finds P read (Err x) e held later is f = subst (λ y. ForText y (read ≡ None)) (sym is) f

pub err_read : {A : Type 0} (read : Read A) (r : Result A TextError) (e : TextError) (held later : List ℕ) → IsErrAnd r (λ x. x ≡ e) → ForText e (read ≡ None) → Finds read r held later
err_read read (Ok x) e held later is f = absurd is
err_read read (Err x) e held later is f = subst (λ y. ForText y (read ≡ None)) (sym is) f

pub match_err : {X : Type 0} (P : X → Type 0) (Q : TextError → Type 0) (r : Result X TextError) (e : TextError) → IsErrAnd r (λ x. x ≡ e) → Q e → MatchResult r P Q
match_err P Q (Ok x) e is q = absurd is
match_err P Q (Err x) e is q = subst Q (sym is) q

-- for want of memory
pub memory_read : {A : Type 0} (read : Read A) (r : Result A TextError) (held later : List ℕ) → IsErrAnd r (λ x. x ≡ Refused (text.OutOfMemory witness)) → Finds read r held later
memory_read read r held later is = err_read read r (Refused (text.OutOfMemory witness)) held later is tt

pub memory_finds : {A X : Type 0} (P : A → X → Type 0) (read : Read A) (r : Result X TextError) (held later : List ℕ) → IsErrAnd r (λ x. x ≡ Refused (text.OutOfMemory witness)) → FindsWith P read r held later
memory_finds P read r held later is = err_finds P read r (Refused (text.OutOfMemory witness)) held later is tt

-- the first part is refused
pub then_none : {A B : Type 0} (read : Read A) (q : A → List ℕ → Read B) (e : TextError) → ForText e (read ≡ None) → ForText e ((read >>= λ r. q r.0 r.1) ≡ None)
then_none read q e f = for_text_map e (read ≡ None) ((read >>= λ r. q r.0 r.1) ≡ None) (λ none. ap (λ o. o >>= λ r. q r.0 r.1) none) f

-- the first part was read, and the second part decides
pub then_finds : {A B X : Type 0} (P : B → X → Type 0) (read : Read A) (q : A → List ℕ → Read B) (x : A) (held later zs ws : List ℕ) (r : Result X TextError)
    → Finds read (Ok x) held zs → FindsWith P (q x (held ++ zs)) r later ws → FindsWith P (read >>= λ r. q r.0 r.1) r later ws
then_finds P read q x held later zs ws (Ok y) is (b, second, p) = (b, ap (λ o. o >>= λ r. q r.0 r.1) is ∙ second, p)
then_finds P read q x held later zs ws (Err e) is next =
    for_text_map e (q x (held ++ zs) ≡ None) ((read >>= λ r. q r.0 r.1) ≡ None) (λ none. ap (λ o. o >>= λ r. q r.0 r.1) is ∙ none) next

-- what is found is more
pub finds_more : {A X : Type 0} (P Q : A → X → Type 0) (read : Read A) (r : Result X TextError) (held later : List ℕ) → ((a : A) (x : X) → P a x → Q a x) → FindsWith P read r held later → FindsWith Q read r held later
finds_more P Q read (Ok x) held later h (a, is, p) = (a, is, h a x p)
finds_more P Q read (Err e) held later h none = none

-- what is found is reported of another value
pub finds_if : {A X Y : Type 0} (P : A → X → Type 0) (Q : A → Y → Type 0) (f : X → Y) (read : Read A) (x : X) (held later : List ℕ) → ((a : A) → P a x → Q a (f x)) → FindsWith P read (Ok x) held later → FindsWith Q read (Ok (f x)) held later
finds_if P Q f read x held later h (a, is, p) = (a, is, h a p)

-- what is found is made into another value
abbrev pub mapped : {A B : Type 0} → (A → B) → Read A → Read B
mapped f read = read >>= λ a. Some (f a.0, a.1)

pub finds_made : {A B X : Type 0} (P : A → X → Type 0) (Q : B → X → Type 0) (f : A → B) (read : Read A) (r : Result X TextError) (held later : List ℕ) → ((a : A) (x : X) → P a x → Q (f a) x) → FindsWith P read r held later → FindsWith Q (mapped f read) r held later
finds_made P Q f read (Ok x) held later h (a, is, p) = (f a, ap (mapped f) is, h a x p)
finds_made P Q f read (Err e) held later h none = for_text_map e (read ≡ None) (mapped f read ≡ None) (λ n. ap (mapped f) n) none

-- ---- values up to an end

same_read : {A : Type 0} (read : Read (List A)) → with_front [] read ≡ read
same_read None = refl
same_read (Some (xs, rest)) = refl

-- nothing was read of a list yet
pub items_begin : {A : Type 0} (one : List ℕ → Read (Option A)) (held ys : List ℕ) → StillReads (items_at one (held ++ ys)) [] (items_at one) held ys
items_begin one held ys = same_read (items_at one (held ++ ys))

-- the others were read at once
pub others_found : {A X : Type 0} (P Q : List A → X → Type 0) (read : Read (List A)) (front : List A) (f : List ℕ → Read (List A)) (held later zs ws : List ℕ) (r : Result X TextError)
    → StillReads read front f held zs → FindsWith P (f (held ++ zs)) r later ws → ((more : List A) (x : X) → P more x → Q (front ++ more) x) → FindsWith Q read r later ws
others_found P Q read front f held later zs ws (Ok x) so_far (more, is, p) h = (front ++ more, sym so_far ∙ ap (with_front front) is, h more x p)
others_found P Q read front f held later zs ws (Err e) so_far next h =
    for_text_map e (f (held ++ zs) ≡ None) (read ≡ None) (λ none. sym so_far ∙ ap (with_front front) none) next

-- ---- input lines

pub line_goes : (read : Read (List (List Bool))) (front : List (List Bool)) (line : List Bool) (there : Bool) (held later zs ws : List ℕ) → there ≡ true
    → StillReads read front (items_at line_at) held zs → Finds (line_at (held ++ zs)) (Ok (line_where there line)) later ws → StillReads read (front ++ line ∷ []) (items_at line_at) later ws
line_goes read front line there held later zs ws is still next =
    items_next line_at input_of_piece read front line (held ++ zs) (later ++ ws) still (subst (λ b. Finds (line_at (held ++ zs)) (Ok (line_where b line)) later ws) is next)

pub line_ends : (read : Read (List (List Bool))) (front : List (List Bool)) (line : List Bool) (there : Bool) (held later zs ws : List ℕ) → there ≡ false
    → StillReads read front (items_at line_at) held zs → Finds (line_at (held ++ zs)) (Ok (line_where there line)) later ws → Finds read (Ok front) later ws
line_ends read front line there held later zs ws is still next =
    items_last line_at input_of_piece read front (held ++ zs) (later ++ ws) still (subst (λ b. Finds (line_at (held ++ zs)) (Ok (line_where b line)) later ws) is next)

pub line_refused : (read : Read (List (List Bool))) (front : List (List Bool)) (e : TextError) (held zs : List ℕ) → StillReads read front (items_at line_at) held zs → ForText e (line_at (held ++ zs) ≡ None) → ForText e (read ≡ None)
line_refused read front e held zs still next = for_text_map e (line_at (held ++ zs) ≡ None) (read ≡ None) (items_none line_at input_of_piece read front (held ++ zs) still) next
