-- The parts of a certificate's text, one after the other.
use Rattle.std.proofs.Common.{◌≡◌, ℕ, ◌+◌, ◌*◌, List, [], ◌∷◌, ◌++◌, length, Option, None, Some, Result, Ok, Err, refl, sym, ◌∙◌, ap, subst}
use Rattle.std.proofs.lemmas.Option.{none-some, same_Some}
use Rattle.scan.specs.Reading.{◌>>=◌, Read}
use Rattle.scan.specs.Lists.{many_at}
use Rattle.scan.proofs.ListLaws.{many_reads}
use Rattle.graph.specs.declared.circuit.Lit.{Lit}
use Rattle.graph.specs.declared.circuit.Property.{Property as AProperty}
use Rattle.lrat.specs.declared.line.Line.{Line as ALine}
use Rattle.certificate.specs.declared.certificate.Certificate.{Certificate}
use Rattle.certificate.specs.declared.head.Version.{Version}
use Rattle.certificate.specs.declared.head.Version.TheVariants.{One, Two}
use Rattle.certificate.specs.declared.reader_error.ReaderError.{ReaderError}
use Rattle.certificate.specs.Reading.{clause_at, section_at, lemmas_at, sections_at}
use Rattle.certificate.specs.Streams.{FindsWith, ForText, StillReads, parts_at}
use Rattle.certificate.proofs.HeadLaws.{clause_reads}
use Rattle.certificate.proofs.SectionLaws.{sections_reads}
use Rattle.certificate.proofs.StreamLaws.{for_text_map, then_finds_with, then_none}

-- what is found is made into another value
abbrev mapped : {A B : Type 0} → (A → B) → Read A → Read B
mapped f read = read >>= λ a. Some (f a.0, a.1)

pub finds_made : {A B X : Type 0} (P : A → X → Type 0) (Q : B → X → Type 0) (f : A → B) (read : Read A) (r : Result X ReaderError) (held later : List ℕ) → ((a : A) (x : X) → P a x → Q (f a) x) → FindsWith P read r held later → FindsWith Q (mapped f read) r held later
finds_made P Q f read (Ok x) held later h (a, is, p) = (f a, ap (mapped f) is, h a x p)
finds_made P Q f read (Err e) held later h none = for_text_map e (read ≡ None) (mapped f read ≡ None) (λ n. ap (mapped f) n) none

-- what is found is more
pub finds_more : {A X : Type 0} (P Q : A → X → Type 0) (read : Read A) (r : Result X ReaderError) (held later : List ℕ) → ((a : A) (x : X) → P a x → Q a x) → FindsWith P read r held later → FindsWith Q read r held later
finds_more P Q read (Ok x) held later h (a, is, p) = (a, is, h a x p)
finds_more P Q read (Err e) held later h none = none

-- the others are refused
pub others_refused : {A : Type 0} (read : Read (List A)) (front : List A) (f : List ℕ → Read (List A)) (e : ReaderError) (held zs : List ℕ) → StillReads read front f held zs → ForText e (f (held ++ zs) ≡ None) → ForText e (read ≡ None)
others_refused read front f e held zs so_far next = for_text_map e (f (held ++ zs) ≡ None) (read ≡ None) (λ none. sym so_far ∙ ap (λ o. o >>= λ x. Some (front ++ x.0, x.1)) none) next

-- ---- the sections

abbrev pub then_bad : List (List ALine) → List (List ALine) → List ℕ → Read (List (List ALine))
then_bad initial steps bytes = section_at 98 bytes >>= λ bad. Some (initial ++ steps ++ bad.0 ∷ [], bad.1)

abbrev pub then_steps : ℕ → List (List ALine) → List ℕ → Read (List (List ALine))
then_steps n initial bytes = many_at (section_at 115) n bytes >>= λ steps. then_bad initial steps.0 steps.1

pub sections_is : (n : ℕ) (bytes : List ℕ) → (many_at (section_at 105) n bytes >>= λ initial. then_steps n initial.0 initial.1) ≡ sections_at n bytes
unfolding sections_at
sections_is n bytes = refl

-- ---- the lemmas and the sections

abbrev pub made : AProperty → List (List Lit) → Option (List ALine) → List (List ALine) → Certificate
made property invariant lemmas sections = record { property = property; invariant = invariant; lemmas = lemmas; sections = sections }

abbrev pub then_sections : AProperty → ℕ → List (List Lit) → Option (List ALine) → List ℕ → Read Certificate
then_sections property n invariant lemmas bytes = sections_at n bytes >>= λ sections. Some (made property invariant lemmas sections.0, sections.1)

pub parts_is : (v : Version) (p : AProperty) (n : ℕ) (inv : List (List Lit)) (bytes : List ℕ) → (lemmas_at v bytes >>= λ lemmas. then_sections p n inv lemmas.0 lemmas.1) ≡ parts_at v p n inv bytes
unfolding parts_at
parts_is v p n inv bytes = refl

-- version 1 has no lemmas
pub no_lemmas : {X : Type 0} (P : Option (List ALine) → X → Type 0) (x : X) (held later : List ℕ) → P None x → FindsWith P (lemmas_at One (held ++ later)) (Ok x) held later
unfolding lemmas_at
no_lemmas P x held later p = (None, refl, p)

pub some_lemmas : {X : Type 0} (P : List ALine → X → Type 0) (Q : Option (List ALine) → X → Type 0) (bytes held later : List ℕ) (r : Result X ReaderError) → ((lines : List ALine) (x : X) → P lines x → Q (Some lines) x) → FindsWith P (section_at 108 bytes) r held later → FindsWith Q (lemmas_at Two bytes) r held later
unfolding lemmas_at
some_lemmas P Q bytes held later r h found = finds_made P Q (λ lines. Some lines) (section_at 108 bytes) r held later h found

-- ---- how many there are

pub many_clauses : (n : ℕ) (bytes : List ℕ) (inv : List (List Lit)) (rest : List ℕ) → many_at clause_at n bytes ≡ Some (inv, rest) → length inv ≡ n
many_clauses n bytes inv rest e = ((many_reads clause_reads n).sound bytes inv rest e).1.0

pub many_sections : (n : ℕ) (bytes : List ℕ) (sections : List (List ALine)) (rest : List ℕ) → sections_at n bytes ≡ Some (sections, rest) → length sections ≡ 2 * n + 1
many_sections n bytes sections rest e = ((sections_reads n).sound bytes sections rest e).1.count

-- ---- the three kinds of cases

pub initial_refused : (n : ℕ) (bytes : List ℕ) (e : ReaderError) → ForText e (many_at (section_at 105) n bytes ≡ None) → ForText e (sections_at n bytes ≡ None)
initial_refused n bytes e f = subst (λ o. ForText e (o ≡ None)) (sections_is n bytes) (then_none (many_at (section_at 105) n bytes) (then_steps n) e f)

pub steps_refused : (n : ℕ) (initial : List (List ALine)) (bytes : List ℕ) (e : ReaderError) → ForText e (many_at (section_at 115) n bytes ≡ None) → ForText e (then_steps n initial bytes ≡ None)
steps_refused n initial bytes e f = then_none (many_at (section_at 115) n bytes) (then_bad initial) e f

pub bad_refused : (initial steps : List (List ALine)) (bytes : List ℕ) (e : ReaderError) → ForText e (section_at 98 bytes ≡ None) → ForText e (then_bad initial steps bytes ≡ None)
bad_refused initial steps bytes e f = for_text_map e (section_at 98 bytes ≡ None) (then_bad initial steps bytes ≡ None) (λ none. ap (mapped (λ bad. initial ++ steps ++ bad ∷ [])) none) f

pub behind_initial : {X Y : Type 0} (O : List (List ALine) → Y → Type 0) (P : List (List ALine) → X → Type 0) (n : ℕ) (bytes held later zs ws : List ℕ) (y : Y) (r : Result X ReaderError) → FindsWith O (many_at (section_at 105) n bytes) (Ok y) held zs
    → ((i : List (List ALine)) → O i y → FindsWith P (then_steps n i (held ++ zs)) r later ws) → FindsWith P (sections_at n bytes) r later ws
behind_initial O P n bytes held later zs ws y r first next =
    subst (λ o. FindsWith P o r later ws) (sections_is n bytes) (then_finds_with O P (many_at (section_at 105) n bytes) (then_steps n) y held later zs ws r first next)

pub behind_steps : {X Y : Type 0} (O : List (List ALine) → Y → Type 0) (P : List (List ALine) → X → Type 0) (n : ℕ) (initial : List (List ALine)) (bytes held later zs ws : List ℕ) (y : Y) (r : Result X ReaderError) → FindsWith O (many_at (section_at 115) n bytes) (Ok y) held zs
    → ((s : List (List ALine)) → O s y → FindsWith P (then_bad initial s (held ++ zs)) r later ws) → FindsWith P (then_steps n initial bytes) r later ws
behind_steps O P n initial bytes held later zs ws y r first next = then_finds_with O P (many_at (section_at 115) n bytes) (then_bad initial) y held later zs ws r first next

pub bad_found : {X : Type 0} (O : List ALine → X → Type 0) (P : List (List ALine) → X → Type 0) (initial steps : List (List ALine)) (bytes held later : List ℕ) (r : Result X ReaderError) → ((bad : List ALine) (x : X) → O bad x → P (initial ++ steps ++ bad ∷ []) x) → FindsWith O (section_at 98 bytes) r held later → FindsWith P (then_bad initial steps bytes) r held later
bad_found O P initial steps bytes held later r h found = finds_made O P (λ bad. initial ++ steps ++ bad ∷ []) (section_at 98 bytes) r held later h found

-- ---- the lemmas and all sections

pub behind_lemmas : {X Y : Type 0} (O : Option (List ALine) → Y → Type 0) (P : Certificate → X → Type 0) (v : Version) (p : AProperty) (n : ℕ) (inv : List (List Lit)) (bytes held later zs ws : List ℕ) (y : Y) (r : Result X ReaderError) → FindsWith O (lemmas_at v bytes) (Ok y) held zs
    → ((l : Option (List ALine)) → O l y → FindsWith P (then_sections p n inv l (held ++ zs)) r later ws) → FindsWith P (parts_at v p n inv bytes) r later ws
behind_lemmas O P v p n inv bytes held later zs ws y r first next =
    subst (λ o. FindsWith P o r later ws) (parts_is v p n inv bytes) (then_finds_with O P (lemmas_at v bytes) (then_sections p n inv) y held later zs ws r first next)

pub lemmas_stop : (v : Version) (p : AProperty) (n : ℕ) (inv : List (List Lit)) (bytes : List ℕ) (e : ReaderError) → ForText e (lemmas_at v bytes ≡ None) → ForText e (parts_at v p n inv bytes ≡ None)
lemmas_stop v p n inv bytes e f = subst (λ o. ForText e (o ≡ None)) (parts_is v p n inv bytes) (then_none (lemmas_at v bytes) (then_sections p n inv) e f)

pub sections_made : {X : Type 0} (O : List (List ALine) → X → Type 0) (P : Certificate → X → Type 0) (p : AProperty) (n : ℕ) (inv : List (List Lit)) (l : Option (List ALine)) (bytes held later : List ℕ) (r : Result X ReaderError) → ((ss : List (List ALine)) (x : X) → O ss x → P (made p inv l ss) x) → FindsWith O (sections_at n bytes) r held later → FindsWith P (then_sections p n inv l bytes) r held later
sections_made O P p n inv l bytes held later r h found = finds_made O P (made p inv l) (sections_at n bytes) r held later h found

pub sections_stop : (p : AProperty) (n : ℕ) (inv : List (List Lit)) (l : Option (List ALine)) (bytes : List ℕ) (e : ReaderError) → ForText e (sections_at n bytes ≡ None) → ForText e (then_sections p n inv l bytes ≡ None)
sections_stop p n inv l bytes e f = for_text_map e (sections_at n bytes ≡ None) (then_sections p n inv l bytes ≡ None) (λ none. ap (mapped (made p inv l)) none) f

made_read : (p : AProperty) (n : ℕ) (inv : List (List Lit)) (l : Option (List ALine)) (o : Read (List (List ALine))) (c : Certificate) (rest : List ℕ) → ((ss : List (List ALine)) (after : List ℕ) → o ≡ Some (ss, after) → length ss ≡ 2 * n + 1) → mapped (made p inv l) o ≡ Some (c, rest)
    → (c.invariant ≡ inv) × (length c.sections ≡ 2 * n + 1)
made_read p n inv l None c rest many e = absurd (none-some (c, rest) e)
made_read p n inv l (Some (ss, after)) c rest many e =
    let same : c ≡ made p inv l ss = sym (ap (λ (w : Certificate × List ℕ). w.0) (same_Some (made p inv l ss, after) (c, rest) e)) in
    (ap (λ (k : Certificate). k.invariant) same, ap (λ (k : Certificate). length k.sections) same ∙ many ss after refl)

then_read : (p : AProperty) (n : ℕ) (inv : List (List Lit)) (o : Read (Option (List ALine))) (c : Certificate) (rest : List ℕ) → (o >>= λ l. then_sections p n inv l.0 l.1) ≡ Some (c, rest) → (c.invariant ≡ inv) × (length c.sections ≡ 2 * n + 1)
then_read p n inv None c rest e = absurd (none-some (c, rest) e)
then_read p n inv (Some (l, bytes)) c rest e = made_read p n inv l (sections_at n bytes) c rest (many_sections n bytes) e

-- the certificate that is read has these clauses, and as many sections as they want
pub parts_read : (v : Version) (p : AProperty) (n : ℕ) (inv : List (List Lit)) (bytes : List ℕ) (c : Certificate) (rest : List ℕ) → parts_at v p n inv bytes ≡ Some (c, rest) → (c.invariant ≡ inv) × (length c.sections ≡ 2 * n + 1)
parts_read v p n inv bytes c rest e = then_read p n inv (lemmas_at v bytes) c rest (parts_is v p n inv bytes ∙ e)
