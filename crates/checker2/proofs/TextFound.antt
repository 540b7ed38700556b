-- What is found of a certificate's text of version 1 or 2, and of its property.
use Rattle.base.specs.Witness.{witness}
use Rattle.std.proofs.Common.{◌≡◌, ◌≢◌, ℕ, ◌<◌, List, ◌++◌, length, Option, None, Some, Result, Ok, Err, refl, sym, ◌∙◌, ap, subst, inl}
use Rattle.std.proofs.lemmas.Option.{none-some, same_Some}
use Rattle.scan.specs.Reading.{◌>>=◌, Read}
use Rattle.scan.specs.Words.{any, field_at}
use Rattle.scan.specs.Lists.{many_at}
use Rattle.graph.specs.declared.circuit.Lit.{Lit}
use Rattle.graph.specs.declared.circuit.Property.{Property as AProperty}
use Rattle.graph.specs.declared.circuit.Property.TheVariants.{Justice}
use Rattle.graph.specs.declared.parts.Parts.{Parts}
use Rattle.graph.specs.Circuits.{position_of, HasProperty}
use Rattle.lrat.specs.declared.line.Line.{Line as ALine}
use Rattle.live_safe.specs.Shadow.{shadow_of}
use Rattle.certificate.specs.declared.certificate.Certificate.{Certificate}
use Rattle.certificate.specs.declared.head.Version.{Version}
use Rattle.certificate.specs.declared.reader_error.ReaderError.{ReaderError}
use Rattle.certificate.specs.Reading.{clause_at, greatest, lemmas_at, property_at, sections_at}
use Rattle.certificate.specs.Streams.{Finds, FindsWith, parts_at}
use Rattle.certificate.proofs.StreamLaws.{then_finds}
use Rattle.checker2.specs.declared.certificate_text.Outcome.{Outcome}
use Rattle.checker2.specs.declared.check_error.CheckError.{CheckError}
use Rattle.checker2.specs.declared.check_error.CheckError.TheVariants.{Limit, NoProperty, OutOfMemory}
use Rattle.checker2.specs.Accepted.{IsShowable, bad_of, circuit_of}
use Rattle.checker2.specs.Causes.{HasCause}
use Rattle.checker2.specs.Numbers.{number_of}
use Rattle.checker2.specs.Streamed.{IsFound, IsFoundFor, behind_version_at}
use Rattle.checker2.proofs.Found.{found_of}
use Rattle.checker2.proofs.TextParts.{made, parts_is, then_sections}

-- what is found is more of what is read
finds_of : {A X : Type 0} (P Q : A → X → Type 0) (read : Read A) (r : Result X ReaderError) (held later : List ℕ) → ((a : A) (x : X) → read ≡ Some (a, held ++ later) → P a x → Q a x) → FindsWith P read r held later → FindsWith Q read r held later
finds_of P Q read (Ok x) held later h (a, is, p) = (a, is, h a x is p)
finds_of P Q read (Err e) held later h none = none

-- ---- the property of a certificate

abbrev then_made : AProperty → List (List Lit) → Option (List ALine) → Read (List (List ALine)) → Read Certificate
then_made p inv l o = o >>= λ s. Some (made p inv l s.0, s.1)

made_property : (p : AProperty) (inv : List (List Lit)) (l : Option (List ALine)) (o : Read (List (List ALine))) (c : Certificate) (rest : List ℕ) → then_made p inv l o ≡ Some (c, rest) → c.property ≡ p
made_property p inv l None c rest e = absurd (none-some (c, rest) e)
made_property p inv l (Some (ss, after)) c rest e = sym (ap (λ (w : Certificate × List ℕ). w.0.property) (same_Some (made p inv l ss, after) (c, rest) e))

sections_property : (p : AProperty) (n : ℕ) (inv : List (List Lit)) (o : Read (Option (List ALine))) (c : Certificate) (rest : List ℕ) → (o >>= λ l. then_sections p n inv l.0 l.1) ≡ Some (c, rest) → c.property ≡ p
sections_property p n inv None c rest e = absurd (none-some (c, rest) e)
sections_property p n inv (Some (l, after)) c rest e = made_property p inv l (sections_at n after) c rest e

parts_property : (v : Version) (p : AProperty) (n : ℕ) (inv : List (List Lit)) (bytes : List ℕ) (c : Certificate) (rest : List ℕ) → parts_at v p n inv bytes ≡ Some (c, rest) → c.property ≡ p
parts_property v p n inv bytes c rest e = sections_property p n inv (lemmas_at v bytes) c rest (parts_is v p n inv bytes ∙ e)

-- what is found for the circuit and the literal of the property
pub found_here : (m s : Parts) (a : Lit) (v : Version) (p : AProperty) (n : ℕ) (inv : List (List Lit)) (bytes held later : List ℕ) (r : Result (Option ℕ) ReaderError) → IsShowable m p → s ≡ circuit_of m p → a ≡ bad_of m p
    → FindsWith (IsFoundFor s a) (parts_at v p n inv bytes) r held later → FindsWith (IsFound m) (parts_at v p n inv bytes) r held later
found_here m s a v p n inv bytes held later r showable circuit literal =
    finds_of (IsFoundFor s a) (IsFound m) (parts_at v p n inv bytes) r held later (λ c x is found.
    let same : c.property ≡ p = parts_property v p n inv bytes c (held ++ later) is in
    found_of m s a c x (subst (IsShowable m) (sym same) showable) (circuit ∙ ap (circuit_of m) (sym same)) (literal ∙ ap (bad_of m) (sym same)) found)

-- a cause that was found before the clauses
pub refused_here : (m : Parts) (e : CheckError) (v : Version) (p : AProperty) (n : ℕ) (inv : List (List Lit)) (bytes held later : List ℕ) (r : Result (Option ℕ) ReaderError) → ((c : Certificate) → c.property ≡ p → HasCause m c e)
    → FindsWith (λ c found. (found ≡ Some (number_of e)) × (e ≢ OutOfMemory witness)) (parts_at v p n inv bytes) r held later → FindsWith (IsFound m) (parts_at v p n inv bytes) r held later
refused_here m e v p n inv bytes held later r cause =
    finds_of (λ c found. (found ≡ Some (number_of e)) × (e ≢ OutOfMemory witness)) (IsFound m) (parts_at v p n inv bytes) r held later (λ c x is found.
    subst (λ o. IsFound m c o) (sym found.0) (e, found.1, cause c (parts_property v p n inv bytes c (held ++ later) is), refl))

-- the circuit has not the property
pub no_such : (m : Parts) (p : AProperty) (e : CheckError) → e ≡ NoProperty (position_of p) → (HasProperty m p → ⊥) → (c : Certificate) → c.property ≡ p → HasCause m c e
no_such m p e is none c same = subst (HasCause m c) (sym is) (ap position_of (sym same), λ there. none (subst (HasProperty m) same there))

-- its shadow circuit has too many variables
pub too_many : (m : Parts) (n : ℕ) → n < length m.justice → 4194303 < (shadow_of m n).max_var → (c : Certificate) → c.property ≡ Justice n → HasCause m c Limit
too_many m n there many c same = inl (subst (HasProperty m) (sym same) there, subst (λ p. 4194303 < (circuit_of m p).max_var) (sym same) many)

-- ---- the lines before the lemmas

abbrev pub then_clauses : Version → AProperty → ℕ → List ℕ → Read Certificate
then_clauses v p n bytes = many_at clause_at n bytes >>= λ invariant. parts_at v p n invariant.0 invariant.1

abbrev pub then_count : Version → AProperty → List ℕ → Read Certificate
then_count v p bytes = field_at greatest any 10 bytes >>= λ n. then_clauses v p n.0 n.1

-- all lines before the lemmas were read, and what is behind them decides
pub behind_lines : {X : Type 0} (P : Certificate → X → Type 0) (v : Version) (p : AProperty) (n : ℕ) (inv : List (List Lit)) (bytes first second third last ys zs us ws : List ℕ) (r : Result X ReaderError) → length inv ≡ n
    → Finds (property_at bytes) (Ok p) first ys → Finds (field_at greatest any 10 (first ++ ys)) (Ok n) second zs → Finds (many_at clause_at n (second ++ zs)) (Ok inv) third us
    → FindsWith P (parts_at v p (length inv) inv (third ++ us)) r last ws → FindsWith P (behind_version_at v bytes) r last ws
behind_lines P v p n inv bytes first second third last ys zs us ws r many property count clauses parts =
    then_finds P (property_at bytes) (then_count v) p first last ys ws r property
    (then_finds P (field_at greatest any 10 (first ++ ys)) (then_clauses v p) n second last zs ws r count
    (then_finds P (many_at clause_at n (second ++ zs)) (parts_at v p n) inv third last us ws r clauses
    (subst (λ k. FindsWith P (parts_at v p k inv (third ++ us)) r last ws) many parts)))

-- the property is reported with what is found
pub outcome_told : (m : Parts) (v : Version) (p : AProperty) (n : ℕ) (inv : List (List Lit)) (bytes held later : List ℕ) (found : Option ℕ) → FindsWith (IsFound m) (parts_at v p n inv bytes) (Ok found) held later
    → FindsWith (λ (c : Certificate) (told : Outcome). (told.property ≡ c.property) × IsFound m c told.refusal) (parts_at v p n inv bytes) (Ok (record { property = p; refusal = found })) held later
outcome_told m v p n inv bytes held later found (c, is, judged) = (c, is, (sym (parts_property v p n inv bytes c (held ++ later) is), judged))
