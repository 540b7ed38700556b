-- Lines are read as they are spelled.
use Rattle.std.proofs.Common.{◌≡◌, ℕ, zero, suc, ◌<◌, ℤ, pos, negsuc, unsigned_abs, false, cond, eqb, List, [], ◌∷◌, ◌++◌, length, Option, Some, None, All, refl, sym, ap, ◌∙◌, append_assoc, arith, inl, inr}
use Rattle.std.specs.Prelude.{◌⊎◌, decimal, nat_lt}
use Rattle.std.specs.Fmt.{signed_decimal}
use Rattle.std.specs.Char.{is_ascii_digit}
use Rattle.std.proofs.lemmas.Bool.{ne_eqb, lt-ltb, ltb-true}
use Rattle.std.proofs.lemmas.Fmt.{decimal_digit}
use Rattle.std.proofs.lemmas.List.{append-nil, length-append}
use Rattle.std.proofs.lemmas.List.Elements.{All-nil, All-cons, All-head, All-tail}
use Rattle.scan.specs.Reading.{Read}
use Rattle.scan.specs.Lists.{items_at, Each}
use Rattle.scan.specs.Signed.{IsItem, IsSigned}
use Rattle.scan.specs.Spelling.{Nothing, Then, After, NumberThen}
use Rattle.scan.specs.Words.{IsField}
use Rattle.scan.proofs.ListLaws.{TakesSome, items_reads}
use Rattle.scan.proofs.NumberLaws.{decimal_first}
use Rattle.scan.proofs.SignedLaws.{signed_reads, signed_takes}
use Rattle.scan.proofs.Toolbox.{Reads, NeverBegins, reads_as, reads_nothing, reads_then, reads_after, reads_if, reads_choice, skips_byte}
use Rattle.scan.proofs.WordLaws.{reads_number, field_reads}
use Rattle.lrat.specs.Limits.{IsHint, IsId}
use Rattle.lrat.specs.Literals.{IsLiteral}
use Rattle.lrat.specs.Reading.{literal_at, hint_at, id_at, added_at, deleted_at, line_at}
use Rattle.lrat.specs.Texts.{spaced, SpellsLine}
use Rattle.lrat.specs.declared.line.Line.{Line}
use Rattle.lrat.specs.declared.line.Line.TheVariants.{Add, Delete}

-- ---- lists up to a 0

-- good values one after another, a space behind each, and a 0 and the last byte
abbrev Listed : {A : Type 0} → (A → Type 0) → (A → List ℕ) → ℕ → List ℕ → List A → Type 0
Listed P text end t xs = All P xs × (t ≡ spaced text xs ++ 48 ∷ end ∷ [])

-- a good value and a space
abbrev One : {A : Type 0} → (A → Type 0) → (A → List ℕ) → List ℕ → A → Type 0
One P text t x = P x × (t ≡ text x ++ 32 ∷ [])

each_to : {A : Type 0} (P : A → Type 0) (text : A → List ℕ) (R : List ℕ → A → Type 0) → ((t : List ℕ) (x : A) → R t x → One P text t x) → (t : List ℕ) (xs : List A) → Each R t xs
    → All P xs × (t ≡ spaced text xs)
each_to P text R to t [] e = (All-nil P, e)
each_to P text R to t (x ∷ xs) (a, b, one, others, whole) =
    let r = each_to P text R to b xs others in
    let o = to a x one in
    (All-cons P x xs o.0 r.0, rw (whole, o.1, r.1) refl)

each_from : {A : Type 0} (P : A → Type 0) (text : A → List ℕ) (R : List ℕ → A → Type 0) → ((t : List ℕ) (x : A) → One P text t x → R t x) → (xs : List A) → All P xs → Each R (spaced text xs) xs
each_from P text R from [] all = refl
each_from P text R from (x ∷ xs) all =
    (text x ++ 32 ∷ [], spaced text xs, from (text x ++ 32 ∷ []) x (All-head P x xs all, refl), each_from P text R from xs (All-tail P x xs all), refl)

-- a list is read where its values and its end are
listed_reads : {A : Type 0} (P : A → Type 0) (text : A → List ℕ) (end : ℕ) (p : List ℕ → Read (Option A)) (R : List ℕ → Option A → Type 0) → Reads p R → TakesSome R
    → ((t : List ℕ) (x : A) → R t (Some x) → One P text t x) → ((t : List ℕ) (x : A) → One P text t x → R t (Some x))
    → ((t : List ℕ) → R t None → t ≡ 48 ∷ end ∷ []) → R (48 ∷ end ∷ []) None → Reads (items_at p) (Listed P text end)
listed_reads P text end p R law some to from stops stop =
    reads_as (Listed P text end) (items_reads law some)
    (λ t xs (front, last, each, ends, whole).
    let r = each_to P text (λ t x. R t (Some x)) to front xs each in
    (r.0, rw (whole, r.1, stops last ends) refl))
    (λ t xs (all, whole). (spaced text xs, 48 ∷ end ∷ [], each_from P text (λ t x. R t (Some x)) from xs all, stop, whole))

-- ---- literals, hints and ids

literal_of : (z : ℤ) → IsSigned 2147483647 z → IsLiteral 2147483647 z
literal_of (pos n) s = (λ e. absurd (let z : n ≡ 0 = cc in omega (arith, z, s.0)), s.1)
literal_of (negsuc n) s = (λ e. absurd cc, s)

signed_of : (z : ℤ) → IsLiteral 2147483647 z → IsSigned 2147483647 z
signed_of (pos zero) l = absurd (l.0 refl)
signed_of (pos (suc n)) l = (omega arith, l.1)
signed_of (negsuc n) l = l.1

hint_of : (z : ℤ) → IsSigned 4294967295 z → IsHint z
hint_of (pos n) s = (λ e. absurd (let z : n ≡ 0 = cc in omega (arith, z, s.0)), omega (arith, s.1))
hint_of (negsuc n) s = (λ e. absurd cc, omega (arith, s))

signed_hint : (z : ℤ) → IsHint z → IsSigned 4294967295 z
signed_hint (pos zero) l = absurd (l.0 refl)
signed_hint (pos (suc n)) l = (omega arith, omega (arith, l.1))
signed_hint (negsuc n) l = omega (arith, l.1)

literals_read : Reads (items_at literal_at) (Listed (IsLiteral 2147483647) signed_decimal 32)
literals_read = listed_reads (IsLiteral 2147483647) signed_decimal 32 literal_at (IsItem 2147483647 32) (signed_reads 2147483647 32 (omega arith) refl) (signed_takes 2147483647 32)
    (λ t z s. (literal_of z s.0, s.1))
    (λ t z l. (signed_of z l.0, l.1))
    (λ t e. e) refl

hints_read : Reads (items_at hint_at) (Listed IsHint signed_decimal 10)
hints_read = listed_reads IsHint signed_decimal 10 hint_at (IsItem 4294967295 10) (signed_reads 4294967295 10 (omega arith) refl) (signed_takes 4294967295 10)
    (λ t z s. (hint_of z s.0, s.1))
    (λ t z l. (signed_hint z l.0, l.1))
    (λ t e. e) refl

-- a literal that is read is in its limits
pub literal_within : (bytes : List ℕ) (z : ℤ) (rest : List ℕ) → literal_at bytes ≡ Some (Some z, rest) → unsigned_abs z < 2147483648
literal_within bytes z rest e =
    let s = (signed_reads 2147483647 32 (omega arith) refl).sound bytes (Some z) rest e in
    omega (arith, (literal_of z s.1.0).1)

-- an id and a space, or the 0 and the line end
abbrev IsIdItem : List ℕ → Option ℕ → Type 0
IsIdItem t None = t ≡ 48 ∷ 10 ∷ []
IsIdItem t (Some n) = One IsId decimal t n

abbrev OfId : List ℕ → Option ℕ → Type 0
OfId = NumberThen 4294967295 (λ n t x. cond (eqb n 0) (After (10 ∷ []) (Nothing None) t x) (After (32 ∷ []) (Nothing (Some n)) t x))

id_ends : (n : ℕ) (t : List ℕ) (x : Option ℕ) → cond (eqb n 0) (After (10 ∷ []) (Nothing None) t x) (After (32 ∷ []) (Nothing (Some n)) t x) → (c : ℕ) × (cs : List ℕ) × (is_ascii_digit c ≡ false) × (t ≡ c ∷ cs)
id_ends zero t x (b, last, parts) = (10, b, refl, parts)
id_ends (suc n) t x s =
    let ne : eqb (suc n) 0 ≡ false = ne_eqb (suc n) 0 (λ q. omega (arith, q)) in
    let r = rw ne at s in
    (32, r.0, refl, r.2)

id_to : (t : List ℕ) (x : Option ℕ) → OfId t x → IsIdItem t x
id_to t x (zero, b, within, (c, last, space), parts) =
    rw last.1 (rw (parts, space, last.0, decimal_digit 0 (omega arith)) refl)
id_to t x (suc n, b, within, s, parts) =
    let ne : eqb (suc n) 0 ≡ false = ne_eqb (suc n) 0 (λ q. omega (arith, q)) in
    let r = rw ne at s in
    rw r.1.1 ((omega arith, omega (arith, within)), rw (parts, r.2, r.1.0) refl)

id_from : (t : List ℕ) (x : Option ℕ) → IsIdItem t x → OfId t x
id_from t None e = (0, 10 ∷ [], omega arith, ([], (refl, refl), refl), e ∙ ap (λ (w : List ℕ). w ++ (10 ∷ [])) (sym (decimal_digit 0 (omega arith))))
id_from t (Some zero) e = absurd (omega (arith, e.0.0))
id_from t (Some (suc n)) e =
    let ne : eqb (suc n) 0 ≡ false = ne_eqb (suc n) 0 (λ q. omega (arith, q)) in
    (suc n, 32 ∷ [], omega (arith, e.0.1), rw ne ([], (refl, refl), refl), e.1)

id_reads : Reads id_at IsIdItem
unfolding id_at
id_reads =
    reads_as IsIdItem
    (reads_number 4294967295 (omega arith) (λ n. reads_if (eqb n 0) (reads_after (skips_byte 10) (reads_nothing None)) (reads_after (skips_byte 32) (reads_nothing (Some n))))
    (λ n t x rest s. let f = id_ends n t x s in rw f.3 f.2))
    id_to id_from

id_takes : TakesSome IsIdItem
id_takes t n e = omega (arith, ap length e.1, length-append (decimal n) (32 ∷ []))

ids_read : Reads (items_at id_at) (Listed IsId decimal 10)
ids_read = listed_reads IsId decimal 10 id_at IsIdItem id_reads id_takes (λ t n s. s) (λ t n s. s) (λ t e. e) refl

-- ---- lines

abbrev OfAdded : ℕ → List ℕ → Line → Type 0
OfAdded id = Then (Listed (IsLiteral 2147483647) signed_decimal 32) (λ clause. Then (Listed IsHint signed_decimal 10) (λ hints. Nothing {A = Line} (Add id clause hints)))

abbrev OfDeleted : ℕ → List ℕ → Line → Type 0
OfDeleted id = After (32 ∷ []) (Then (Listed IsId decimal 10) (λ ids. Nothing {A = Line} (Delete id ids)))

abbrev OfRest : ℕ → List ℕ → Line → Type 0
OfRest id t l = After (100 ∷ []) (OfDeleted id) t l ⊎ OfAdded id t l

abbrev OfLine : List ℕ → Line → Type 0
OfLine = Then (IsField 4294967295 (nat_lt 0) 32) OfRest

added_reads : (id : ℕ) → Reads (added_at id) (OfAdded id)
unfolding added_at
added_reads id = reads_then literals_read (λ clause. reads_then hints_read (λ hints. reads_nothing {A = Line} (Add id clause hints)))

deleted_reads : (id : ℕ) → Reads (deleted_at id) (OfDeleted id)
unfolding deleted_at
deleted_reads id = reads_after (skips_byte 32) (reads_then ids_read (λ ids. reads_nothing {A = Line} (Delete id ids)))

-- no literal begins with a `d`
literal_first : (z : ℤ) → IsLiteral 2147483647 z → (c : ℕ) × (cs : List ℕ) × (eqb c 100 ≡ false) × (signed_decimal z ≡ c ∷ cs)
literal_first (pos n) l =
    let f = decimal_first 2147483647 n l.1 (omega arith) in
    (f.0, f.1, ne_eqb f.0 100 (λ q. omega (arith, f.2, q)), f.3)
literal_first (negsuc n) l = (45, decimal (suc n), refl, refl)

added_begins : (id : ℕ) → NeverBegins 100 (OfAdded id)
added_begins id t l rest ([], a, b, (all, one), two, whole) = rw (whole, one) refl
added_begins id t l rest (z ∷ zs, a, b, (all, one), two, whole) =
    let f = literal_first z (All-head (IsLiteral 2147483647) z zs all) in
    rw (whole, one, f.3) f.2

line_to : (t : List ℕ) (l : Line) → OfLine t l → SpellsLine t l
line_to t l (id, a, b, field, inl (c, (d, (ids, e, f, (all, listed), last, p4), p3), p2), p1) =
    rw last.1 (record {
      spells = rw (p1, field.spells, p2, p3, p4, listed, last.0) (simp (append_assoc, append-nil));
      within = ((ltb-true 0 id field.is_good, omega (arith, field.within)), all);
    })
line_to t l (id, a, b, field, inr (clause, c, d, (literals, one), (hints, e, f, (signs, two), last, p3), p2), p1) =
    rw last.1 (record {
      spells = rw (p1, field.spells, p2, one, p3, two, last.0) (simp (append_assoc, append-nil));
      within = ((ltb-true 0 id field.is_good, omega (arith, field.within)), literals, signs);
    })

line_from : (t : List ℕ) (l : Line) → SpellsLine t l → OfLine t l
line_from t (Add id clause hints) s = (
  id,
  decimal id ++ 32 ∷ [],
  spaced signed_decimal clause ++ 48 ∷ 32 ∷ (spaced signed_decimal hints ++ 48 ∷ 10 ∷ []),
  record { spells = refl; within = omega (arith, s.within.0.1); is_good = lt-ltb 0 id s.within.0.0 },
  inr (
    clause,
    spaced signed_decimal clause ++ 48 ∷ 32 ∷ [],
    spaced signed_decimal hints ++ 48 ∷ 10 ∷ [],
    (s.within.1, refl),
    (hints, spaced signed_decimal hints ++ 48 ∷ 10 ∷ [], [], (s.within.2, refl), (refl, refl), sym (append-nil (spaced signed_decimal hints ++ 48 ∷ 10 ∷ []))),
    simp append_assoc,
  ),
  s.spells ∙ simp append_assoc,
)
line_from t (Delete id ids) s = (
  id,
  decimal id ++ 32 ∷ [],
  100 ∷ 32 ∷ (spaced decimal ids ++ 48 ∷ 10 ∷ []),
  record { spells = refl; within = omega (arith, s.within.0.1); is_good = lt-ltb 0 id s.within.0.0 },
  inl (
    32 ∷ (spaced decimal ids ++ 48 ∷ 10 ∷ []),
    (
      spaced decimal ids ++ 48 ∷ 10 ∷ [],
      (ids, spaced decimal ids ++ 48 ∷ 10 ∷ [], [], (s.within.1, refl), (refl, refl), sym (append-nil (spaced decimal ids ++ 48 ∷ 10 ∷ []))),
      refl,
    ),
    refl,
  ),
  s.spells ∙ simp append_assoc,
)

-- a line is read as it is spelled
pub line_reads : Reads line_at SpellsLine
unfolding line_at
line_reads =
    reads_as SpellsLine
    (reads_then (field_reads 4294967295 (nat_lt 0) 32 (omega arith) refl) (λ id. reads_choice 100 (deleted_reads id) (added_reads id) (added_begins id)))
    line_to line_from

-- a line has a byte
pub line_takes : (t : List ℕ) (l : Line) → SpellsLine t l → 0 < length t
line_takes t l s =
    let (id, a, b, field, rest, whole) = line_from t l s in
    omega (arith, ap length whole, length-append a b, ap length field.spells, length-append (decimal id) (32 ∷ []))
