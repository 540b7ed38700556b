-- The lines before the sections are read as they are spelled.
use Rattle.std.proofs.Common.{◌≡◌, ℕ, zero, suc, ◌<◌, ◌≤◌, List, [], ◌∷◌, ◌++◌, length, Option, Some, None, All, refl, sym, ap, ◌∙◌, append_assoc, arith, inl, inr}
use Rattle.std.specs.Prelude.{◌⊎◌, decimal, codes, flat_map}
use Rattle.std.proofs.lemmas.List.{append-nil}
use Rattle.std.proofs.lemmas.List.Elements.{All-nil, All-cons, All-head, All-tail}
use Rattle.scan.specs.Reading.{◌>>=◌, Read}
use Rattle.scan.specs.Bytes.{byte_at}
use Rattle.scan.specs.Numbers.{number_at}
use Rattle.scan.specs.Lists.{many_at}
use Rattle.scan.specs.Spelling.{Nothing, Then, After, NumberThen}
use Rattle.scan.specs.Words.{any, IsField}
use Rattle.scan.proofs.NumberLaws.{NoDigit}
use Rattle.scan.proofs.Toolbox.{Reads, NeverBegins, reads_as, reads_same, reads_nothing, reads_then, reads_after, reads_choice, skips_byte, skips_tag}
use Rattle.scan.proofs.WordLaws.{reads_number, field_reads}
use Rattle.graph.specs.Circuits.{position_of, property_text}
use Rattle.graph.specs.declared.circuit.Lit.{Lit}
use Rattle.graph.specs.declared.circuit.Property.{Property}
use Rattle.graph.specs.declared.circuit.Property.TheVariants.{Bad, Justice, Output}
use Rattle.certificate.specs.declared.head.Version.{Version}
use Rattle.certificate.specs.declared.head.Version.TheVariants.{One, Two}
use Rattle.certificate.specs.Reading.{greatest, version_at, first_line_at, bad_at, justice_at, output_at, property_at, spaced_at, literals_at, clause_at}
use Rattle.certificate.specs.Texts.{clause_line}

-- ---- the first line

-- the first line of a version
abbrev pub line_of : Version → List ℕ
line_of One = codes "aigcert 1\n"
line_of Two = codes "aigcert 2\n"

abbrev pub IsFirstLine : List ℕ → Version → Type 0
IsFirstLine t v = t ≡ line_of v

abbrev OfOne : List ℕ → Version → Type 0
OfOne = After (49 ∷ []) (Nothing {A = Version} One)

abbrev OfDigit : List ℕ → Version → Type 0
OfDigit t v = After (50 ∷ []) (Nothing {A = Version} Two) t v ⊎ OfOne t v

abbrev OfFirstLine : List ℕ → Version → Type 0
OfFirstLine = After (codes "aigcert ") (Then OfDigit (λ v. After (10 ∷ []) (Nothing {A = Version} v)))

one_begins : NeverBegins 50 OfOne
one_begins t v rest (a, one, whole) = rw whole refl

digit_reads : Reads version_at OfDigit
unfolding version_at
digit_reads = reads_choice 50 (reads_nothing {A = Version} Two) (reads_after (skips_byte 49) (reads_nothing {A = Version} One)) one_begins

first_line_to : (t : List ℕ) (v : Version) → OfFirstLine t v → IsFirstLine t v
first_line_to t v (a, (w, b, c, inl (d, digit, p3), (e, last, p4), p2), p1) = rw (last.1, digit.1) (rw (p1, p2, p3, p4, digit.0, last.0) refl)
first_line_to t v (a, (w, b, c, inr (d, digit, p3), (e, last, p4), p2), p1) = rw (last.1, digit.1) (rw (p1, p2, p3, p4, digit.0, last.0) refl)

first_line_from : (t : List ℕ) (v : Version) → IsFirstLine t v → OfFirstLine t v
first_line_from t One r = (49 ∷ 10 ∷ [], (One, 49 ∷ [], 10 ∷ [], inr ([], (refl, refl), refl), ([], (refl, refl), refl), refl), r)
first_line_from t Two r = (50 ∷ 10 ∷ [], (Two, 50 ∷ [], 10 ∷ [], inl ([], (refl, refl), refl), ([], (refl, refl), refl), refl), r)

pub first_line_reads : Reads first_line_at IsFirstLine
unfolding first_line_at
first_line_reads = reads_as IsFirstLine (reads_after (skips_tag (codes "aigcert ")) (reads_then digit_reads (λ v. reads_after (skips_byte 10) (reads_nothing {A = Version} v)))) first_line_to first_line_from

-- ---- the property

-- the line of a property with a position below 2 ^ 32
abbrev pub IsPropertyLine : List ℕ → Property → Type 0
IsPropertyLine t p = (t ≡ property_text p ++ codes "\n") × (position_of p < 4294967296)

abbrev OfPosition : (ℕ → Property) → List ℕ → Property → Type 0
OfPosition make = Then (IsField 4294967295 any 10) (λ n. Nothing {A = Property} (make n))

-- no bad literal
abbrev OfOther : List ℕ → Property → Type 0
OfOther t p = After (106 ∷ []) (OfPosition Justice) t p ⊎ After (111 ∷ []) (OfPosition Output) t p

abbrev OfProperty : List ℕ → Property → Type 0
OfProperty t p = After (98 ∷ []) (OfPosition Bad) t p ⊎ OfOther t p

bad_reads : Reads bad_at (OfPosition Bad)
unfolding bad_at
bad_reads = reads_then (field_reads 4294967295 any 10 (omega arith) refl) (λ n. reads_nothing {A = Property} (Bad n))

justice_reads : Reads justice_at (OfPosition Justice)
unfolding justice_at
justice_reads = reads_then (field_reads 4294967295 any 10 (omega arith) refl) (λ n. reads_nothing {A = Property} (Justice n))

output_reads : Reads output_at (After (111 ∷ []) (OfPosition Output))
unfolding output_at
output_reads = reads_after (skips_byte 111) (reads_then (field_reads 4294967295 any 10 (omega arith) refl) (λ n. reads_nothing {A = Property} (Output n)))

output_begins : NeverBegins 106 (After (111 ∷ []) (OfPosition Output))
output_begins t p rest (a, one, whole) = rw whole refl

other_begins : NeverBegins 98 OfOther
other_begins t p rest (inl (a, one, whole)) = rw whole refl
other_begins t p rest (inr (a, one, whole)) = rw whole refl

property_to : (t : List ℕ) (p : Property) → OfProperty t p → IsPropertyLine t p
property_to t p (inl (a, (n, b, c, field, last, p2), p1)) =
    rw last.1 (rw (p1, p2, field.spells, last.0) (simp append-nil), omega (arith, field.within))
property_to t p (inr (inl (a, (n, b, c, field, last, p2), p1))) =
    rw last.1 (rw (p1, p2, field.spells, last.0) (simp append-nil), omega (arith, field.within))
property_to t p (inr (inr (a, (n, b, c, field, last, p2), p1))) =
    rw last.1 (rw (p1, p2, field.spells, last.0) (simp append-nil), omega (arith, field.within))

position_of_line : (make : ℕ → Property) (n : ℕ) → n < 4294967296 → OfPosition make (decimal n ++ 10 ∷ []) (make n)
position_of_line make n lt =
    (n, decimal n ++ 10 ∷ [], [], record { spells = refl; within = omega (arith, lt); is_good = refl }, (refl, refl), sym (append-nil (decimal n ++ 10 ∷ [])))

property_from : (t : List ℕ) (p : Property) → IsPropertyLine t p → OfProperty t p
property_from t (Bad n) r = inl (decimal n ++ 10 ∷ [], position_of_line Bad n r.1, r.0)
property_from t (Justice n) r = inr (inl (decimal n ++ 10 ∷ [], position_of_line Justice n r.1, r.0))
property_from t (Output n) r = inr (inr (decimal n ++ 10 ∷ [], position_of_line Output n r.1, r.0))

pub property_reads : Reads property_at IsPropertyLine
unfolding property_at
property_reads = reads_as IsPropertyLine (reads_choice 98 bad_reads (reads_choice 106 justice_reads output_reads output_begins) other_begins) property_to property_from

-- ---- clauses

-- literals below 2 ^ 32
abbrev pub AreSmall : List Lit → Type 0
AreSmall c = All (λ a. a.0 < 4294967296) c

-- so many literals, a space before each, and the line end
abbrev IsLiterals : ℕ → List ℕ → List Lit → Type 0
IsLiterals n t c = (length c ≡ n) × (t ≡ flat_map (λ (a : Lit). codes " " ++ decimal a.0) c ++ codes "\n") × AreSmall c

abbrev lit : ℕ → Lit
lit n = record { 0 = n }

-- the literals one by one
abbrev MoreLiterals : ℕ → List ℕ → List Lit → Type 0
MoreLiterals n = After (32 ∷ []) (NumberThen 4294967295 (λ a. Then (IsLiterals n) (λ c. Nothing {A = List Lit} (lit a ∷ c))))

literals_end : (n : ℕ) (t : List ℕ) (c : List Lit) (rest : List ℕ) → IsLiterals n t c → NoDigit (t ++ rest)
literals_end n t [] rest r = rw r.1 refl
literals_end n t (a ∷ c) rest r = rw r.1 refl

more_end : (n : ℕ) (a : ℕ) (t : List ℕ) (c : List Lit) (rest : List ℕ) → Then (IsLiterals n) (λ c. Nothing {A = List Lit} (lit a ∷ c)) t c → NoDigit (t ++ rest)
more_end n a t c rest (d, b, e, one, last, whole) = rw (whole, last.0, append-nil b) (literals_end n b d rest one)

none_to : (t : List ℕ) (c : List Lit) → After (10 ∷ []) (Nothing {A = List Lit} []) t c → IsLiterals zero t c
none_to t c (a, last, whole) = rw (last.1, whole, last.0) (refl, refl, All-nil (λ (a : Lit). a.0 < 4294967296))

none_from : (t : List ℕ) (c : List Lit) → IsLiterals zero t c → After (10 ∷ []) (Nothing {A = List Lit} []) t c
none_from t [] r = ([], (refl, refl), r.1)
none_from t (a ∷ c) r = absurd (omega (arith, r.0))

more_to : (n : ℕ) (t : List ℕ) (c : List Lit) → MoreLiterals n t c → IsLiterals (suc n) t c
more_to n t c (b, (a, d, within, (others, e, f, (len, spells, small), last, p3), p2), p1) =
    rw last.1 (
      ap suc len,
      rw (p1, p2, p3, last.0, spells) (simp (append_assoc, append-nil)),
      All-cons (λ (x : Lit). x.0 < 4294967296) (lit a) others (omega (arith, within)) small,
    )

more_from : (n : ℕ) (t : List ℕ) (c : List Lit) → IsLiterals (suc n) t c → MoreLiterals n t c
more_from n t [] r = absurd (omega (arith, r.0))
more_from n t (a ∷ c) r =
    let rest : List ℕ = flat_map (λ (x : Lit). codes " " ++ decimal x.0) c ++ codes "\n" in (
      decimal a.0 ++ rest,
      (
        a.0,
        rest,
        omega (arith, All-head (λ (x : Lit). x.0 < 4294967296) a c r.2),
        (c, rest, [], (omega (arith, r.0), refl, All-tail (λ (x : Lit). x.0 < 4294967296) a c r.2), (refl, refl), sym (append-nil rest)),
        refl,
      ),
      r.1 ∙ simp append_assoc,
    )

-- the literals one by one, as a function on lists
abbrev more_at : ℕ → List ℕ → Read (List Lit)
more_at n bytes = byte_at 32 bytes >>= λ rest. (number_at 4294967295 rest >>= λ a. (literals_at n a.1 >>= λ c. Some (lit a.0 ∷ c.0, c.1)))

-- the literals that follow one, and the line end behind them
abbrev later_at : ℕ → Lit × List ℕ → Read (List Lit)
later_at n first = many_at spaced_at n first.1 >>= λ others. Some (first.0 ∷ others.0, others.1)

abbrev closed : List Lit × List ℕ → Read (List Lit)
closed c = byte_at 10 c.1 >>= λ rest. Some (c.0, rest)

-- literals, and the text behind them
abbrev got : List Lit → List ℕ → Read (List Lit)
got c rest = Some (c, rest)

same_end : (a : Lit) (c : List Lit) (o : Option (List ℕ)) → (o >>= got (a ∷ c)) ≡ ((o >>= got c) >>= λ r. got (a ∷ r.0) r.1)
same_end a c None = refl
same_end a c (Some rest) = refl

same_later : (a : Lit) (o : Read (List Lit)) → ((o >>= λ c. Some (a ∷ c.0, c.1)) >>= closed) ≡ ((o >>= closed) >>= λ c. Some (a ∷ c.0, c.1))
same_later a None = refl
same_later a (Some c) = same_end a c.0 (byte_at 10 c.1)

same_number : (n : ℕ) (o : Read ℕ) → (((o >>= λ a. Some (lit a.0, a.1)) >>= later_at n) >>= closed) ≡ (o >>= λ a. (literals_at n a.1 >>= λ c. Some (lit a.0 ∷ c.0, c.1)))
unfolding literals_at
same_number n None = refl
same_number n (Some a) = same_later (lit a.0) (many_at spaced_at n a.1)

same_literal : (n : ℕ) (o : Option (List ℕ)) → (((o >>= λ rest. (number_at 4294967295 rest >>= λ a. Some (lit a.0, a.1))) >>= later_at n) >>= closed) ≡ (o >>= λ rest. (number_at 4294967295 rest >>= λ a. (literals_at n a.1 >>= λ c. Some (lit a.0 ∷ c.0, c.1))))
same_literal n None = refl
same_literal n (Some rest) = same_number n (number_at 4294967295 rest)

one_by_one : (n : ℕ) (bytes : List ℕ) → literals_at (suc n) bytes ≡ more_at n bytes
unfolding literals_at many_at spaced_at
one_by_one n bytes = same_literal n (byte_at 32 bytes)

none_at : (bytes : List ℕ) → literals_at zero bytes ≡ (byte_at 10 bytes >>= λ rest. Some ([], rest))
unfolding literals_at many_at
none_at bytes = refl

literals_reads : (n : ℕ) → Reads (literals_at n) (IsLiterals n)
literals_reads zero =
    reads_same (literals_at zero) none_at (reads_as (IsLiterals zero) (reads_after (skips_byte 10) (reads_nothing {A = List Lit} [])) none_to none_from)
literals_reads (suc n) =
    reads_same (literals_at (suc n)) (one_by_one n)
    (reads_as (IsLiterals (suc n))
    (reads_after (skips_byte 32) (reads_number 4294967295 (omega arith) (λ a. reads_then (literals_reads n) (λ c. reads_nothing {A = List Lit} (lit a ∷ c))) (more_end n)))
    (more_to n) (more_from n))

-- the line of a clause within its limits
abbrev pub IsClauseLine : List ℕ → List Lit → Type 0
IsClauseLine t c = (t ≡ clause_line c) × ((length c ≤ 4194303) × AreSmall c)

clause_to : (t : List ℕ) (c : List Lit) → NumberThen greatest IsLiterals t c → IsClauseLine t c
clause_to t c (n, a, within, (len, spells, small), whole) =
    let spelled : t ≡ clause_line c = whole ∙ ap (λ w. decimal n ++ w) spells ∙ rw (← len) (sym (append_assoc (decimal (length c)) (flat_map (λ (a : Lit). codes " " ++ decimal a.0) c) (codes "\n"))) in
    (spelled, (omega (arith, len, within), small))

clause_from : (t : List ℕ) (c : List Lit) → IsClauseLine t c → NumberThen greatest IsLiterals t c
clause_from t c r =
    (length c, flat_map (λ (a : Lit). codes " " ++ decimal a.0) c ++ codes "\n", r.1.0, (refl, refl, r.1.1), r.0 ∙ append_assoc (decimal (length c)) (flat_map (λ (a : Lit). codes " " ++ decimal a.0) c) (codes "\n"))

pub clause_reads : Reads clause_at IsClauseLine
unfolding clause_at
clause_reads = reads_as IsClauseLine (reads_number greatest (omega arith) literals_reads literals_end) clause_to clause_from
