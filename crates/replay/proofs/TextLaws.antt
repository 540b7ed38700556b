-- The lines of a stimulus are read as they are spelled.
use Rattle.std.proofs.Common.{◌≡◌, ℕ, ◌<◌, ◌^◌, Bool, true, false, eqb, List, [], ◌∷◌, ◌++◌, Option, Some, None, refl, sym, ap, ◌∙◌, append_assoc, arith, inl, inr}
use Rattle.std.specs.Prelude.{codes, decimal, flat_map}
use Rattle.std.proofs.lemmas.List.{append-nil}
use Rattle.scan.specs.Words.{any, IsField}
use Rattle.scan.specs.Lists.{items_at}
use Rattle.scan.specs.Spelling.{Nothing, Then, After}
use Rattle.scan.proofs.Toolbox.{Reads, NeverBegins, reads_as, reads_nothing, reads_then, reads_after, reads_choice, skips_byte, skips_tag}
use Rattle.scan.proofs.WordLaws.{field_reads}
use Rattle.scan.proofs.ListLaws.{TakesSome, items_reads}
use Rattle.graph.specs.declared.circuit.Property.{Property}
use Rattle.graph.specs.declared.circuit.Property.TheVariants.{Bad, Justice, Output}
use Rattle.graph.specs.Circuits.{position_of}
use Rattle.stimulus.specs.Texts.{property_line, value_text, line_text}
use Rattle.stimulus.specs.Reading.{bad_at, justice_at, output_at, property_at, value_at, line_at}
use Rattle.stimulus.proofs.Pieces.{Never, Either, never_reads, never_begins, after_begins, either_begins, each_flat, flat_each}
use Rattle.replay.specs.declared.kinds.Status.{Status}
use Rattle.replay.specs.declared.kinds.Status.TheVariants.{Holds, Violated, Unknown}
use Rattle.replay.specs.Reading.{digit_at, dot_at, status_at}

-- ---- the first line

-- the digit of a status
abbrev pub status_digit : Status → ℕ
status_digit Holds = 48
status_digit Violated = 49
status_digit Unknown = 50

abbrev IsDigit : List ℕ → Status → Type 0
IsDigit t s = t ≡ status_digit s ∷ []

abbrev OneStatus : ℕ → Status → List ℕ → Status → Type 0
OneStatus c s = After (c ∷ []) (Nothing {A = Status} s)

abbrev OfLastDigit : List ℕ → Status → Type 0
OfLastDigit = Either (OneStatus 50 Unknown) Never

abbrev OfDigit : List ℕ → Status → Type 0
OfDigit = Either (OneStatus 48 Holds) (Either (OneStatus 49 Violated) OfLastDigit)

digit_to : (t : List ℕ) (s : Status) → OfDigit t s → IsDigit t s
digit_to t s (inl (b, last, whole)) = rw last.1 (rw (whole, last.0) refl)
digit_to t s (inr (inl (b, last, whole))) = rw last.1 (rw (whole, last.0) refl)
digit_to t s (inr (inr (inl (b, last, whole)))) = rw last.1 (rw (whole, last.0) refl)
digit_to t s (inr (inr (inr r))) = absurd r

digit_from : (t : List ℕ) (s : Status) → IsDigit t s → OfDigit t s
digit_from t Holds e = inl ([], (refl, refl), e)
digit_from t Violated e = inr (inl ([], (refl, refl), e))
digit_from t Unknown e = inr (inr (inl ([], (refl, refl), e)))

last_digit_begins : (k : ℕ) → ◌≡◌ {A = Bool} (eqb 50 k) false → NeverBegins k OfLastDigit
last_digit_begins k apart = either_begins (OneStatus 50 Unknown) Never k (after_begins (Nothing {A = Status} Unknown) k 50 apart) (never_begins k)

digit_reads : Reads digit_at IsDigit
unfolding digit_at
digit_reads =
    reads_as IsDigit
    (reads_choice 48 (reads_nothing {A = Status} Holds)
    (reads_choice 49 (reads_nothing {A = Status} Violated)
    (reads_choice 50 (reads_nothing {A = Status} Unknown) never_reads (never_begins 50))
    (last_digit_begins 49 refl))
    (either_begins (OneStatus 49 Violated) OfLastDigit 48 (after_begins (Nothing {A = Status} Violated) 48 49 refl) (last_digit_begins 48 refl)))
    digit_to digit_from

abbrev pub IsStatusLine : List ℕ → Status → Type 0
IsStatusLine t s = t ≡ status_digit s ∷ 10 ∷ []

pub status_reads : Reads status_at IsStatusLine
unfolding status_at
status_reads =
    reads_as IsStatusLine (reads_then digit_reads (λ s. reads_after (skips_byte 10) (reads_nothing {A = Status} s)))
    (λ t s (d, a, b, digit, (c, last, ends), whole). rw last.1 (rw (whole, digit, ends, last.0) refl))
    (λ t s e. (s, status_digit s ∷ [], 10 ∷ [], refl, ([], (refl, refl), refl), e))

-- ---- properties

-- a position and its line end
abbrev OfPosition : (ℕ → Property) → List ℕ → Property → Type 0
OfPosition kind = Then (IsField 4294967295 any 10) (λ n. Nothing {A = Property} (kind n))

-- no bad literal, and no justice property either
abbrev OfLastKind : List ℕ → Property → Type 0
OfLastKind = Either (After (111 ∷ []) (OfPosition Output)) Never

abbrev OfOther : List ℕ → Property → Type 0
OfOther = Either (After (106 ∷ []) (OfPosition Justice)) OfLastKind

abbrev OfProperty : List ℕ → Property → Type 0
OfProperty = Either (After (98 ∷ []) (OfPosition Bad)) OfOther

-- a property's line, its number in its limit
abbrev pub IsPropertyLine : List ℕ → Property → Type 0
IsPropertyLine t p = (t ≡ property_line p) × (position_of p < 2 ^ 32)

bad_reads : Reads bad_at (OfPosition Bad)
unfolding bad_at
bad_reads = reads_then (field_reads 4294967295 any 10 (omega arith) refl) (λ n. reads_nothing {A = Property} (Bad n))

justice_reads : Reads justice_at (OfPosition Justice)
unfolding justice_at
justice_reads = reads_then (field_reads 4294967295 any 10 (omega arith) refl) (λ n. reads_nothing {A = Property} (Justice n))

output_reads : Reads output_at (OfPosition Output)
unfolding output_at
output_reads = reads_then (field_reads 4294967295 any 10 (omega arith) refl) (λ n. reads_nothing {A = Property} (Output n))

property_to : (t : List ℕ) (p : Property) → OfProperty t p → IsPropertyLine t p
property_to t p (inl (b, (n, c, d, field, last, parts), whole)) =
    rw last.1 (rw (whole, parts, field.spells, last.0) (simp (append_assoc, append-nil)), omega (arith, field.within))
property_to t p (inr (inl (b, (n, c, d, field, last, parts), whole))) =
    rw last.1 (rw (whole, parts, field.spells, last.0) (simp (append_assoc, append-nil)), omega (arith, field.within))
property_to t p (inr (inr (inl (b, (n, c, d, field, last, parts), whole)))) =
    rw last.1 (rw (whole, parts, field.spells, last.0) (simp (append_assoc, append-nil)), omega (arith, field.within))
property_to t p (inr (inr (inr r))) = absurd r

position_from : (kind : ℕ → Property) (n : ℕ) → n < 2 ^ 32 → OfPosition kind (decimal n ++ 10 ∷ []) (kind n)
position_from kind n small =
    (n, decimal n ++ 10 ∷ [], [], record { spells = refl; within = omega (arith, small); is_good = refl }, (refl, refl), sym (append-nil (decimal n ++ 10 ∷ [])))

property_from : (t : List ℕ) (p : Property) → IsPropertyLine t p → OfProperty t p
property_from t (Bad n) e = inl (decimal n ++ 10 ∷ [], position_from Bad n e.1, e.0)
property_from t (Justice n) e = inr (inl (decimal n ++ 10 ∷ [], position_from Justice n e.1, e.0))
property_from t (Output n) e = inr (inr (inl (decimal n ++ 10 ∷ [], position_from Output n e.1, e.0)))

last_kind_begins : (k : ℕ) → ◌≡◌ {A = Bool} (eqb 111 k) false → NeverBegins k OfLastKind
last_kind_begins k apart = either_begins (After (111 ∷ []) (OfPosition Output)) Never k (after_begins (OfPosition Output) k 111 apart) (never_begins k)

pub property_reads : Reads property_at IsPropertyLine
unfolding property_at
property_reads =
    reads_as IsPropertyLine
    (reads_choice 98 bad_reads
    (reads_choice 106 justice_reads (reads_choice 111 output_reads never_reads (never_begins 111)) (last_kind_begins 106 refl))
    (either_begins (After (106 ∷ []) (OfPosition Justice)) OfLastKind 98 (after_begins (OfPosition Justice) 98 106 refl) (last_kind_begins 98 refl)))
    property_to property_from

-- ---- lines of values

-- a value, or the line end
abbrev IsValue : List ℕ → Option Bool → Type 0
IsValue t None = t ≡ 10 ∷ []
IsValue t (Some b) = t ≡ value_text b

abbrev One : ℕ → Option Bool → List ℕ → Option Bool → Type 0
One c x = After (c ∷ []) (Nothing {A = Option Bool} x)

abbrev OfEnd : List ℕ → Option Bool → Type 0
OfEnd = Either (One 10 None) Never

abbrev OfValue : List ℕ → Option Bool → Type 0
OfValue = Either (One 48 (Some false)) (Either (One 49 (Some true)) OfEnd)

value_to : (t : List ℕ) (x : Option Bool) → OfValue t x → IsValue t x
value_to t x (inl (b, last, whole)) = rw last.1 (rw (whole, last.0) refl)
value_to t x (inr (inl (b, last, whole))) = rw last.1 (rw (whole, last.0) refl)
value_to t x (inr (inr (inl (b, last, whole)))) = rw last.1 (rw (whole, last.0) refl)
value_to t x (inr (inr (inr r))) = absurd r

value_from : (t : List ℕ) (x : Option Bool) → IsValue t x → OfValue t x
value_from t (Some false) e = inl ([], (refl, refl), e)
value_from t (Some true) e = inr (inl ([], (refl, refl), e))
value_from t None e = inr (inr (inl ([], (refl, refl), e)))

end_begins : (k : ℕ) → ◌≡◌ {A = Bool} (eqb 10 k) false → NeverBegins k OfEnd
end_begins k apart = either_begins (One 10 None) Never k (after_begins (Nothing {A = Option Bool} None) k 10 apart) (never_begins k)

value_reads : Reads value_at IsValue
unfolding value_at
value_reads =
    reads_as IsValue
    (reads_choice 48 (reads_nothing {A = Option Bool} (Some false))
    (reads_choice 49 (reads_nothing {A = Option Bool} (Some true))
    (reads_choice 10 (reads_nothing {A = Option Bool} None) never_reads (never_begins 10))
    (end_begins 49 refl))
    (either_begins (One 49 (Some true)) OfEnd 48 (after_begins (Nothing {A = Option Bool} (Some true)) 48 49 refl) (end_begins 48 refl)))
    value_to value_from

value_takes : TakesSome IsValue
value_takes t true e = rw e (omega arith)
value_takes t false e = rw e (omega arith)

-- a line of values
abbrev pub IsLine : List ℕ → List Bool → Type 0
IsLine t values = t ≡ line_text values

pub values_reads : Reads (items_at value_at) IsLine
values_reads =
    reads_as IsLine (items_reads value_reads value_takes)
    (λ t values (front, end, each, ends, whole). rw (whole, each_flat value_text (λ t x. IsValue t (Some x)) (λ t x e. e) front values each, ends) refl)
    (λ t values e. (flat_map value_text values, 10 ∷ [], flat_each value_text (λ t x. IsValue t (Some x)) (λ x. refl) values, refl, e))

-- ---- lines of values up to the dot

abbrev pub IsInput : List ℕ → Option (List Bool) → Type 0
IsInput t None = t ≡ codes ".\n"
IsInput t (Some values) = t ≡ line_text values

abbrev OfDot : List ℕ → Option (List Bool) → Type 0
OfDot = After (46 ∷ []) (After (10 ∷ []) (Nothing {A = Option (List Bool)} None))

abbrev OfLine : List ℕ → Option (List Bool) → Type 0
OfLine = Then IsLine (λ values. Nothing {A = Option (List Bool)} (Some values))

input_to : (t : List ℕ) (x : Option (List Bool)) → Either OfDot OfLine t x → IsInput t x
input_to t x (inl (b, (c, last, ends), whole)) = rw last.1 (rw (whole, ends, last.0) refl)
input_to t x (inr (values, a, b, line, last, whole)) = rw last.1 (whole ∙ ap (λ (w : List ℕ). a ++ w) last.0 ∙ append-nil a ∙ line)

input_from : (t : List ℕ) (x : Option (List Bool)) → IsInput t x → Either OfDot OfLine t x
input_from t None e = inl (10 ∷ [], ([], (refl, refl), refl), e)
input_from t (Some values) e = inr (values, t, [], e, (refl, refl), sym (append-nil t))

-- no line of values begins with a dot
line_begins : NeverBegins 46 OfLine
line_begins t x rest ([], a, b, line, last, whole) = rw (whole, line) refl
line_begins t x rest (true ∷ values, a, b, line, last, whole) = rw (whole, line) refl
line_begins t x rest (false ∷ values, a, b, line, last, whole) = rw (whole, line) refl

pub line_reads : Reads line_at IsInput
unfolding line_at
line_reads =
    reads_as IsInput
    (reads_choice 46 (reads_after (skips_byte 10) (reads_nothing {A = Option (List Bool)} None))
    (reads_then values_reads (λ values. reads_nothing {A = Option (List Bool)} (Some values)))
    line_begins)
    input_to input_from

-- ---- the dot

abbrev pub IsDotLine : List ℕ → Unit {0} → Type 0
IsDotLine t u = t ≡ codes ".\n"

pub dot_reads : Reads dot_at IsDotLine
unfolding dot_at
dot_reads =
    reads_as IsDotLine (reads_after (skips_tag (codes ".\n")) (reads_nothing {A = Unit {0}} tt))
    (λ t u (a, last, whole). rw (whole, last.0) refl)
    (λ t u s. ([], (refl, refl), s))
