-- The texts of stimuli are read as they are spelled.
use Rattle.std.proofs.Common.{◌≡◌, ℕ, ◌<◌, ◌^◌, Bool, true, false, eqb, List, [], ◌∷◌, ◌++◌, Option, Some, None, refl, sym, ap, ◌∙◌, append_assoc, arith, inl, inr}
use Rattle.std.specs.Prelude.{codes, decimal, flat_map}
use Rattle.std.proofs.lemmas.List.{append-nil, length-append}
use Rattle.scan.specs.Words.{any, IsField}
use Rattle.scan.specs.Lists.{items_at}
use Rattle.scan.specs.Spelling.{Nothing, Then, After}
use Rattle.scan.proofs.Toolbox.{Reads, NeverBegins, reads_as, reads_nothing, reads_then, reads_after, reads_choice, skips_byte, skips_tag}
use Rattle.scan.proofs.WordLaws.{field_reads}
use Rattle.scan.proofs.ListLaws.{TakesSome, items_reads}
use Rattle.graph.specs.declared.circuit.Property.{Property}
use Rattle.graph.specs.declared.circuit.Property.TheVariants.{Bad, Justice, Output}
use Rattle.graph.specs.Circuits.{position_of}
use Rattle.stimulus.specs.declared.value.Stimulus.{Stimulus}
use Rattle.stimulus.specs.declared.value.Stimulus.TheVariants.{Holds, Violated, Unknown}
use Rattle.stimulus.specs.Texts.{property_line, value_text, line_text, SpellsStimulus}
use Rattle.stimulus.specs.Reading.{bad_at, justice_at, output_at, property_at, heading_at, concluded_at, value_at, line_at, violated_at, holds_at, unknown_at, stimulus_at}
use Rattle.stimulus.proofs.Pieces.{Never, Either, never_reads, never_begins, after_begins, either_begins, each_flat, flat_each, five}

-- ---- properties

-- a position and its line end
abbrev OfPosition : (ℕ → Property) → List ℕ → Property → Type 0
OfPosition kind = Then (IsField 4294967295 any 10) (λ n. Nothing {A = Property} (kind n))

-- no bad literal, and no justice property either
abbrev OfLastKind : List ℕ → Property → Type 0
OfLastKind = Either (After (111 ∷ []) (OfPosition Output)) Never

abbrev OfOther : List ℕ → Property → Type 0
OfOther = Either (After (106 ∷ []) (OfPosition Justice)) OfLastKind

abbrev OfProperty : List ℕ → Property → Type 0
OfProperty = Either (After (98 ∷ []) (OfPosition Bad)) OfOther

-- a property's line, its number in its limit
abbrev IsPropertyLine : List ℕ → Property → Type 0
IsPropertyLine t p = (t ≡ property_line p) × (position_of p < 2 ^ 32)

bad_reads : Reads bad_at (OfPosition Bad)
unfolding bad_at
bad_reads = reads_then (field_reads 4294967295 any 10 (omega arith) refl) (λ n. reads_nothing {A = Property} (Bad n))

justice_reads : Reads justice_at (OfPosition Justice)
unfolding justice_at
justice_reads = reads_then (field_reads 4294967295 any 10 (omega arith) refl) (λ n. reads_nothing {A = Property} (Justice n))

output_reads : Reads output_at (OfPosition Output)
unfolding output_at
output_reads = reads_then (field_reads 4294967295 any 10 (omega arith) refl) (λ n. reads_nothing {A = Property} (Output n))

property_to : (t : List ℕ) (p : Property) → OfProperty t p → IsPropertyLine t p
property_to t p (inl (b, (n, c, d, field, last, parts), whole)) =
    rw last.1 (rw (whole, parts, field.spells, last.0) (simp (append_assoc, append-nil)), omega (arith, field.within))
property_to t p (inr (inl (b, (n, c, d, field, last, parts), whole))) =
    rw last.1 (rw (whole, parts, field.spells, last.0) (simp (append_assoc, append-nil)), omega (arith, field.within))
property_to t p (inr (inr (inl (b, (n, c, d, field, last, parts), whole)))) =
    rw last.1 (rw (whole, parts, field.spells, last.0) (simp (append_assoc, append-nil)), omega (arith, field.within))
property_to t p (inr (inr (inr r))) = absurd r

position_from : (kind : ℕ → Property) (n : ℕ) → n < 2 ^ 32 → OfPosition kind (decimal n ++ 10 ∷ []) (kind n)
position_from kind n small =
    (n, decimal n ++ 10 ∷ [], [], record { spells = refl; within = omega (arith, small); is_good = refl }, (refl, refl), sym (append-nil (decimal n ++ 10 ∷ [])))

property_from : (t : List ℕ) (p : Property) → IsPropertyLine t p → OfProperty t p
property_from t (Bad n) e = inl (decimal n ++ 10 ∷ [], position_from Bad n e.1, e.0)
property_from t (Justice n) e = inr (inl (decimal n ++ 10 ∷ [], position_from Justice n e.1, e.0))
property_from t (Output n) e = inr (inr (inl (decimal n ++ 10 ∷ [], position_from Output n e.1, e.0)))

last_kind_begins : (k : ℕ) → ◌≡◌ {A = Bool} (eqb 111 k) false → NeverBegins k OfLastKind
last_kind_begins k apart = either_begins (After (111 ∷ []) (OfPosition Output)) Never k (after_begins (OfPosition Output) k 111 apart) (never_begins k)

property_reads : Reads property_at IsPropertyLine
unfolding property_at
property_reads =
    reads_as IsPropertyLine
    (reads_choice 98 bad_reads
    (reads_choice 106 justice_reads (reads_choice 111 output_reads never_reads (never_begins 111)) (last_kind_begins 106 refl))
    (either_begins (After (106 ∷ []) (OfPosition Justice)) OfLastKind 98 (after_begins (OfPosition Justice) 98 106 refl) (last_kind_begins 98 refl)))
    property_to property_from

-- the line end behind the status, and a property's line
abbrev OfHeading : List ℕ → Property → Type 0
OfHeading = After (10 ∷ []) IsPropertyLine

heading_reads : Reads heading_at OfHeading
unfolding heading_at
heading_reads = reads_after (skips_byte 10) property_reads

-- what follows the status of a stimulus without a run
abbrev IsConcluded : List ℕ → Property → Type 0
IsConcluded t p = (t ≡ 10 ∷ (property_line p ++ codes ".\n")) × (position_of p < 2 ^ 32)

abbrev OfConcluded : List ℕ → Property → Type 0
OfConcluded = Then OfHeading (λ p. After (codes ".\n") (Nothing {A = Property} p))

concluded_to : (t : List ℕ) (p : Property) → OfConcluded t p → IsConcluded t p
concluded_to t p (q, a, b, (c, (line, small), begins), (d, last, ends), whole) =
    rw last.1 (rw (whole, begins, line, ends, last.0) refl, small)

concluded_from : (t : List ℕ) (p : Property) → IsConcluded t p → OfConcluded t p
concluded_from t p e = (p, 10 ∷ property_line p, codes ".\n", (property_line p, (refl, e.1), refl), ([], (refl, refl), refl), e.0)

concluded_reads : Reads concluded_at IsConcluded
unfolding concluded_at
concluded_reads =
    reads_as IsConcluded (reads_then heading_reads (λ p. reads_after (skips_tag (codes ".\n")) (reads_nothing {A = Property} p))) concluded_to concluded_from

-- ---- lines of values

-- a value, or the line end
abbrev IsValue : List ℕ → Option Bool → Type 0
IsValue t None = t ≡ 10 ∷ []
IsValue t (Some b) = t ≡ value_text b

abbrev One : ℕ → Option Bool → List ℕ → Option Bool → Type 0
One c x = After (c ∷ []) (Nothing {A = Option Bool} x)

abbrev OfEnd : List ℕ → Option Bool → Type 0
OfEnd = Either (One 10 None) Never

abbrev OfValue : List ℕ → Option Bool → Type 0
OfValue = Either (One 48 (Some false)) (Either (One 49 (Some true)) OfEnd)

value_to : (t : List ℕ) (x : Option Bool) → OfValue t x → IsValue t x
value_to t x (inl (b, last, whole)) = rw last.1 (rw (whole, last.0) refl)
value_to t x (inr (inl (b, last, whole))) = rw last.1 (rw (whole, last.0) refl)
value_to t x (inr (inr (inl (b, last, whole)))) = rw last.1 (rw (whole, last.0) refl)
value_to t x (inr (inr (inr r))) = absurd r

value_from : (t : List ℕ) (x : Option Bool) → IsValue t x → OfValue t x
value_from t (Some false) e = inl ([], (refl, refl), e)
value_from t (Some true) e = inr (inl ([], (refl, refl), e))
value_from t None e = inr (inr (inl ([], (refl, refl), e)))

end_begins : (k : ℕ) → ◌≡◌ {A = Bool} (eqb 10 k) false → NeverBegins k OfEnd
end_begins k apart = either_begins (One 10 None) Never k (after_begins (Nothing {A = Option Bool} None) k 10 apart) (never_begins k)

value_reads : Reads value_at IsValue
unfolding value_at
value_reads =
    reads_as IsValue
    (reads_choice 48 (reads_nothing {A = Option Bool} (Some false))
    (reads_choice 49 (reads_nothing {A = Option Bool} (Some true))
    (reads_choice 10 (reads_nothing {A = Option Bool} None) never_reads (never_begins 10))
    (end_begins 49 refl))
    (either_begins (One 49 (Some true)) OfEnd 48 (after_begins (Nothing {A = Option Bool} (Some true)) 48 49 refl) (end_begins 48 refl)))
    value_to value_from

value_takes : TakesSome IsValue
value_takes t true e = rw e (omega arith)
value_takes t false e = rw e (omega arith)

-- a line of values
abbrev IsLine : List ℕ → List Bool → Type 0
IsLine t values = t ≡ line_text values

values_reads : Reads (items_at value_at) IsLine
values_reads =
    reads_as IsLine (items_reads value_reads value_takes)
    (λ t values (front, end, each, ends, whole). rw (whole, each_flat value_text (λ t x. IsValue t (Some x)) (λ t x e. e) front values each, ends) refl)
    (λ t values e. (flat_map value_text values, 10 ∷ [], flat_each value_text (λ t x. IsValue t (Some x)) (λ x. refl) values, refl, e))

-- ---- lines of values up to the dot

abbrev IsInput : List ℕ → Option (List Bool) → Type 0
IsInput t None = t ≡ codes ".\n"
IsInput t (Some values) = t ≡ line_text values

abbrev OfDot : List ℕ → Option (List Bool) → Type 0
OfDot = After (46 ∷ []) (After (10 ∷ []) (Nothing {A = Option (List Bool)} None))

abbrev OfLine : List ℕ → Option (List Bool) → Type 0
OfLine = Then IsLine (λ values. Nothing {A = Option (List Bool)} (Some values))

input_to : (t : List ℕ) (x : Option (List Bool)) → Either OfDot OfLine t x → IsInput t x
input_to t x (inl (b, (c, last, ends), whole)) = rw last.1 (rw (whole, ends, last.0) refl)
input_to t x (inr (values, a, b, line, last, whole)) = rw last.1 (whole ∙ ap (λ (w : List ℕ). a ++ w) last.0 ∙ append-nil a ∙ line)

input_from : (t : List ℕ) (x : Option (List Bool)) → IsInput t x → Either OfDot OfLine t x
input_from t None e = inl (10 ∷ [], ([], (refl, refl), refl), e)
input_from t (Some values) e = inr (values, t, [], e, (refl, refl), sym (append-nil t))

-- no line of values begins with a dot
line_begins : NeverBegins 46 OfLine
line_begins t x rest ([], a, b, line, last, whole) = rw (whole, line) refl
line_begins t x rest (true ∷ values, a, b, line, last, whole) = rw (whole, line) refl
line_begins t x rest (false ∷ values, a, b, line, last, whole) = rw (whole, line) refl

line_reads : Reads line_at IsInput
unfolding line_at
line_reads =
    reads_as IsInput
    (reads_choice 46 (reads_after (skips_byte 10) (reads_nothing {A = Option (List Bool)} None))
    (reads_then values_reads (λ values. reads_nothing {A = Option (List Bool)} (Some values)))
    line_begins)
    input_to input_from

line_takes : TakesSome IsInput
line_takes t values e = rw e (omega (arith, length-append (flat_map value_text values) (10 ∷ [])))

-- the input lines, and the dot's
abbrev IsLines : List ℕ → List (List Bool) → Type 0
IsLines t lines = t ≡ flat_map line_text lines ++ codes ".\n"

lines_reads : Reads (items_at line_at) IsLines
lines_reads =
    reads_as IsLines (items_reads line_reads line_takes)
    (λ t lines (front, end, each, ends, whole). rw (whole, each_flat line_text (λ t x. IsInput t (Some x)) (λ t x e. e) front lines each, ends) refl)
    (λ t lines e. (flat_map line_text lines, codes ".\n", flat_each line_text (λ t x. IsInput t (Some x)) (λ x. refl) lines, refl, e))

-- ---- stimuli

abbrev OfViolated : List ℕ → Stimulus → Type 0
OfViolated = Then OfHeading (λ p. Then IsLine (λ initial. Then IsLines (λ inputs. Nothing {A = Stimulus} (Violated p initial inputs))))

abbrev OfHolds : List ℕ → Stimulus → Type 0
OfHolds = Then IsConcluded (λ p. Nothing {A = Stimulus} (Holds p))

abbrev OfUnknown : List ℕ → Stimulus → Type 0
OfUnknown = Then IsConcluded (λ p. Nothing {A = Stimulus} (Unknown p))

abbrev OfLast : List ℕ → Stimulus → Type 0
OfLast = Either (After (50 ∷ []) OfUnknown) Never

abbrev OfStimulus : List ℕ → Stimulus → Type 0
OfStimulus = Either (After (48 ∷ []) OfHolds) (Either (After (49 ∷ []) OfViolated) OfLast)

violated_reads : Reads violated_at OfViolated
unfolding violated_at
violated_reads = reads_then heading_reads (λ p. reads_then values_reads (λ initial. reads_then lines_reads (λ inputs. reads_nothing {A = Stimulus} (Violated p initial inputs))))

holds_reads : Reads holds_at OfHolds
unfolding holds_at
holds_reads = reads_then concluded_reads (λ p. reads_nothing {A = Stimulus} (Holds p))

unknown_reads : Reads unknown_at OfUnknown
unfolding unknown_at
unknown_reads = reads_then concluded_reads (λ p. reads_nothing {A = Stimulus} (Unknown p))

lines_group : (a b c d : List ℕ) → 49 ∷ ((10 ∷ a) ++ (b ++ ((c ++ d) ++ []))) ≡ codes "1\n" ++ a ++ b ++ c ++ d
lines_group a b c d = ap (λ (w : List ℕ). 49 ∷ 10 ∷ (a ++ (b ++ w))) (append-nil (c ++ d)) ∙ five (codes "1\n") a b c d

stimulus_to : (t : List ℕ) (s : Stimulus) → OfStimulus t s → SpellsStimulus t s
stimulus_to t s (inl (b, (p, c, d, (ends, small), last, parts), whole)) =
    rw last.1 (record { spells = rw (whole, parts, ends, last.0) (ap (λ (w : List ℕ). 48 ∷ w) (append-nil (10 ∷ (property_line p ++ codes ".\n")))); within = small })
stimulus_to t s (inr (inl (b, (p, c, d, (e, (line, small), begins), (initial, f, g, first, (inputs, h, i, others, last, p3), p2), p1), whole))) =
    rw last.1 (record { spells = rw (whole, p1, begins, line, p2, first, p3, others, last.0) (lines_group (property_line p) (line_text initial) (flat_map line_text inputs) (codes ".\n")); within = small })
stimulus_to t s (inr (inr (inl (b, (p, c, d, (ends, small), last, parts), whole)))) =
    rw last.1 (record { spells = rw (whole, parts, ends, last.0) (ap (λ (w : List ℕ). 50 ∷ w) (append-nil (10 ∷ (property_line p ++ codes ".\n")))); within = small })
stimulus_to t s (inr (inr (inr r))) = absurd r

stimulus_from : (t : List ℕ) (s : Stimulus) → SpellsStimulus t s → OfStimulus t s
stimulus_from t (Holds p) e =
    let text : List ℕ = 10 ∷ (property_line p ++ codes ".\n") in
    inl (text, (p, text, [], (refl, e.within), (refl, refl), sym (append-nil text)), e.spells)
stimulus_from t (Violated p initial inputs) e =
    let lines : List ℕ = flat_map line_text inputs ++ codes ".\n" in
    inr (inl (
      10 ∷ (property_line p ++ (line_text initial ++ lines)),
      (
        p,
        10 ∷ property_line p,
        line_text initial ++ lines,
        (property_line p, (refl, e.within), refl),
        (initial, line_text initial, lines, refl, (inputs, lines, [], refl, (refl, refl), sym (append-nil lines)), refl),
        refl,
      ),
      e.spells ∙ sym (five (codes "1\n") (property_line p) (line_text initial) (flat_map line_text inputs) (codes ".\n")),
    ))
stimulus_from t (Unknown p) e =
    let text : List ℕ = 10 ∷ (property_line p ++ codes ".\n") in
    inr (inr (inl (text, (p, text, [], (refl, e.within), (refl, refl), sym (append-nil text)), e.spells)))

last_begins : (k : ℕ) → ◌≡◌ {A = Bool} (eqb 50 k) false → NeverBegins k OfLast
last_begins k apart = either_begins (After (50 ∷ []) OfUnknown) Never k (after_begins OfUnknown k 50 apart) (never_begins k)

-- a stimulus is read as it is spelled
pub stimulus_reads : Reads stimulus_at SpellsStimulus
unfolding stimulus_at
stimulus_reads =
    reads_as SpellsStimulus
    (reads_choice 48 holds_reads
    (reads_choice 49 violated_reads (reads_choice 50 unknown_reads never_reads (never_begins 50)) (last_begins 49 refl))
    (either_begins (After (49 ∷ []) OfViolated) OfLast 48 (after_begins OfViolated 48 49 refl) (last_begins 48 refl)))
    stimulus_to stimulus_from
