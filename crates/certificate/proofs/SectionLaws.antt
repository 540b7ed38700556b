-- The sections are read as they are spelled.
use Rattle.std.proofs.Common.{◌≡◌, ℕ, ◌+◌, ◌*◌, false, eqb, List, [], ◌∷◌, ◌++◌, length, take, drop, Option, Some, None, All, refl, sym, ap, subst, ◌∙◌, append_assoc, arith, inl, inr}
use Rattle.std.specs.Prelude.{◌⊎◌, IfSome, flat_map}
use Rattle.std.proofs.Math.Seq.{take-append_seam, drop-append_seam, drop-append-add}
use Rattle.std.proofs.lemmas.Bool.{ne_eqb}
use Rattle.std.proofs.lemmas.List.{append-nil, length-append, length-drop, length-take-le, take-append-drop}
use Rattle.std.proofs.lemmas.List.Elements.{All-nil, All-cons, All-head, All-append, All-take, All-drop}
use Rattle.scan.specs.Lists.{EachUntil}
use Rattle.scan.specs.Spelling.{Nothing, Then, After}
use Rattle.scan.proofs.ListLaws.{TakesSome, Many, many_reads, items_reads}
use Rattle.scan.proofs.NumberLaws.{decimal_first}
use Rattle.scan.proofs.Toolbox.{Reads, Avoids, NeverBegins, reads_as, reads_nothing, reads_then, reads_after, reads_choice, skips_byte}
use Rattle.lrat.specs.Limits.{IsLine}
use Rattle.lrat.specs.Texts.{line_text, proof_text, SpellsLine}
use Rattle.lrat.specs.declared.line.Line.{Line}
use Rattle.lrat.specs.declared.line.Line.TheVariants.{Add, Delete}
use Rattle.lrat.proofs.TextLaws.{line_reads, line_takes}
use Rattle.certificate.specs.declared.head.Version.{Version}
use Rattle.certificate.specs.declared.head.Version.TheVariants.{One, Two}
use Rattle.certificate.specs.Reading.{item_at, section_at, lemmas_at, sections_at}
use Rattle.certificate.specs.Texts.{section_text, lemma_text, sections_text}
use Rattle.certificate.proofs.EachLaws.{IsText, each_to, each_from}

-- ---- the lines of a section

-- a line, or the line with a dot
abbrev pub IsItem : List ℕ → Option Line → Type 0
IsItem t None = t ≡ 46 ∷ 10 ∷ []
IsItem t (Some line) = SpellsLine t line

abbrev OfDot : List ℕ → Option Line → Type 0
OfDot = After (10 ∷ []) (Nothing {A = Option Line} None)

abbrev OfLine : List ℕ → Option Line → Type 0
OfLine = Then SpellsLine (λ line. Nothing {A = Option Line} (Some line))

-- a line begins with a digit
line_avoids : (line : Line) (rest : List ℕ) → IsLine line → Avoids 46 (line_text line ++ rest)
line_avoids (Add id clause hints) rest l =
    let f = decimal_first 4294967295 id (omega (arith, l.0.1)) (omega arith) in
    let ne : eqb f.0 46 ≡ false = ne_eqb f.0 46 (λ e. omega (arith, f.2, e)) in
    rw f.3 ne
line_avoids (Delete id ids) rest l =
    let f = decimal_first 4294967295 id (omega (arith, l.0.1)) (omega arith) in
    let ne : eqb f.0 46 ≡ false = ne_eqb f.0 46 (λ e. omega (arith, f.2, e)) in
    rw f.3 ne

line_begins : NeverBegins 46 OfLine
line_begins t x rest (line, a, b, spelled, last, whole) =
    rw (whole, last.0, append-nil a, spelled.spells) (line_avoids line rest spelled.within)

item_to : (t : List ℕ) (x : Option Line) → After (46 ∷ []) OfDot t x ⊎ OfLine t x → IsItem t x
item_to t x (inl (a, (b, last, p2), p1)) = rw last.1 (rw (p1, p2, last.0) refl)
item_to t x (inr (line, a, b, spelled, last, whole)) = rw (last.1, whole, last.0, append-nil a) spelled

item_from : (t : List ℕ) (x : Option Line) → IsItem t x → After (46 ∷ []) OfDot t x ⊎ OfLine t x
item_from t None r = inl (10 ∷ [], ([], (refl, refl), refl), r)
item_from t (Some line) r = inr (line, t, [], r, (refl, refl), sym (append-nil t))

pub item_reads : Reads item_at IsItem
unfolding item_at
item_reads =
    reads_as IsItem
    (reads_choice 46 (reads_after (skips_byte 10) (reads_nothing {A = Option Line} None)) (reads_then line_reads (λ line. reads_nothing {A = Option Line} (Some line))) line_begins)
    item_to item_from

-- a line that was read is without zeros and in the limits
pub item_line : (rest after : List ℕ) (line : Line) → item_at rest ≡ Some (Some line, after) → IsLine line
item_line rest after line e = (item_reads.sound rest (Some line) after e).1.within

pub item_takes : TakesSome IsItem
item_takes t line s = line_takes t line s

-- ---- a section

-- the text of a section with this letter, of lines in their limits
abbrev pub IsSection : ℕ → List ℕ → List Line → Type 0
IsSection letter = IsText (All IsLine) (section_text letter)

abbrev OfSection : ℕ → List ℕ → List Line → Type 0
OfSection letter = After (letter ∷ []) (After (10 ∷ []) (EachUntil IsItem))

line_to : (t : List ℕ) (line : Line) → SpellsLine t line → IsText IsLine line_text t line
line_to t line s = (s.spells, s.within)

line_from : (t : List ℕ) (line : Line) → IsText IsLine line_text t line → SpellsLine t line
line_from t line r = record { spells = r.0; within = r.1 }

section_to : (letter : ℕ) (t : List ℕ) (lines : List Line) → OfSection letter t lines → IsSection letter t lines
section_to letter t lines (a, (b, (front, end, each, dot, p3), p2), p1) =
    let r = each_to IsLine line_text SpellsLine line_to front lines each in
    (rw (p1, p2, p3, r.0, dot) refl, r.1)

section_from : (letter : ℕ) (t : List ℕ) (lines : List Line) → IsSection letter t lines → OfSection letter t lines
section_from letter t lines (whole, all) =
    let rest : List ℕ = proof_text lines ++ 46 ∷ 10 ∷ [] in
    (10 ∷ rest, (rest, (proof_text lines, 46 ∷ 10 ∷ [], each_from IsLine line_text SpellsLine line_from lines all, refl, refl), refl), whole)

pub section_reads : (letter : ℕ) → Reads (section_at letter) (IsSection letter)
unfolding section_at
section_reads letter =
    reads_as (IsSection letter) (reads_after (skips_byte letter) (reads_after (skips_byte 10) (items_reads item_reads item_takes))) (section_to letter) (section_from letter)

-- ---- the lemmas

-- the version of a text with these lemmas
abbrev pub version_of : Option (List Line) → Version
version_of None = One
version_of (Some lemmas) = Two

-- the section of the lemmas, of lines in their limits, in a text of this version
pub record IsLemmas (v : Version) (t : List ℕ) (lemmas : Option (List Line)) : Type 0 where
  pub version : v ≡ version_of lemmas
  pub spells : t ≡ lemma_text lemmas
  pub lines : IfSome lemmas (All IsLine)

abbrev WithoutLemmas : List ℕ → Option (List Line) → Type 0
WithoutLemmas = Nothing {A = Option (List Line)} None

abbrev WithLemmas : List ℕ → Option (List Line) → Type 0
WithLemmas = Then (IsSection 108) (λ lemmas. Nothing {A = Option (List Line)} (Some lemmas))

without_to : (t : List ℕ) (lemmas : Option (List Line)) → WithoutLemmas t lemmas → IsLemmas One t lemmas
without_to t lemmas r = rw r.1 (record { version = refl; spells = r.0; lines = tt })

without_from : (t : List ℕ) (lemmas : Option (List Line)) → IsLemmas One t lemmas → WithoutLemmas t lemmas
without_from t None r = (r.spells, refl)
without_from t (Some lemmas) r = let same : One ≡ Two = r.version in absurd cc

with_to : (t : List ℕ) (lemmas : Option (List Line)) → WithLemmas t lemmas → IsLemmas Two t lemmas
with_to t lemmas (lines, a, b, (spells, all), last, whole) = rw last.1 (record { version = refl; spells = rw (whole, last.0, append-nil a) spells; lines = all })

with_from : (t : List ℕ) (lemmas : Option (List Line)) → IsLemmas Two t lemmas → WithLemmas t lemmas
with_from t None r = let same : Two ≡ One = r.version in absurd cc
with_from t (Some lemmas) r = (lemmas, t, [], (r.spells, r.lines), (refl, refl), sym (append-nil t))

pub lemmas_reads : (v : Version) → Reads (lemmas_at v) (IsLemmas v)
unfolding lemmas_at
lemmas_reads One = reads_as (IsLemmas One) (reads_nothing {A = Option (List Line)} None) without_to without_from
lemmas_reads Two = reads_as (IsLemmas Two) (reads_then (section_reads 108) (λ lemmas. reads_nothing {A = Option (List Line)} (Some lemmas))) with_to with_from

-- ---- all sections

-- the sections for n clauses, of lines in their limits
pub record IsSections (n : ℕ) (t : List ℕ) (proofs : List (List Line)) : Type 0 where
  pub count : length proofs ≡ 2 * n + 1
  pub spells : t ≡ sections_text n proofs
  pub lines : All (All IsLine) proofs

abbrev OfSections : ℕ → List ℕ → List (List Line) → Type 0
OfSections n =
    Then (Many (IsSection 105) n) (λ initial.
    Then (Many (IsSection 115) n) (λ steps.
    Then (IsSection 98) (λ bad.
    Nothing {A = List (List Line)} (initial ++ steps ++ bad ∷ []))))

-- the texts of the three kinds
by_kind : (initial steps others : List (List Line)) (n : ℕ) → length initial ≡ n → length steps ≡ n
    → sections_text n (initial ++ steps ++ others) ≡ flat_map (section_text 105) initial ++ (flat_map (section_text 115) steps ++ flat_map (section_text 98) others)
by_kind initial steps others n one two =
    let first : take n (initial ++ (steps ++ others)) ≡ initial = rw (← one) (take-append_seam initial (steps ++ others)) in
    let behind : drop n (initial ++ (steps ++ others)) ≡ steps ++ others = rw (← one) (drop-append_seam initial (steps ++ others)) in
    let second : take n (steps ++ others) ≡ steps = rw (← two) (take-append_seam steps others) in
    let last : drop n (steps ++ others) ≡ others = rw (← two) (drop-append_seam steps others) in
    let third : drop (n + n) (initial ++ (steps ++ others)) ≡ others = ap (λ k. drop (k + n) (initial ++ (steps ++ others))) (sym one) ∙ drop-append-add initial (steps ++ others) n ∙ last in
    rw (append_assoc initial steps others, first, behind, second, third)
    (append_assoc (flat_map (section_text 105) initial) (flat_map (section_text 115) steps) (flat_map (section_text 98) others))

sections_to : (n : ℕ) (t : List ℕ) (proofs : List (List Line)) → OfSections n t proofs → IsSections n t proofs
sections_to n t proofs (initial, a, b, (one, is), (steps, c, d, (two, ss), (bad, e, f, (spells, all), last, p3), p2), p1) =
    let i = each_to (All IsLine) (section_text 105) (IsSection 105) (λ t x r. r) a initial is in
    let s = each_to (All IsLine) (section_text 115) (IsSection 115) (λ t x r. r) c steps ss in
    rw last.1 (record {
      count = omega (arith, one, two, length-append (initial ++ steps) (bad ∷ []), length-append initial steps);
      spells = rw (by_kind initial steps (bad ∷ []) n one two, p1, p2, p3, last.0, i.0, s.0, spells) (simp append-nil);
      lines = All-append (All IsLine) (initial ++ steps) (bad ∷ []) (All-append (All IsLine) initial steps i.1 s.1) (All-cons (All IsLine) bad [] all (All-nil (All IsLine)));
    })

-- the one item of a list
only_one : {A : Type 0} (xs : List A) → length xs ≡ 1 → (x : A) × (xs ≡ x ∷ [])
only_one [] e = absurd (omega (arith, e))
only_one (x ∷ []) e = (x, refl)
only_one (x ∷ y ∷ ys) e = absurd (omega (arith, e))

sections_of : (n : ℕ) (t : List ℕ) (initial steps : List (List Line)) (bad : List Line) → length initial ≡ n → length steps ≡ n → All (All IsLine) initial → All (All IsLine) steps → All IsLine bad
    → t ≡ sections_text n (initial ++ steps ++ bad ∷ []) → OfSections n t (initial ++ steps ++ bad ∷ [])
sections_of n t initial steps bad one two is ss b whole =
    let first : List ℕ = flat_map (section_text 105) initial in
    let second : List ℕ = flat_map (section_text 115) steps in
    let last : List ℕ = section_text 98 bad in (
      initial,
      first,
      second ++ last,
      (one, each_from (All IsLine) (section_text 105) (IsSection 105) (λ t x r. r) initial is),
      (
        steps,
        second,
        last,
        (two, each_from (All IsLine) (section_text 115) (IsSection 115) (λ t x r. r) steps ss),
        (bad, last, [], (refl, b), (refl, refl), sym (append-nil last)),
        refl,
      ),
      whole ∙ by_kind initial steps (bad ∷ []) n one two ∙ ap (λ w. first ++ (second ++ w)) (append-nil last),
    )

sections_cut : (n : ℕ) (t : List ℕ) (proofs : List (List Line)) (bad : List Line) → drop n (drop n proofs) ≡ bad ∷ [] → IsSections n t proofs → OfSections n t proofs
sections_cut n t proofs bad end r =
    let later : List (List Line) = drop n proofs in
    let one : length (take n proofs) ≡ n = length-take-le n proofs (omega (arith, r.count)) in
    let two : length (take n later) ≡ n = length-take-le n later (omega (arith, length-drop n proofs, r.count)) in
    let whole : take n proofs ++ take n later ++ bad ∷ [] ≡ proofs =
    append_assoc (take n proofs) (take n later) (bad ∷ [])
    ∙ ap (λ w. take n proofs ++ (take n later ++ w)) (sym end)
    ∙ ap (λ w. take n proofs ++ w) (take-append-drop n later)
    ∙ take-append-drop n proofs in
    let all : All (All IsLine) later = All-drop (All IsLine) n proofs r.lines in
    let last : All (All IsLine) (bad ∷ []) = rw end at (All-drop (All IsLine) n later all) in
    subst (OfSections n t) whole
    (sections_of n t (take n proofs) (take n later) bad one two (All-take (All IsLine) n proofs r.lines) (All-take (All IsLine) n later all) (All-head (All IsLine) bad [] last)
    (r.spells ∙ ap (sections_text n) (sym whole)))

sections_from : (n : ℕ) (t : List ℕ) (proofs : List (List Line)) → IsSections n t proofs → OfSections n t proofs
sections_from n t proofs r =
    let bad = only_one (drop n (drop n proofs)) (omega (arith, length-drop n (drop n proofs), length-drop n proofs, r.count)) in
    sections_cut n t proofs bad.0 bad.1 r

pub sections_reads : (n : ℕ) → Reads (sections_at n) (IsSections n)
unfolding sections_at
sections_reads n =
    reads_as (IsSections n)
    (reads_then (many_reads (section_reads 105) n) (λ initial.
    reads_then (many_reads (section_reads 115) n) (λ steps.
    reads_then (section_reads 98) (λ bad.
    reads_nothing {A = List (List Line)} (initial ++ steps ++ bad ∷ [])))))
    (sections_to n) (sections_from n)
