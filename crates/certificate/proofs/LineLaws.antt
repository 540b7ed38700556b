-- Lines are read from the piece that comes next.
use Rattle.std.proofs.Common.{◌≡◌, ℕ, suc, ◌<◌, true, List, [], ◌∷◌, ◌++◌, length, Option, Some, None, All, ℤ, pos, negsuc, refl, ◌∙◌, append_assoc, arith, unsigned_abs}
use Rattle.std.specs.Prelude.{decimal, codes, flat_map}
use Rattle.std.specs.Fmt.{signed_decimal}
use Rattle.scan.specs.Reading.{ended}
use Rattle.scan.specs.Words.{any, field_at, IsField}
use Rattle.scan.proofs.Toolbox.{Reads, reads_as, reads_nothing, reads_after, skips_byte, ended_takes}
use Rattle.scan.proofs.WordLaws.{field_reads}
use Rattle.graph.specs.declared.circuit.Lit.{Lit}
use Rattle.graph.specs.declared.circuit.Property.{Property as AProperty}
use Rattle.graph.specs.declared.circuit.Property.TheVariants.{Bad, Justice, Output}
use Rattle.graph.specs.Circuits.{position_of, property_text}
use Rattle.pieces.specs.Lines.{IsOfPiece}
use Rattle.pieces.specs.Pieces.{is_inner, GoesOn}
use Rattle.pieces.proofs.LineLaws.{of_piece}
use Rattle.pieces.proofs.LineTexts.{IsLineText, goes_all, goes_decimal, goes_each, goes_number}
use Rattle.pieces.proofs.PieceLaws.{goes_one, goes_append}
use Rattle.lrat.specs.Limits.{IsId, IsHint, IsLine}
use Rattle.lrat.specs.Literals.{IsLiteral}
use Rattle.lrat.specs.Texts.{SpellsLine, spaced}
use Rattle.lrat.specs.declared.line.Line.{Line as ALine}
use Rattle.lrat.specs.declared.line.Line.TheVariants.{Add, Delete}
use Rattle.certificate.specs.declared.head.Version.{Version}
use Rattle.certificate.specs.declared.head.Version.TheVariants as version
use Rattle.certificate.specs.declared.kinds.SectionKind.{SectionKind}
use Rattle.certificate.specs.declared.kinds.SectionKind.TheVariants as kind
use Rattle.certificate.specs.Reading.{greatest, first_line_at, property_at, clause_at, item_at}
use Rattle.certificate.specs.Streams.{letter_at, letter_of}
use Rattle.certificate.proofs.HeadLaws.{IsFirstLine, IsPropertyLine, IsClauseLine, first_line_reads, property_reads, clause_reads}
use Rattle.certificate.proofs.SectionLaws.{IsItem, item_reads}

-- ---- what is a line

-- a number, and then others
goes_signed : (z : ℤ) → unsigned_abs z < 4294967296 → GoesOn (signed_decimal z)
goes_signed (pos n) lt = goes_decimal n (omega (arith, lt))
goes_signed (negsuc n) lt = goes_append (45 ∷ []) (decimal (suc n)) (goes_one 45 refl) (goes_decimal (suc n) (omega (arith, lt)))

goes_spaced : {A : Type 0} (P : A → Type 0) (text : A → List ℕ) → ((x : A) → P x → GoesOn (text x)) → (xs : List A) → All P xs → GoesOn (spaced text xs)
goes_spaced P text goes xs all = goes_each P (λ x. text x ++ codes " ") (λ x p. goes_append (text x) (32 ∷ []) (goes x p) (goes_one 32 refl)) xs all

pub goes_property : (p : AProperty) → position_of p < 4294967296 → GoesOn (property_text p)
goes_property (Bad n) lt = goes_number 98 n refl (omega (arith, lt))
goes_property (Justice n) lt = goes_number 106 n refl (omega (arith, lt))
goes_property (Output n) lt = goes_number 111 n refl (omega (arith, lt))

version_is_line : (t : List ℕ) (v : Version) → IsFirstLine t v → IsLineText t
version_is_line t version.One s = (codes "aigcert 1", goes_all (codes "aigcert 1") refl, s)
version_is_line t version.Two s = (codes "aigcert 2", goes_all (codes "aigcert 2") refl, s)

property_is_line : (t : List ℕ) (p : AProperty) → IsPropertyLine t p → IsLineText t
property_is_line t p (spells, within) = (property_text p, goes_property p within, spells)

count_is_line : (t : List ℕ) (n : ℕ) → IsField greatest any 10 t n → IsLineText t
count_is_line t n field = let within = field.within in (decimal n, goes_decimal n (omega (arith, within)), field.spells)

clause_is_line : (t : List ℕ) (c : List Lit) → IsClauseLine t c → IsLineText t
clause_is_line t c (spells, (few, small)) =
    let count : List ℕ = decimal (length c) in
    let literals : List ℕ = flat_map (λ (a : Lit). codes " " ++ decimal a.0) c in (
      count ++ literals,
      goes_append count literals (goes_decimal (length c) (omega (arith, few)))
          (goes_each (λ (a : Lit). a.0 < 4294967296) (λ (a : Lit). codes " " ++ decimal a.0) (λ a lt. goes_append (32 ∷ []) (decimal a.0) (goes_one 32 refl) (goes_decimal a.0 (omega (arith, lt)))) c small),
      spells,
    )

proof_line_is_line : (t : List ℕ) (line : ALine) → SpellsLine t line → IsLineText t
proof_line_is_line t (Add id clause hints) s =
    let first : List ℕ = decimal id in
    let literals : List ℕ = spaced signed_decimal clause in
    let others : List ℕ = spaced signed_decimal hints in
    let end : List ℕ = others ++ 48 ∷ [] in
    let goes_end : GoesOn end = goes_append others (48 ∷ []) (goes_spaced IsHint signed_decimal (λ z l. goes_signed z l.1) hints s.within.2) (goes_one 48 refl) in
    let goes_middle : GoesOn (literals ++ ((48 ∷ 32 ∷ []) ++ end)) =
    goes_append literals ((48 ∷ 32 ∷ []) ++ end) (goes_spaced (IsLiteral 2147483647) signed_decimal (λ z l. goes_signed z (omega (arith, l.1))) clause s.within.1)
    (goes_append (48 ∷ 32 ∷ []) end (goes_all (48 ∷ 32 ∷ []) refl) goes_end) in (
      first ++ ((32 ∷ []) ++ (literals ++ ((48 ∷ 32 ∷ []) ++ end))),
      goes_append first ((32 ∷ []) ++ (literals ++ ((48 ∷ 32 ∷ []) ++ end))) (goes_decimal id (omega (arith, s.within.0.1)))
          (goes_append (32 ∷ []) (literals ++ ((48 ∷ 32 ∷ []) ++ end)) (goes_one 32 refl) goes_middle),
      s.spells ∙ simp append_assoc,
    )
proof_line_is_line t (Delete id ids) s =
    let first : List ℕ = decimal id in
    let others : List ℕ = spaced decimal ids in
    let end : List ℕ = others ++ 48 ∷ [] in
    let goes_end : GoesOn end = goes_append others (48 ∷ []) (goes_spaced IsId decimal (λ n l. goes_decimal n (omega (arith, l.1))) ids s.within.1) (goes_one 48 refl) in (
      first ++ ((32 ∷ 100 ∷ 32 ∷ []) ++ end),
      goes_append first ((32 ∷ 100 ∷ 32 ∷ []) ++ end) (goes_decimal id (omega (arith, s.within.0.1)))
          (goes_append (32 ∷ 100 ∷ 32 ∷ []) end (goes_all (32 ∷ 100 ∷ 32 ∷ []) refl) goes_end),
      s.spells ∙ simp append_assoc,
    )

item_is_line : (t : List ℕ) (x : Option ALine) → IsItem t x → IsLineText t
item_is_line t None s = (46 ∷ [], goes_one 46 refl, s)
item_is_line t (Some line) s = proof_line_is_line t line s

-- the line of a letter
abbrev IsLetterLine : SectionKind → List ℕ → Unit {0} → Type 0
IsLetterLine k t u = t ≡ letter_of k ∷ 10 ∷ []

letter_reads : (k : SectionKind) → Reads (letter_at k) (IsLetterLine k)
unfolding letter_at
letter_reads k =
    reads_as (IsLetterLine k)
    (reads_after (skips_byte (letter_of k)) (reads_after (skips_byte 10) (reads_nothing {A = Unit {0}} tt)))
    (λ t x (a, (b, last, p2), p1). rw (p1, p2, last.0) refl)
    (λ t x s. (10 ∷ [], ([], (refl, refl), refl), s))

letter_inner : (k : SectionKind) → is_inner (letter_of k) ≡ true
letter_inner kind.Lemmas = refl
letter_inner kind.Initial = refl
letter_inner kind.Step = refl
letter_inner kind.Bad = refl

letter_is_line : (k : SectionKind) (t : List ℕ) (u : Unit {0}) → IsLetterLine k t u → IsLineText t
letter_is_line k t u s = (letter_of k ∷ [], goes_one (letter_of k) (letter_inner k), s)

-- ---- a line is read from its piece

pub version_of_piece : IsOfPiece first_line_at
version_of_piece = of_piece first_line_reads version_is_line

pub property_of_piece : IsOfPiece property_at
property_of_piece = of_piece property_reads property_is_line

pub count_of_piece : IsOfPiece (field_at greatest any 10)
count_of_piece = of_piece (field_reads greatest any 10 (omega arith) refl) count_is_line

pub clause_of_piece : IsOfPiece clause_at
clause_of_piece = of_piece clause_reads clause_is_line

pub letter_of_piece : (k : SectionKind) → IsOfPiece (letter_at k)
letter_of_piece k = of_piece (letter_reads k) (letter_is_line k)

pub line_of_piece : IsOfPiece item_at
line_of_piece = of_piece item_reads item_is_line

-- ---- what is read of a whole line

pub count_few : (t : List ℕ) (n : ℕ) → ended (field_at greatest any 10 t) ≡ Some n → n < 4194304
count_few t n e = let within = (ended_takes (field_reads greatest any 10 (omega arith) refl) t n e).within in omega (arith, within)

pub line_within : (t : List ℕ) (line : ALine) → ended (item_at t) ≡ Some (Some line) → IsLine line
line_within t line e = (ended_takes item_reads t (Some line) e).within
