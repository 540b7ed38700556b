-- Lines are read from the piece that comes next.
use Rattle.std.proofs.Common.{◌≡◌, ℕ, ◌<◌, List, [], ◌∷◌, ◌++◌, length, refl, ◌∙◌, append_assoc, arith}
use Rattle.std.specs.Prelude.{decimal, codes, flat_map}
use Rattle.graph.specs.declared.circuit.Latch.{Latch}
use Rattle.graph.specs.declared.circuit.Gate.{Gate}
use Rattle.graph.specs.declared.circuit.Property.{Property}
use Rattle.graph.specs.declared.circuit.Property.TheVariants.{Bad, Justice, Output}
use Rattle.graph.specs.Circuits.{position_of, property_text}
use Rattle.pieces.specs.Pieces.{GoesOn}
use Rattle.pieces.proofs.PieceLaws.{goes_one, goes_append}
use Rattle.pieces.specs.Lines.{IsOfPiece}
use Rattle.pieces.proofs.LineLaws.{of_piece}
use Rattle.pieces.proofs.LineTexts.{IsLineText, goes_all, goes_decimal, goes_each}
use Rattle.certificate.proofs.LineLaws.{goes_property}
use Rattle.certificate3.specs.declared.claim.Claim.{Claim}
use Rattle.certificate3.specs.declared.sizes.Sizes.{Sizes}
use Rattle.certificate3.specs.Reading.{first_line_at, claim_at, sizes_at, latch_at, gate_at, hints_at}
use Rattle.certificate3.specs.Texts.{claim_text, HasRounds}
use Rattle.certificate3.proofs.LineLaws.{IsFirstLine, first_line_reads, IsClaimLine, claim_reads, IsSizesLine, sizes_reads, IsLatchLine, latch_reads, IsGateLine, gate_reads}
use Rattle.certificate3.proofs.HintLaws.{IsHintsLine, hints_reads}

first_is_line : (t : List ℕ) (u : Unit {0}) → IsFirstLine t u → IsLineText t
first_is_line t u s = (codes "aigcert 3", goes_all (codes "aigcert 3") refl, s)

-- a number, a space, and what goes on
goes_spaced : (n : ℕ) (body : List ℕ) → n < 4294967296 → GoesOn body → GoesOn (decimal n ++ (codes " " ++ body))
goes_spaced n body lt goes = goes_append (decimal n) (codes " " ++ body) (goes_decimal n (omega (arith, lt))) (goes_append (codes " ") body (goes_one 32 refl) goes)

claim_is_line_of : (p : Property) (k : ℕ) (t : List ℕ) → t ≡ claim_text p k → position_of p < 4294967296 → HasRounds p k → IsLineText t
claim_is_line_of (Bad n) k t spells position rounds = (property_text (Bad n), goes_property (Bad n) position, spells)
claim_is_line_of (Justice n) k t spells position rounds =
    let first : List ℕ = property_text (Justice n) in
    let behind : List ℕ = codes " " ++ decimal k in (
      first ++ behind,
      goes_append first behind (goes_property (Justice n) position) (goes_append (codes " ") (decimal k) (goes_one 32 refl) (goes_decimal k (omega (arith, rounds)))),
      spells ∙ simp append_assoc,
    )
claim_is_line_of (Output n) k t spells position rounds = (property_text (Output n), goes_property (Output n) position, spells)

claim_is_line : (t : List ℕ) (c : Claim) → IsClaimLine t c → IsLineText t
claim_is_line t c (spells, is) = claim_is_line_of c.property c.rounds t spells is.position is.rounds

sizes_is_line : (t : List ℕ) (s : Sizes) → IsSizesLine t s → IsLineText t
sizes_is_line t s r =
    let latches = r.latches in let gates = r.gates in (
      decimal s.latches ++ (codes " " ++ decimal s.gates),
      goes_spaced s.latches (decimal s.gates) (omega (arith, latches)) (goes_decimal s.gates (omega (arith, gates))),
      r.spells ∙ simp append_assoc,
    )

three_is_line : (a b c : ℕ) (t : List ℕ) → t ≡ decimal a ++ codes " " ++ decimal b ++ codes " " ++ decimal c ++ codes "\n" → a < 4294967296 → b < 4294967296 → c < 4294967296 → IsLineText t
three_is_line a b c t spells a_small b_small c_small = (
  decimal a ++ (codes " " ++ (decimal b ++ (codes " " ++ decimal c))),
  goes_spaced a (decimal b ++ (codes " " ++ decimal c)) a_small (goes_spaced b (decimal c) b_small (goes_decimal c (omega (arith, c_small)))),
  spells ∙ simp append_assoc,
)

latch_is_line : (t : List ℕ) (l : Latch) → IsLatchLine t l → IsLineText t
latch_is_line t l (spells, words) = three_is_line l.lit.0 l.next.0 l.reset.0 t spells words.lit words.next words.reset

gate_is_line : (t : List ℕ) (g : Gate) → IsGateLine t g → IsLineText t
gate_is_line t g (spells, words) = three_is_line g.lhs.0 g.rhs0.0 g.rhs1.0 t spells words.lhs words.rhs0 words.rhs1

hints_is_line : (t ids : List ℕ) → IsHintsLine t ids → IsLineText t
hints_is_line t ids (spells, hints) =
    let count : List ℕ = decimal (length ids) in
    let others : List ℕ = flat_map (λ (n : ℕ). codes " " ++ decimal n) ids in
    let short = hints.short in (
      count ++ others,
      goes_append count others (goes_decimal (length ids) (omega (arith, short)))
          (goes_each (λ (n : ℕ). n < 4294967296) (λ (n : ℕ). codes " " ++ decimal n) (λ n lt. goes_append (32 ∷ []) (decimal n) (goes_one 32 refl) (goes_decimal n (omega (arith, lt)))) ids hints.words),
      spells,
    )

pub first_line_of_piece : IsOfPiece first_line_at
first_line_of_piece = of_piece first_line_reads first_is_line

pub claim_of_piece : IsOfPiece claim_at
claim_of_piece = of_piece claim_reads claim_is_line

pub sizes_of_piece : IsOfPiece sizes_at
sizes_of_piece = of_piece sizes_reads sizes_is_line

pub latch_of_piece : IsOfPiece latch_at
latch_of_piece = of_piece latch_reads latch_is_line

pub gate_of_piece : IsOfPiece gate_at
gate_of_piece = of_piece gate_reads gate_is_line

pub hints_of_piece : IsOfPiece hints_at
hints_of_piece = of_piece hints_reads hints_is_line
