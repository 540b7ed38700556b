-- Lines are read from the piece that comes next.
use Rattle.std.proofs.Common.{◌≡◌, ℕ, ◌<◌, Bool, true, false, List, [], ◌∷◌, Option, Some, None, refl, arith}
use Rattle.std.specs.Prelude.{flat_map}
use Rattle.scan.specs.Lists.{items_at}
use Rattle.graph.specs.declared.circuit.Property.{Property as AProperty}
use Rattle.graph.specs.declared.circuit.Property.TheVariants.{Bad, Justice, Output}
use Rattle.graph.specs.Circuits.{position_of, property_text}
use Rattle.pieces.specs.Lines.{IsOfPiece}
use Rattle.pieces.specs.Pieces.{is_inner, GoesOn}
use Rattle.pieces.proofs.LineLaws.{of_piece}
use Rattle.pieces.proofs.LineTexts.{IsLineText, goes_number}
use Rattle.pieces.proofs.PieceLaws.{goes_nil, goes_one, goes_append}
use Rattle.stimulus.specs.Reading.{line_at, property_at, value_at}
use Rattle.stimulus.specs.Texts.{value_text}
use Rattle.replay.specs.declared.kinds.Status.{Status}
use Rattle.replay.specs.declared.kinds.Status.TheVariants.{Holds, Violated, Unknown}
use Rattle.replay.specs.Reading.{dot_at, status_at}
use Rattle.replay.proofs.TextLaws.{IsDotLine, IsInput, IsLine, IsPropertyLine, IsStatusLine, dot_reads, line_reads, property_reads, status_digit, status_reads, values_reads}

-- ---- what is a line

goes_property : (p : AProperty) → position_of p < 4294967296 → GoesOn (property_text p)
goes_property (Bad n) lt = goes_number 98 n refl (omega (arith, lt))
goes_property (Justice n) lt = goes_number 106 n refl (omega (arith, lt))
goes_property (Output n) lt = goes_number 111 n refl (omega (arith, lt))

goes_values : (values : List Bool) → GoesOn (flat_map value_text values)
goes_values [] = goes_nil
goes_values (true ∷ values) = goes_append (49 ∷ []) (flat_map value_text values) (goes_one 49 refl) (goes_values values)
goes_values (false ∷ values) = goes_append (48 ∷ []) (flat_map value_text values) (goes_one 48 refl) (goes_values values)

status_inner : (s : Status) → is_inner (status_digit s) ≡ true
status_inner Holds = refl
status_inner Violated = refl
status_inner Unknown = refl

status_is_line : (t : List ℕ) (s : Status) → IsStatusLine t s → IsLineText t
status_is_line t s e = (status_digit s ∷ [], goes_one (status_digit s) (status_inner s), e)

property_is_line : (t : List ℕ) (p : AProperty) → IsPropertyLine t p → IsLineText t
property_is_line t p (spells, within) = (property_text p, goes_property p (omega (arith, within)), spells)

dot_is_line : (t : List ℕ) (u : Unit {0}) → IsDotLine t u → IsLineText t
dot_is_line t u e = (46 ∷ [], goes_one 46 refl, e)

values_is_line : (t : List ℕ) (values : List Bool) → IsLine t values → IsLineText t
values_is_line t values e = (flat_map value_text values, goes_values values, e)

input_is_line : (t : List ℕ) (x : Option (List Bool)) → IsInput t x → IsLineText t
input_is_line t None e = (46 ∷ [], goes_one 46 refl, e)
input_is_line t (Some values) e = values_is_line t values e

-- ---- a line is read from its piece

pub status_of_piece : IsOfPiece status_at
status_of_piece = of_piece status_reads status_is_line

pub property_of_piece : IsOfPiece property_at
property_of_piece = of_piece property_reads property_is_line

pub dot_of_piece : IsOfPiece dot_at
dot_of_piece = of_piece dot_reads dot_is_line

pub values_of_piece : IsOfPiece (items_at value_at)
values_of_piece = of_piece values_reads values_is_line

pub input_of_piece : IsOfPiece line_at
input_of_piece = of_piece line_reads input_is_line
