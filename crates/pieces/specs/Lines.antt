-- Lines that are read from the pieces of a text.
use Rattle.std.specs.Prelude.{◌≡◌, ℕ, List, [], ◌∷◌, ◌++◌, Some, None, Result, Ok, Err}
use Rattle.base.specs.Witness.{witness}
use Rattle.scan.specs.Reading.{◌>>=◌, Read, ended}
use Rattle.scan.specs.declared.fault.Fault.TheVariants.{Memory, Text}
use Rattle.pieces.specs.Pieces.{piece_at}
use Rattle.pieces.specs.declared.line_error.LineError.{LineError}
use Rattle.pieces.specs.declared.line_error.LineError.TheVariants.{Refused, Device}
use Rattle.pieces.specs.declared.pieces.PieceError.{PieceError}
use Rattle.pieces.specs.declared.pieces.PieceError.TheVariants as piece

-- what is read so is read from the next piece alone, takes some byte, and does not begin with a byte 0
pub record IsOfPiece {A : Type 0} (p : List ℕ → Read A) : Type 0 where
  pub from_piece : (bytes : List ℕ) → p bytes ≡ (ended (p (piece_at bytes).0) >>= λ x. Some (x, (piece_at bytes).1))
  pub takes : ended (p []) ≡ None
  pub begins : ended (p (0 ∷ [])) ≡ None

-- nothing more
unfoldable pub end_at : List ℕ → Read (Unit {0})
end_at [] = Some (tt, [])
end_at (c ∷ cs) = None

-- what it is for a reader of lines that no piece comes
abbrev pub of_piece : {K : Type 0} → PieceError → LineError K
of_piece (piece.OutOfMemory refused) = Refused 0 (Memory witness)
of_piece piece.Device = Device

-- out of memory and a failing device aside, this holds of a refusal
abbrev pub ForText : {K : Type 0} → LineError K → Type 0 → Type 0
ForText (Refused length (Memory refused)) P = Unit {0}
ForText (Refused length (Text kind left)) P = P
ForText Device P = Unit {0}

-- what is read was answered, and what follows it are the bytes that are held, and then the later ones; or nothing is read
abbrev pub Finds : {K A : Type 0} → Read A → Result A (LineError K) → List ℕ → List ℕ → Type 0
Finds read (Ok x) held later = read ≡ Some (x, held ++ later)
Finds read (Err e) held later = ForText e (read ≡ None)

-- an answer, with what was read into a buffer
abbrev pub with_buffer : {E X B V : Type 0} → (X → B → V) → Result X E → B → Result V E
with_buffer seen (Ok x) buffer = Ok (seen x buffer)
with_buffer seen (Err e) buffer = Err e
