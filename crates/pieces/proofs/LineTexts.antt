-- A line is a piece.
use Rattle.std.proofs.Common.{◌≡◌, ℕ, ◌+◌, ◌^◌, ◌<◌, ◌%◌, Bool, true, ◌&&◌, leb, List, [], ◌∷◌, ◌++◌, All, refl, ap, ◌∙◌, append_assoc, arith}
use Rattle.std.specs.Prelude.{decimal, flat_map}
use Rattle.std.proofs.lemmas.Bool.{and_parts, le-leb}
use Rattle.std.proofs.lemmas.List.Elements.{All-head, All-tail}
use Rattle.std.proofs.lemmas.Fmt.{decimal_by_steps}
use Rattle.pieces.specs.Pieces.{is_inner, piece_at, GoesOn}
use Rattle.pieces.proofs.PieceLaws.{goes_nil, goes_one, goes_append}

-- bytes that may stand in a line before its end, and the line end
abbrev pub IsLineText : List ℕ → Type 0
IsLineText t = (body : List ℕ) × GoesOn body × (t ≡ body ++ 10 ∷ [])

digit_inner : (d : ℕ) → d < 10 → is_inner (48 + d) ≡ true
digit_inner d lt =
    let low : leb 48 (48 + d) ≡ true = le-leb 48 (48 + d) (omega arith) in
    let high : leb (48 + d) 57 ≡ true = le-leb (48 + d) 57 (omega arith) in
    rw (low, high) refl

pub goes_decimal : (n : ℕ) → n < 2 ^ 64 → GoesOn (decimal n)
goes_decimal n lt =
    decimal_by_steps (λ n ds. GoesOn ds)
    (λ n lt. goes_one (48 + n) (digit_inner n lt))
    (λ n ds ge before. goes_append ds ((48 + n % 10) ∷ []) before (goes_one (48 + n % 10) (digit_inner (n % 10) (omega arith))))
    n lt

-- a letter and a number
pub goes_number : (c n : ℕ) → is_inner c ≡ true → n < 2 ^ 64 → GoesOn (c ∷ decimal n)
goes_number c n inner lt = goes_append (c ∷ []) (decimal n) (goes_one c inner) (goes_decimal n lt)

pub goes_each : {A : Type 0} (P : A → Type 0) (text : A → List ℕ) → ((x : A) → P x → GoesOn (text x)) → (xs : List A) → All P xs → GoesOn (flat_map text xs)
goes_each P text goes [] all = goes_nil
goes_each P text goes (x ∷ xs) all = goes_append (text x) (flat_map text xs) (goes x (All-head P x xs all)) (goes_each P text goes xs (All-tail P x xs all))

abbrev all_inner : List ℕ → Bool
all_inner [] = true
all_inner (c ∷ cs) = is_inner c && all_inner cs

pub goes_all : (cs : List ℕ) → all_inner cs ≡ true → GoesOn cs
goes_all [] e = goes_nil
goes_all (c ∷ cs) e = let p = and_parts (is_inner c) (all_inner cs) e in goes_append (c ∷ []) cs (goes_one c p.0) (goes_all cs p.1)

-- it is the piece that comes next
pub piece_of_line : (body rest : List ℕ) → GoesOn body → piece_at ((body ++ 10 ∷ []) ++ rest) ≡ (body ++ 10 ∷ [], rest)
unfolding piece_at
piece_of_line body rest goes = ap piece_at (append_assoc body (10 ∷ []) rest) ∙ goes (10 ∷ rest)
