-- Positions as they are read.
use Rattle.std.proofs.Common.{◌≡◌, ℕ, ◌^◌, ◌<◌, List, [], ◌∷◌, ◌++◌, length, decimal, Some, Result, Ok, Err, refl, sym, ◌∙◌, ap, arith}
use Rattle.std.proofs.lemmas.List.{append-nil}
use Rattle.scan.specs.declared.fault.Fault.{Fault}
use Rattle.scan.specs.declared.fault.Fault.TheVariants.{Memory, Text}
use Rattle.scan.specs.Numbers.{number_at}
use Rattle.scan.specs.Reading.{Gives}
use Rattle.scan.specs.Refusals.{IsPlaced}
use Rattle.scan.proofs.NumberLaws.{number_takes, number_again}

empty : (xs : List ℕ) → length xs ≡ 0 → xs ≡ []
empty [] e = refl
empty (x ∷ xs) e = absurd (omega arith)

-- what is read to the end is in canonical decimal
pub read_spelled : (digits rest : List ℕ) (n : ℕ) → number_at 4294967295 digits ≡ Some (n, rest) → length rest ≡ 0 → digits ≡ decimal n
read_spelled digits rest n read none =
    let end : rest ≡ [] = empty rest none in
    let number = number_takes 4294967295 digits (n, rest) (omega arith) read in
    let parts : digits ≡ decimal n ++ rest = number.parts in
    parts ∙ ap (λ (t : List ℕ). decimal n ++ t) end ∙ append-nil (decimal n)

-- what is in canonical decimal is read to the end
pub spelled_read : (digits : List ℕ) (n : ℕ) → digits ≡ decimal n → n < 2 ^ 32 → number_at 4294967295 digits ≡ Some (n, [])
spelled_read digits n spelled small =
    ap (number_at 4294967295) (spelled ∙ sym (append-nil (decimal n))) ∙ number_again 4294967295 n [] (omega arith) (omega arith) refl

-- that number, and no text is left
pub spelled_same : (digits rest : List ℕ) (k n : ℕ) → number_at 4294967295 digits ≡ Some (k, rest) → digits ≡ decimal n → n < 2 ^ 32 → (Some k ≡ Some n) × (length rest ≡ 0)
spelled_same digits rest k n read spelled small =
    let again = spelled_read digits n spelled small in
    let pair : (k, rest) ≡ (n, []) = cc in
    (ap (λ (p : ℕ × List ℕ). Some p.0) pair, ap (λ (p : ℕ × List ℕ). length p.1) pair)

-- and so it is not refused
pub spelled_not_refused : {K X : Type 0} (view : X → ℕ × List ℕ) (r : Result X (Fault K)) (e : Fault K) (digits : List ℕ) (n : ℕ) → r ≡ Err e →
    Gives view r (number_at 4294967295 digits) → IsPlaced digits r → digits ≡ decimal n → n < 2 ^ 32 → ⊥
spelled_not_refused view (Ok x) e digits n is gives placed spelled small = cc
spelled_not_refused view (Err (Memory refused)) e digits n is gives placed spelled small = placed
spelled_not_refused view (Err (Text kind left)) e digits n is gives placed spelled small = let read = spelled_read digits n spelled small in cc
