-- Lists of lines up to an end are read line by line.
use Rattle.std.proofs.Common.{◌≡◌, ℕ, zero, suc, ◌<◌, List, [], ◌∷◌, ◌++◌, length, Option, Some, None, sym, ap, ◌∙◌, refl, arith}
use Rattle.std.proofs.lemmas.List.{append-nil}
use Rattle.scan.specs.Reading.{◌>>=◌, Read}
use Rattle.scan.specs.Lists.{until_at, items_at, value_then}
use Rattle.scan.proofs.Loops.{with_front, regroup}
use Rattle.pieces.specs.Lines.{IsOfPiece}
use Rattle.pieces.proofs.LineLaws.{rest_shorter}

same_steps : {A : Type 0} (o : Read (Option A)) (f g : List ℕ → Read (List A)) → ((x : A) (rest : List ℕ) → o ≡ Some (Some x, rest) → f rest ≡ g rest) → (o >>= λ x. value_then x.0 x.1 (f x.1)) ≡ (o >>= λ x. value_then x.0 x.1 (g x.1))
same_steps None f g same = refl
same_steps (Some (None, rest)) f g same = refl
same_steps (Some (Some x, rest)) f g same = ap (λ later. later >>= λ xs. Some (x ∷ xs.0, xs.1)) (same x rest refl)

until_same : {A : Type 0} (one : List ℕ → Read (Option A)) → IsOfPiece one → (n m : ℕ) (bytes : List ℕ) → length bytes < n → length bytes < m → until_at one n bytes ≡ until_at one m bytes
unfolding until_at
until_same one law zero m bytes a b = absurd (omega (arith, a))
until_same one law (suc n) zero bytes a b = absurd (omega (arith, b))
until_same one law (suc n) (suc m) bytes a b =
    same_steps (one bytes) (until_at one n) (until_at one m) (λ x rest e.
    let shorter = rest_shorter law bytes (Some x) rest e in
    until_same one law n m rest (omega (arith, shorter, a)) (omega (arith, shorter, b)))

items_step : {A : Type 0} (one : List ℕ → Read (Option A)) → IsOfPiece one → (bytes : List ℕ) → items_at one bytes ≡ (one bytes >>= λ x. value_then x.0 x.1 (items_at one x.1))
unfolding until_at
items_step one law bytes =
    same_steps (one bytes) (until_at one (length bytes)) (items_at one) (λ x rest e.
    let shorter = rest_shorter law bytes (Some x) rest e in
    until_same one law (length bytes) (suc (length rest)) rest shorter (omega arith))

-- a value was read
pub items_next : {A : Type 0} (one : List ℕ → Read (Option A)) → IsOfPiece one → (read : Read (List A)) (front : List A) (x : A) (bytes after : List ℕ) → with_front front (items_at one bytes) ≡ read → one bytes ≡ Some (Some x, after)
    → with_front (front ++ x ∷ []) (items_at one after) ≡ read
items_next one law read front x bytes after so_far is =
    sym (regroup front x (items_at one after)) ∙ sym (ap (λ o. with_front front (o >>= λ v. value_then v.0 v.1 (items_at one v.1))) is) ∙ sym (ap (with_front front) (items_step one law bytes)) ∙ so_far

-- the end was read
pub items_last : {A : Type 0} (one : List ℕ → Read (Option A)) → IsOfPiece one → (read : Read (List A)) (front : List A) (bytes after : List ℕ) → with_front front (items_at one bytes) ≡ read → one bytes ≡ Some (None, after) → read ≡ Some (front, after)
items_last one law read front bytes after so_far is =
    sym so_far ∙ ap (with_front front) (items_step one law bytes) ∙ ap (λ o. with_front front (o >>= λ v. value_then v.0 v.1 (items_at one v.1))) is ∙ ap (λ w. Some (w, after)) (append-nil front)

-- neither is read
pub items_none : {A : Type 0} (one : List ℕ → Read (Option A)) → IsOfPiece one → (read : Read (List A)) (front : List A) (bytes : List ℕ) → with_front front (items_at one bytes) ≡ read → one bytes ≡ None → read ≡ None
items_none one law read front bytes so_far none =
    sym so_far ∙ ap (with_front front) (items_step one law bytes) ∙ ap (λ o. with_front front (o >>= λ v. value_then v.0 v.1 (items_at one v.1))) none
