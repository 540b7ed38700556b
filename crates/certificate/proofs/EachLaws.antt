-- Texts one after another, where each value has one text.
use Rattle.std.proofs.Common.{◌≡◌, ℕ, List, [], ◌∷◌, All, refl}
use Rattle.std.specs.Prelude.{flat_map}
use Rattle.std.proofs.lemmas.List.Elements.{All-nil, All-cons, All-head, All-tail}
use Rattle.scan.specs.Lists.{Each}

-- a good value's text
abbrev pub IsText : {A : Type 0} → (A → Type 0) → (A → List ℕ) → List ℕ → A → Type 0
IsText P text t x = (t ≡ text x) × P x

pub each_to : {A : Type 0} (P : A → Type 0) (text : A → List ℕ) (R : List ℕ → A → Type 0) → ((t : List ℕ) (x : A) → R t x → IsText P text t x) → (t : List ℕ) (xs : List A) → Each R t xs
    → (t ≡ flat_map text xs) × All P xs
each_to P text R to t [] e = (e, All-nil P)
each_to P text R to t (x ∷ xs) (a, b, one, others, whole) =
    let r = each_to P text R to b xs others in
    let o = to a x one in
    (rw (whole, o.0, r.0) refl, All-cons P x xs o.1 r.1)

pub each_from : {A : Type 0} (P : A → Type 0) (text : A → List ℕ) (R : List ℕ → A → Type 0) → ((t : List ℕ) (x : A) → IsText P text t x → R t x) → (xs : List A) → All P xs → Each R (flat_map text xs) xs
each_from P text R from [] all = refl
each_from P text R from (x ∷ xs) all =
    (text x, flat_map text xs, from (text x) x (refl, All-head P x xs all), each_from P text R from xs (All-tail P x xs all), refl)
