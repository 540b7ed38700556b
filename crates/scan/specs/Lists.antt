-- Values one after another, and the counts of a header.
use Rattle.std.specs.Prelude.{◌≡◌, ℕ, zero, suc, List, [], ◌∷◌, ◌++◌, length, Option, Some, None, ◌-◌, ◌≤◌, All, replicate, decimal}
use Rattle.scan.specs.Reading.{◌>>=◌, Read}
use Rattle.std.specs.List.{flat_map}

-- as many values as the count says
unfoldable pub many_at : {A : Type 0} → (List ℕ → Read A) → ℕ → List ℕ → Read (List A)
many_at one zero bytes = Some ([], bytes)
many_at one (suc n) bytes = do
  first ← one bytes
  others ← many_at one n first.1
  Some (first.0 ∷ others.0, others.1)

-- what follows one value, or the end of the list
abbrev pub value_then : {A : Type 0} → Option A → List ℕ → Read (List A) → Read (List A)
value_then None rest later = Some ([], rest)
value_then (Some x) rest later = later >>= λ xs. Some (x ∷ xs.0, xs.1)

-- the values before the first end, in at most this number of steps
unfoldable pub until_at : {A : Type 0} → (List ℕ → Read (Option A)) → ℕ → List ℕ → Read (List A)
until_at one zero bytes = None
until_at one (suc n) bytes = one bytes >>= λ x. value_then x.0 x.1 (until_at one n x.1)

-- the values before the first end
abbrev pub items_at : {A : Type 0} → (List ℕ → Read (Option A)) → List ℕ → Read (List A)
items_at one bytes = until_at one (suc (length bytes)) bytes

-- texts one after another, each of its own value
abbrev pub Each : {A : Type 0} → (List ℕ → A → Type 0) → List ℕ → List A → Type 0
Each R text [] = text ≡ []
Each R text (x ∷ xs) = (front : List ℕ) × (rest : List ℕ) × R front x × Each R rest xs × (text ≡ front ++ rest)

-- texts one after another, and the text of the end
abbrev pub EachUntil : {A : Type 0} → (List ℕ → Option A → Type 0) → List ℕ → List A → Type 0
EachUntil R text xs = (front : List ℕ) × (end : List ℕ) × Each (λ t x. R t (Some x)) front xs × R end None × (text ≡ front ++ end)

-- a space and a count
abbrev pub spaced : ℕ → List ℕ
spaced n = 32 ∷ decimal n

-- a text is four to eight counts of at most limit, a space before each, and a line end; the counts that are left out are 0
pub record IsCounts (limit : ℕ) (text counts : List ℕ) : Type 0 where
  pub written : List ℕ
  pub enough : 4 ≤ length written
  pub few : length written ≤ 8
  pub within : All (λ n. n ≤ limit) written
  pub padded : counts ≡ written ++ replicate (8 - length written) 0
  pub spells : text ≡ flat_map spaced written ++ 10 ∷ []
