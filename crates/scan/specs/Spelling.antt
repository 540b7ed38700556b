-- How the texts of parts make the text of a whole.
use Rattle.std.specs.Prelude.{◌≡◌, ℕ, ◌≤◌, List, [], ◌++◌, decimal}

-- the empty text spells this value
abbrev pub Nothing : {A : Type 0} → A → List ℕ → A → Type 0
Nothing x text y = (text ≡ []) × (y ≡ x)

-- a text of one value, and then a text of another, which may depend on the first
abbrev pub Then : {A B : Type 0} → (List ℕ → A → Type 0) → (A → List ℕ → B → Type 0) → List ℕ → B → Type 0
Then {A} R S text y = (x : A) × (a : List ℕ) × (b : List ℕ) × R a x × S x b y × (text ≡ a ++ b)

-- these bytes, and then a text of the value
abbrev pub After : {A : Type 0} → List ℕ → (List ℕ → A → Type 0) → List ℕ → A → Type 0
After bytes R text x = (rest : List ℕ) × R rest x × (text ≡ bytes ++ rest)

-- a number of at most limit, and then a text of the value
abbrev pub NumberThen : {A : Type 0} → ℕ → (ℕ → List ℕ → A → Type 0) → List ℕ → A → Type 0
NumberThen limit S text x = (n : ℕ) × (rest : List ℕ) × (n ≤ limit) × S n rest x × (text ≡ decimal n ++ rest)
